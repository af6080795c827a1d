use Rattle.tdp_core.specs.WellFormed.{IsTieFreeTree}
use Rattle.plan_tests.proofs.SampleFacts.{sample_tie_free, on_ok}
use Rattle.plan_tests.proofs.solving.tree_of.Goals as goal

pub returns-clause-tie_free : goal.returns-clause-tie_free
returns-clause-tie_free g c = on_ok IsTieFreeTree _ (λ t s. s.tie_free (c.in_ok-reduced.ensures.reduced.tie_free (sample_tie_free c.args.raw c.requires))) c.solve.result c.solve.ensures.solved
