use Rattle.std.proofs.Common.{◌≡◌, Err, List, refl, rules, subst, sym}
use Rattle.proof_model.specs.ProofTexts.{IsProofText}
use Rattle.outer_io.specs.declared.fault.PrintFault.TheVariants as fault
use Rattle.outer_io.proofs.Prints.{appends_nothing, none_printed}
use Rattle.tdp_core.specs.Solutions.{IsTreeRanking}
use Rattle.tdp_core.specs.TreeView.{NodeView}
use Rattle.anyk_top.proofs.certificate.print_certificate.Goals as goal

pub engine_over-requires : goal.engine_over-requires
engine_over-requires g c = record { tie_free = c.requires.plan.2.whole.tie_free }

pub returns-in_err-chosen : goal.returns-in_err-chosen
returns-in_err-chosen g c = record {
  printed = λ tables fits is.
      let e : c.from_residual.result ≡ Err fault.NoMemory = search rules in
      rw e (none_printed (IsProofText c.args.query.now.query tables) _);
  silent = let e : c.from_residual.result ≡ Err fault.NoMemory = search rules in rw e (appends_nothing _);
}

pub print_proof-printed-requires-clause-planned : goal.print_proof-printed-requires-clause-planned
print_proof-printed-requires-clause-planned g c =
    let plan = c.requires.plan in
    (plan.0, c.args.plan.now, plan.1, plan.2, sym c.tree.ensures)

pub print_proof-printed-requires-clause-rest : goal.print_proof-printed-requires-clause-rest
print_proof-printed-requires-clause-rest g c =
    let ranking = c.in_ok-chosen.ensures.ranking refl in (
      ranking.0,
      subst (λ (t : List (NodeView g.row.R.Denot)). IsTreeRanking t g.R.Rank.KEYS g.R.Rank.key ranking.0) (sym c.tree.ensures) ranking.1,
      ranking.2,
    )

pub returns : goal.returns
returns g c =
    record {
      printed = λ tables fits is. c.print_proof-printed.ensures.printed tables c.args.plan.now fits is (sym c.tree.ensures);
      silent = c.print_proof-printed.ensures.silent;
    }
