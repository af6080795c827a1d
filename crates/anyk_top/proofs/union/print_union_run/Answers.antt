use Rattle.std.proofs.Common.{◌≡◌, ◌∙◌, ℕ, List, Err, sym, subst, ap, rules}
use Rattle.anyk_model.specs.Query.{Query}
use Rattle.bound_query.specs.WeighedQuery.{BoundQuery}
use Rattle.command_output.specs.UnionSteps.{AreMembers}
use Rattle.engine_choice.specs.Engines.{rest_of}
use Rattle.outer_io.specs.declared.fault.PrintFault.TheVariants as fault
use Rattle.outer_io.proofs.Prints.{unprinted}
use Rattle.union_all.specs.Merge.{AreLeft, rests_of}
use Rattle.union_all.proofs.Rankings.{rankings_left}
use Rattle.anyk_model.specs.TaggedRows.{Tagged}
use Rattle.anyk_model.specs.Union.{left_of, union_of}
use Rattle.verdict.specs.AcceptedInput.{queries_in}
use Rattle.anyk_top.proofs.UnionRun.{called_any, due_any, engines_same, first_limit, rests_are}
use Rattle.anyk_top.proofs.UnionRun.{started_any, tie_free_lem, union_left, union_members}
use Rattle.anyk_top.proofs.union.print_union_run.Given.{Over}
use Rattle.anyk_top.proofs.union.print_union_run.Goals.{In_ok-merge}
use Rattle.anyk_top.proofs.union.print_union_run.Goals as goal

module _ (g : Over) where
  -- the merge gives the union
  left_is : (c : In_ok-merge g) → c.in_ok-merge.merge.rest ≡ union_of (queries_in c.args.asked.now.queries.now) c.args.asked.now.tables.now
  left_is c =
      let asked = c.args.asked.now in
      let engines = c.in_ok-engines.engines.items in
      c.in_ok-merge.ensures.rest
      ∙ ap (λ (qs : List Query). left_of qs asked.tables.now (rests_of (rest_of g.R.Rank.KEYS g.R.Rank.key) qs engines)) c.in_ok-merge.ensures.queries
      ∙ union_left g.R.Rank.KEYS g.R.Rank.key asked.tables.now asked.queries.now asked.plans.now engines c.requires.plans c.in_ok-engines.ensures.started

pub engines_over-requires : goal.engines_over-requires
engines_over-requires g c = record {
  tie_free = tie_free_lem g.R.Rank.KEYS g.R.Rank.key c.args.asked.now.tables.now c.args.asked.now.queries.now c.args.asked.now.plans.now c.requires.plans;
}

pub returns-in_err-engines : goal.returns-in_err-engines
returns-in_err-engines g c =
    let asked = c.args.asked.now in
    let e : c.from_residual.result ≡ Err fault.NoMemory = search rules in
    record {
      printed = rw e (unprinted _ _);
      bounded = λ before prepared shapes has.
          started_any g.R.Rank.KEYS g.R.Rank.key asked.tables.now asked.queries.now asked.plans.now c.requires.fits
          c.requires.plans before c.args.steps.now prepared
          c.engines_over.new.steps c.in_err-engines.ensures.cost _ shapes has;
      paced = λ before prepared shapes has start part is_old is_new.
          started_any g.R.Rank.KEYS g.R.Rank.key asked.tables.now asked.queries.now asked.plans.now c.requires.fits
          c.requires.plans before c.args.steps.now prepared
          c.engines_over.new.steps c.in_err-engines.ensures.cost _ shapes has;
    }

pub new-requires-clause-each : goal.new-requires-clause-each
new-requires-clause-each g c =
    let asked = c.args.asked.now in
    engines_same g.R.Rank.KEYS g.R.Rank.key asked.tables.now asked.queries.now asked.plans.now
    c.in_ok-engines.engines.items c.requires.plans c.in_ok-engines.ensures.started

pub new-requires-clause-left : goal.new-requires-clause-left
new-requires-clause-left g c =
    let asked = c.args.asked.now in
    let all = queries_in asked.queries.now in
    let rests = rests_are g.R.Rank.KEYS g.R.Rank.key asked.tables.now asked.queries.now asked.plans.now
    c.in_ok-engines.engines.items c.requires.plans
    c.in_ok-engines.ensures.started in
    subst (λ (lists : List (List (List ℕ))). AreLeft all asked.tables.now lists) (sym rests)
    (rankings_left all asked.tables.now)

pub returns-in_err-merge : goal.returns-in_err-merge
returns-in_err-merge g c =
    let asked = c.args.asked.now in
    let e : c.from_residual-in_err-merge.result ≡ Err fault.NoMemory = search rules in
    record {
      printed = rw e (unprinted _ _);
      bounded = λ before prepared shapes has.
          due_any g.R.Rank.KEYS g.R.Rank.key asked.tables.now asked.queries.now asked.plans.now c.requires.fits
          c.requires.plans before c.args.steps.now prepared
          c.in_ok-engines.engines.items c.in_ok-engines.ensures.started c.engines_over.new.steps c.new.new.steps
          c.in_ok-engines.ensures.cost c.in_err-merge.ensures.cost _ shapes has;
      paced = λ before prepared shapes has start part is_old is_new.
          due_any g.R.Rank.KEYS g.R.Rank.key asked.tables.now asked.queries.now asked.plans.now c.requires.fits
          c.requires.plans before c.args.steps.now prepared
          c.in_ok-engines.engines.items c.in_ok-engines.ensures.started c.engines_over.new.steps c.new.new.steps
          c.in_ok-engines.ensures.cost c.in_err-merge.ensures.cost _ shapes has;
    }

pub print_union-requires-clause-members : goal.print_union-requires-clause-members
print_union-requires-clause-members g c =
    let asked = c.args.asked.now in
    let left = left_is g (goal.at.print_union-requires-clause-members g c).In_ok-merge in
    let all = queries_in asked.queries.now in
    subst (λ (list : List Tagged). AreMembers all asked.tables.now list) (sym left) (union_members all asked.tables.now)

pub returns : goal.returns
returns g c =
    let asked = c.args.asked.now in
    let left = left_is g (goal.at.returns g c).In_ok-merge in
    let first : BoundQuery = c.index-asked-0.result in
    let limit = c.limit.ensures ∙ ap (λ (q : BoundQuery). q.query.limit) (sym c.index-asked-0.is)
    ∙ first_limit asked.queries.now first c.requires.some c.index-asked-0.is in
    let called = called_any g.R.Rank.KEYS g.R.Rank.key asked.tables.now asked.queries.now asked.plans.now c.requires.fits c.requires.plans in
    record {
      printed = rw (limit, left) at c.print_union.ensures.printed;
      bounded = λ before prepared shapes has.
          called before c.args.steps.now prepared
          c.in_ok-engines.engines.items c.in_ok-merge.merge.engines c.in_ok-engines.ensures.started c.in_ok-merge.ensures.engines c.engines_over.new.steps
          c.new.new.steps c.print_union.new.steps
          c.in_ok-engines.ensures.cost c.in_ok-merge.ensures.cost _ (rw (limit, left) at c.print_union.ensures.bounded) shapes has;
      paced = λ before prepared shapes has start part is_old is_new.
          called before c.args.steps.now prepared
          c.in_ok-engines.engines.items c.in_ok-merge.merge.engines c.in_ok-engines.ensures.started c.in_ok-merge.ensures.engines c.engines_over.new.steps
          c.new.new.steps c.print_union.new.steps
          c.in_ok-engines.ensures.cost c.in_ok-merge.ensures.cost _
          (rw (limit, left) at (c.print_union.ensures.prompt start part is_old is_new)) shapes has;
    }
