use Rattle.std.proofs.Common.{◌∷◌, [], ℕ, sym, subst}
use Rattle.command_input.specs.Input.{InputView, loaded_of}
use Rattle.plan_build.specs.Plan.{shape_of}
use Rattle.plan_build.specs.Plans.{ArePrepared}
use Rattle.outer_io.specs.SinkState.{state_of}
use Rattle.verdict.specs.AcceptedInput.{AcceptedInput, found_of, queries_in}
use Rattle.command_input.specs.Planned.{IsUnnamed}
use Rattle.anyk_top.specs.Plans.{IsOnePlanOf}
use Rattle.command_input.specs.Tasks.{command_of}
use Rattle.command_input.proofs.Inputs.{input_view}
use Rattle.command_input.proofs.Judging.{unnamed_of}
use Rattle.anyk_top.proofs.PlanList.{first_only, first_planned, one_cost, one_printed}
use Rattle.anyk_top.specs.OutputPrinting.{PrintsOutput}
use Rattle.anyk_top.proofs.execute.print_plan.Goals as goal

pub print_output-requires-clause-plan : goal.print_output-requires-clause-plan
print_output-requires-clause-plan g c =
    let input = input_view c.input.inside in
    let is = subst (λ (i : InputView). IsOnePlanOf g.R.Rank.KEYS g.R.Rank.key i.queries i.tables i.best c.args.plan.now)
    (sym c.input.view_is) c.requires.plan in
    first_planned g.R.Rank.KEYS g.R.Rank.key input c.args.plan.now c.index-query.result.now is c.index-query.ensures

pub print_output-requires-clause-unnamed : goal.print_output-requires-clause-unnamed
print_output-requires-clause-unnamed g c =
    subst (λ (i : InputView). IsUnnamed (command_of c.args.task.now) i.best) (sym c.input.view_is)
    (unnamed_of (command_of c.args.task.now) c.args.input.now c.requires.alone)

pub print_output-requires-clause-planned : goal.print_output-requires-clause-planned
print_output-requires-clause-planned g c = c.requires.planned

pub returns : goal.returns
returns g c =
    let input = input_view c.input.inside in
    let query = c.index-query.result.now in
    let made = c.args.plan.now in
    let is = subst (λ (i : InputView). IsOnePlanOf g.R.Rank.KEYS g.R.Rank.key i.queries i.tables i.best made)
    (sym c.input.view_is) c.requires.plan in
    let only = first_only g.R.Rank.KEYS g.R.Rank.key input made query is c.index-query.ensures in
    let found = one_printed input query c.as_slice-script.result.now (shape_of made) only
    (sym c.as_slice-script.ensures.value) in
    let ready = λ (i : InputView) (before : ℕ). ArePrepared (queries_in i.queries) i.tables before c.args.steps.now in
    let P = λ (i : InputView) (f : AcceptedInput). PrintsOutput (command_of c.args.task.now) f (ready i)
    (state_of g.S.Sink c.args.out.now) (state_of g.S.Sink c.print_output.new.out) c.print_output.new.steps
    c.print_output.result in
    let own = c.print_output.ensures input.proof in
    let one = λ (before : ℕ) (prepared : ready input before). one_cost input query only before c.args.steps.now prepared in
    subst (λ (i : InputView). P i (found_of (loaded_of i) (shape_of made ∷ []))) c.input.view_is
    (subst (P input) (sym found) (record {
      printed = own.printed;
      silent = own.silent;
      bounded = λ before prepared. own.bounded before (one before prepared);
      paced = λ before prepared. own.paced before (one before prepared);
    }))
