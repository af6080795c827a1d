use Rattle.std.proofs.Common.{◌<◌, length, subst, sym}
use Rattle.plan_build.specs.Plans.{ArePrepared, HavePlans}
use Rattle.std.proofs.Common.{IfOk}
use Rattle.command_input.specs.Input.{InputView, loaded_of}
use Rattle.verdict.specs.AcceptedInput.{queries_in}
use Rattle.verdict.specs.StageResults.{Pure}
use Rattle.verdict.specs.Verdict.{IsShaped}
use Rattle.anyk_top.specs.Plans.{several_result_view}
use Rattle.command_input.proofs.Inputs.{input_view}
use Rattle.anyk_top.proofs.PlanList.{several_shaped}
use Rattle.anyk_top.proofs.planning.plans_for.Goals as goal

pub returns-clause-shaped : goal.returns-clause-shaped
returns-clause-shaped g c =
    let input = input_view c.input.inside in
    let made = c.plans_over.result in
    let more : 1 < length input.queries = subst (λ (i : InputView). 1 < length i.queries) (sym c.input.view_is) c.requires.several in
    subst (λ (i : InputView). Pure (IsShaped (loaded_of i)) (several_result_view (loaded_of i) made)) c.input.view_is
    (several_shaped g.R.Rank.KEYS g.R.Rank.key input made more (rw c.deref.ensures.value at c.plans_over.ensures.shaped)
    (rw c.deref.ensures.value at c.plans_over.ensures.plans))

pub returns-clause-plans : goal.returns-clause-plans
returns-clause-plans g c =
    subst (λ (i : InputView). IfOk c.plans_over.result (λ v. HavePlans g.R.Rank.KEYS g.R.Rank.key i.tables i.queries v.items)) c.input.view_is
    (rw c.deref.ensures.value at c.plans_over.ensures.plans)

pub returns-clause-cost : goal.returns-clause-cost
returns-clause-cost g c =
    subst (λ (i : InputView). ArePrepared (queries_in i.queries) i.tables c.args.steps.now c.plans_over.new.steps) c.input.view_is
    (rw c.deref.ensures.value at c.plans_over.ensures.cost)
