use Rattle.std.proofs.Common.{◌<◌, ◌∙◌, ℕ, ap, length, sym, subst}
use Rattle.anyk_model.specs.Output.{Style, cut}
use Rattle.cmd_words.specs.ArgumentMeaning.{words_view}
use Rattle.outer_io.proofs.Prints.{printed_some}
use Rattle.outer_io.specs.SinkState.{state_of}
use Rattle.command_input.specs.Input.{InputView, loaded_of}
use Rattle.plan_build.specs.Plans.{ArePrepared, HavePlans}
use Rattle.anyk_model.specs.TaggedRows.{branch_at}
use Rattle.anyk_model.specs.Union.{union_of}
use Rattle.anyk_model.specs.UnionOutput.{union_output_of}
use Rattle.verdict.specs.AcceptedInput.{found_of, queries_in}
use Rattle.verdict.specs.Output.{HasOutput}
use Rattle.verdict.specs.UnionBound.{KeepsUnionPace}
use Rattle.verdict.specs.Words.{run}
use Rattle.command_input.specs.Tasks.{words_of}
use Rattle.anyk_top.specs.Plans.{shapes_of}
use Rattle.command_input.proofs.Inputs.{input_view}
use Rattle.command_input.proofs.Judging.{never_several}
use Rattle.anyk_top.specs.OutputPrinting.{PrintsOutput}
use Rattle.anyk_top.proofs.Bounds.{several_output, several_paced, several_within}
use Rattle.anyk_top.proofs.PlanList.{plans_shaped}
use Rattle.anyk_top.proofs.execute.print_branches.Goals as goal

pub returns : goal.returns
returns g c =
    let input = input_view c.input.inside in
    let words = words_of (words_view c.in-Run.words) in
    let shapes = shapes_of c.args.plans.now in
    let more : 1 < length input.queries =
    subst (λ (i : InputView). 1 < length i.queries) (sym c.input.view_is) c.requires.several in
    let have = subst (λ (i : InputView). HavePlans g.R.Rank.KEYS g.R.Rank.key i.tables i.queries c.args.plans.now)
    (sym c.input.view_is) c.requires.plans in
    let has = plans_shaped g.R.Rank.KEYS g.R.Rank.key input.tables input.queries c.args.plans.now have in
    let old = state_of g.S.Sink c.args.out.now in
    let new = state_of g.S.Sink c.print_union_run.new.out in
    let now = c.print_union_run.new.steps in
    let all = queries_in input.queries in
    let members = cut (branch_at all 0).limit (union_of all input.tables) in
    let text = ap (λ (style : Style). union_output_of all input.tables style members) c.style_in-style.ensures in
    let printed = rw c.as_slice-queries.ensures.value at c.print_union_run.ensures.printed in
    let bounded = rw c.as_slice-queries.ensures.value at c.print_union_run.ensures.bounded in
    let K = λ (style : Style). (before : ℕ) → ArePrepared all input.tables before c.args.steps.now
    → KeepsUnionPace all input.tables members style old.written new.written before now in
    let paced = subst K c.style_in-style.ensures (rw c.as_slice-queries.ensures.value at c.print_union_run.ensures.paced) in
    let P = λ (i : InputView). PrintsOutput (run words) (found_of (loaded_of i) shapes)
    (λ (before : ℕ). ArePrepared (queries_in i.queries) i.tables before c.args.steps.now) old new now
    c.print_union_run.result in
    let own : P input = record {
      printed = printed_some (HasOutput (run words) (found_of (loaded_of input) shapes)) _ _ _ _
          (text ∙ sym (several_output words input shapes more)) printed;
      silent = tt;
      bounded = λ before prepared.
          several_within words input shapes before now more (bounded before prepared shapes has);
      paced = λ before prepared.
          several_paced words input shapes old.written new.written before now more (paced before prepared shapes has);
    } in
    rw c.in-Run.is (subst P c.input.view_is own)

-- only `run` may have several queries
pub unreachable-requires : goal.unreachable-requires
unreachable-requires g c =
    never_several c.args.task.now c.args.input.now c.in_default.not-Run c.requires.alone c.requires.several
