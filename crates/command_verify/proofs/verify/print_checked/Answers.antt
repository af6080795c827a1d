use Rattle.std.proofs.Common.{◌≡◌, ◌∷◌, ◌∙◌, [], List, ℕ, ap, get_or, length, subst, sym, take}
use Rattle.std.specs.List.{AllByRecursion}
use Rattle.anyk_model.specs.Output.{output_of}
use Rattle.anyk_model.specs.Query.{IsCombination, row_counts}
use Rattle.cmd_words.specs.ArgumentMeaning.{words_view}
use Rattle.proof_check.specs.RowLists.{item_rows}
use Rattle.bound_query.specs.WeighedQuery.{BoundQuery}
use Rattle.command_input.specs.Input.{InputView, loaded_of}
use Rattle.outer_io.specs.Printing.{Printed}
use Rattle.outer_io.specs.SinkState.{state_of}
use Rattle.verdict.specs.AcceptedInput.{found_of}
use Rattle.verdict.specs.Output.{answers_text, style_of}
use Rattle.command_input.specs.Tasks.{words_of}
use Rattle.command_verify.specs.Verifications.{HasAnswers}
use Rattle.command_input.proofs.Inputs.{input_view}
use Rattle.command_verify.proofs.Verifying.{answers_combine, answers_shown}
use Rattle.command_verify.proofs.verify.print_checked.Goals as goal

pub print_listed-requires-clause-rows : goal.print_listed-requires-clause-rows
print_listed-requires-clause-rows g c =
    let input = input_view c.input.inside in
    let answers : List (List ℕ) = c.args.answers.now in
    let h = subst (λ (i : InputView). HasAnswers i answers) (sym c.input.view_is) c.requires in
    let query = c.index-query.result.now in
    let same : query ≡ h.query = c.index-query.ensures ∙ ap (λ (l : List BoundQuery). get_or l 0 query) h.only in
    subst (λ (q : BoundQuery). AllByRecursion (λ rows. IsCombination (row_counts q.query.items input.tables) (take (length q.query.items) rows)) answers)
    (sym same) (answers_combine input answers h)

pub returns : goal.returns
returns g c shape =
    let input = input_view c.input.inside in
    let answers : List (List ℕ) = c.args.answers.now in
    let words = words_of (words_view c.args.words.now) in
    let h = subst (λ (i : InputView). HasAnswers i answers) (sym c.input.view_is) c.requires in
    let query = c.index-query.result.now in
    let same : query ≡ h.query = c.index-query.ensures ∙ ap (λ (l : List BoundQuery). get_or l 0 query) h.only in
    let P = λ (text : List ℕ). Printed (state_of g.S.Sink c.args.out.now) (state_of g.S.Sink c.print_listed.new.out) text c.print_listed.result in
    subst (λ (i : InputView). P (answers_text words (found_of (loaded_of i) (shape ∷ [])))) c.input.view_is
    (subst P (answers_shown words input shape answers h)
    (subst (λ (q : BoundQuery). P (output_of q.query input.tables (style_of words) (item_rows q.query answers))) same c.print_listed.ensures))
