use Rattle.std.proofs.Common.{◌≡◌, ◌∙◌, ◌∷◌, [], Err, ap, length, subst, sym}
use Rattle.cmd_words.specs.ArgumentMeaning.{words_view}
use Rattle.refusals.specs.PrintRefusals.{refused}
use Rattle.outer_io.specs.SinkState.{state_of}
use Rattle.command_input.proofs.Inputs.{input_view}
use Rattle.command_input.proofs.Singletons.{only_one}
use Rattle.command_input.specs.Input.{InputView, loaded_of}
use Rattle.command_input.specs.Tasks.{words_of}
use Rattle.command_verify.specs.Verifications.{HasAnswers, IsShown}
use Rattle.command_verify.proofs.Verifying.{rejected_in, shown_in}
use Rattle.command_verify.proofs.verify.verify_input.Given.{Over}
use Rattle.command_verify.proofs.verify.verify_input.Goals.{After-check_proof}
use Rattle.command_verify.proofs.verify.verify_input.Goals as goal

-- the input has one query
module _ (g : Over) (c : After-check_proof g) where
  only : (input_view c.input.inside).queries ≡ c.index-query.result.now ∷ []
  only =
      let input = input_view c.input.inside in
      only_one input.queries c.index-query.result.now
      (ap (λ (i : InputView). length i.queries) c.input.view_is ∙ c.requires.one) c.index-query.ensures

pub print_checked-requires : goal.print_checked-requires
print_checked-requires g c =
    let input = input_view c.input.inside in
    let end = (goal.at.print_checked-requires g c).After-check_proof in
    rw c.deref.ensures.value (subst (λ (i : InputView). HasAnswers i c.in-Ok.answers.items) c.input.view_is (record {
      query = c.index-query.result.now;
      only = only g end;
      unnamed = ap (λ (i : InputView). i.best) c.input.view_is ∙ c.requires.unnamed;
      listed = c.in-Ok.ensures.answers;
    }))

pub returns-in-Ok : goal.returns-in-Ok
returns-in-Ok g c =
    let input = input_view c.input.inside in
    let end = (goal.at.returns-in-Ok g c).After-check_proof in
    rw c.refused.ensures (subst (λ (i : InputView). IsShown (words_of (words_view c.args.words.now)) (loaded_of i)
    (state_of g.S.Sink c.args.out.now) (state_of g.S.Sink c.print_checked.new.out) (refused c.print_checked.result)) c.input.view_is
    (shown_in (words_of (words_view c.args.words.now)) input c.index-query.result.now (only g end) _ _ c.print_checked.result
    c.in-Ok.ensures.checked (rw (sym c.input.view_is) at c.print_checked.ensures)))

pub returns-in-Err : goal.returns-in-Err
returns-in-Err g c =
    let input = input_view c.input.inside in
    let end = (goal.at.returns-in-Err g c).After-check_proof in
    subst (λ (i : InputView). IsShown (words_of (words_view c.args.words.now)) (loaded_of i)
    (state_of g.S.Sink c.args.out.now) (state_of g.S.Sink c.args.out.now) (Err c.check_refusal.result)) c.input.view_is
    (rejected_in (words_of (words_view c.args.words.now)) input c.index-query.result.now (only g end) (state_of g.S.Sink c.args.out.now)
    c.in-Err.fault c.check_refusal.result c.check_refusal.ensures c.in-Err.ensures.checked)
