use Rattle.std.proofs.Common.{◌≡◌, ◌+◌, ◌<◌, ℕ, List, [], ◌∷◌, ◌++◌, length, get_or, sym, ap, subst, ◌∙◌, inr, arith}
use Rattle.std.proofs.Common.{refl, inl, below_more, length-append}
use Rattle.std.proofs.lemmas.Result.{IfOk-from_err}
use Rattle.proof_model.specs.Certificate.{AnswerLine}
use Rattle.proof_model.specs.ProofView.{listed_view, proof_view}
use Rattle.proof_model.specs.declared.fault.ProofFault.TheVariants as fault
use Rattle.proof_model.specs.Problem.{IsSolutionAt}
use Rattle.proof_model.specs.QueryProblem.{problem_in}
use Rattle.proof_model.specs.Valid.{answer_at}
use Rattle.proof_check.specs.Places.{ArePlacesOf}
use Rattle.proof_check.proofs.AnswerLists.{seen_at, seen_count, all_before, at_last}
use Rattle.proof_check.proofs.Tellings.{told_err}
use Rattle.proof_check.proofs.Counts.{none_below}
use Rattle.proof_check.proofs.solutions.answer_places.Goals as goal

pub returns-in-None : goal.returns-in-None
returns-in-None g c = record {
  places = λ query tables join tree. tt;
  fault = λ query tables join tree.
      let t = problem_in query tables join in
      let cert = proof_view c.args.proof.now in
      let items = c.args.proof.now.answers.items in let i = c.loop-answer.answer-index in
      let x = c.answer-item.result in let list = c.deref-answer-items.ensures.value in
      let l : i < length items = omega (arith, c.loop-answer-test.true, ap length list) in
      let is : answer_at t cert i ≡ listed_view x =
      seen_at items i x (record { line = 0; rows = [] }) l (c.answer-item.is ∙ ap (λ xs. get_or xs i x) list) in
      let rows : (answer_at t cert i).rows ≡ c.as_slice.result.now =
      ap (λ (a : AnswerLine). a.rows) is ∙ sym c.as_slice.ensures.value in
      inr (
        i,
        ap (λ (a : AnswerLine). fault.BadAnswer a.line) (sym is),
        (
          omega (arith, l, seen_count items),
          λ s. c.in-None.ensures query tables join tree (subst (IsSolutionAt t 0) rows s),
          λ j m. (c.loop-answer.invariant.each query tables join tree j m).solution,
        ),
      );
}

pub loop-answer-preserved : goal.loop-answer-preserved
loop-answer-preserved g c =
    let items = c.args.proof.now.answers.items in let i = c.loop-answer.answer-index in
    let x = c.answer-item.result in let list = c.deref-answer-items.ensures.value in
    let l : i < length items = omega (arith, c.loop-answer-test.true, ap length list) in
    let before = c.loop-answer.places.items in let found = c.in-Some.found in
    let pushed : c.push.new.self.items ≡ before ++ found ∷ [] = c.in_ok-push-in-Some.ensures.items in
    record {
      long = ap length pushed ∙ length-append before (found ∷ []) ∙ ap (λ n. n + 1) c.loop-answer.invariant.long;
      each = λ query tables join tree.
          let t = problem_in query tables join in
          let cert = proof_view c.args.proof.now in
          let is : answer_at t cert i ≡ listed_view x =
          seen_at items i x (record { line = 0; rows = [] }) l (c.answer-item.is ∙ ap (λ xs. get_or xs i x) list) in
          let rows : c.as_slice.result.now ≡ (answer_at t cert i).rows =
          c.as_slice.ensures.value ∙ ap (λ (a : AnswerLine). a.rows) (sym is) in
          let P : ℕ → List ℕ → Type 0 =
          λ k places. ArePlacesOf query tables join c.args.raw.now 0 (answer_at t cert k).rows places in
          let all : (k : ℕ) → k < i → P k (get_or before k []) = c.loop-answer.invariant.each query tables join tree in
          let last : P i found =
          subst (λ r. ArePlacesOf query tables join c.args.raw.now 0 r found) rows
          (c.in-Some.ensures query tables join tree) in
          subst (λ ps. (k : ℕ) → k < i + 1 → P k (get_or ps k [])) (sym pushed)
          (below_more _ _ (all_before P before found [] i c.loop-answer.invariant.long all last)
          (at_last P before found [] i c.loop-answer.invariant.long all last));
    }

pub returns : goal.returns
returns g c = record {
  places = λ query tables join tree.
      let items = c.args.proof.now.answers.items in
      let done : c.loop-answer.answer-index ≡ length items =
      omega (
        arith,
        c.loop-answer.auto.answer-index-end,
        c.loop-answer-test.false,
        ap length c.deref-answer-items.ensures.value,
      ) in
      record {
        count = c.loop-answer.invariant.long ∙ done ∙ sym (seen_count items);
        each = λ i l. c.loop-answer.invariant.each query tables join tree i (omega (arith, l, done, seen_count items));
      };
  fault = λ query tables join tree. tt;
}

pub loop-answer-init : goal.loop-answer-init
loop-answer-init g c = record {
  long = ap length c.in_ok-places.ensures.items;
  each = λ query tables join tree i l. absurd (none_below _ l);
}

pub returns-in_err-push-in-Some : goal.returns-in_err-push-in-Some
returns-in_err-push-in-Some g c = record {
  places = λ query tables join tree.
      let end = c.from_residual-in_err-push-in-Some in
      IfOk-from_err end.result _ end.ensures.0;
  fault = λ query tables join tree.
      let end = c.from_residual-in_err-push-in-Some in
      told_err end.result fault.NoMemory _ end.ensures.1 (inl refl);
}

pub returns-in_err-places : goal.returns-in_err-places
returns-in_err-places g c = record {
  places = λ query tables join tree.
      IfOk-from_err c.from_residual.result _ c.from_residual.ensures.0;
  fault = λ query tables join tree.
      told_err c.from_residual.result fault.NoMemory _ c.from_residual.ensures.1 (inl refl);
}
