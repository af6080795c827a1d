use Rattle.std.proofs.Common.{◌≡◌, ◌<◌, ◌+◌, ℕ, None, Option, [], ◌∷◌, ◌++◌, length, get_or, sym, ap, subst, ◌∙◌}
use Rattle.std.proofs.Common.{inl, inr, arith, length-append}
use Rattle.std.specs.Option.{MatchOption}
use Rattle.std.proofs.lemmas.Bool.{cases_lt}
use Rattle.std.proofs.lemmas.List.{get_or_append_left, get_or_push}
use Rattle.proof_check.specs.declared.open_places.OpenPlace.{OpenPlace}
use Rattle.proof_check.specs.Levels.{IsOpenPlace, IsNoOpenPlace, list_at}
use Rattle.std.proofs.lemmas.Result.{IfOk-from_err}
use Rattle.proof_check.proofs.deviations.branches_of.Goals as goal

pub loop-n-preserved : goal.loop-n-preserved
loop-n-preserved g c =
    let d = g.R.Rank.KEYS in let key = g.R.Rank.key in let join = c.args.join.now in
    let tree = c.args.tree.now in let p = c.args.node in let starts = c.args.starts.now in
    let n = c.loop-n.n in let old = c.loop-n.branches.items in
    let x = c.open_place_of-branch.result in let size = c.loop-n.invariant.count in
    let Is : ℕ → Option (OpenPlace g.row.R.Denot) → Type 0 =
    λ m o. MatchOption o (IsNoOpenPlace join tree d key p (list_at starts m)) (IsOpenPlace join tree d key p (list_at starts m)) in
    let here : Is n x = c.open_place_of-branch.ensures in
    let both : (m : ℕ) → m < length (old ++ x ∷ []) → Is m (get_or (old ++ x ∷ []) m None) = λ m l. elim (cases_lt m n) [
      | inl less ↦
          let h : m < length old = omega (arith, less, size) in
          subst (Is m) (sym (get_or_append_left old (x ∷ []) None m h)) (c.loop-n.invariant.each m h)
      | inr far ↦
          let at : m ≡ n = omega (arith, l, far, size, length-append old (x ∷ [])) in
          subst (Is m) (sym (get_or_push old x None m (omega (arith, at, size)))) (subst (λ z. Is z x) (sym at) here)
    ] in
    record {
      count = ap length c.in_ok-push.ensures.items ∙ length-append old (x ∷ []) ∙ ap (λ z. z + 1) size;
      each = subst (λ xs. (m : ℕ) → m < length xs → Is m (get_or xs m None)) (sym c.in_ok-push.ensures.items) both;
    }

pub open_place_of-branch-requires-clause-ready : goal.open_place_of-branch-requires-clause-ready
open_place_of-branch-requires-clause-ready g c = c.requires.ready

pub returns-in_err-push : goal.returns-in_err-push
returns-in_err-push g c = record {
  count = IfOk-from_err c.from_residual.result _ c.from_residual.ensures.0;
  each = IfOk-from_err c.from_residual.result _ c.from_residual.ensures.0;
}

pub returns : goal.returns
returns g c = record {
  count =
      let v = c.loop-n.branches in omega (arith, c.loop-n.invariant.count, c.loop-n-test.false, c.loop-n.auto.n-end);
  each = c.loop-n.invariant.each;
}

pub loop-n-init : goal.loop-n-init
loop-n-init g c =
    let none = c.new-branches.ensures.items in
    record { count = ap length none; each = λ n l. absurd (omega (arith, l, ap length none)) }

pub open_place_of-branch-requires-clause-rows : goal.open_place_of-branch-requires-clause-rows
open_place_of-branch-requires-clause-rows g c q h = c.requires.rows c.loop-n.n q c.loop-n-test.true h
