-- What a call on one cursor shows: whether it is open, and its place in the set after the call.
use Rattle.std.proofs.Common.{◌≡◌, ℕ, Option, Some, IsSome, refl, sym, ap, ◌∙◌, subst}
use Rattle.cursor_set.specs.CursorSet.{CursorSet, place_of, with_place}

-- a set, of which `v` is the view
module _ (v old : CursorSet) (e : v ≡ old) where
  pub place_here : (id : ℕ) (o : Option ℕ) → place_of v id ≡ o → place_of old id ≡ o
  place_here id o at = ap (λ s. place_of s id) (sym e) ∙ at

  pub open_here : (id p : ℕ) → place_of v id ≡ Some p → IsSome (place_of old id)
  open_here id p at = subst IsSome (sym (place_here id (Some p) at)) refl

  pub changed_here : (id : ℕ) (o q : Option ℕ) → o ≡ q → with_place v id o ≡ with_place old id q
  changed_here id o q same = ap (λ s. with_place s id o) e ∙ ap (with_place old id) same
