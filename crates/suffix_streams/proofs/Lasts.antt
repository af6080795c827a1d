-- The last of a list before other things.
use Rattle.std.proofs.Common.{◌≡◌, suc, ◌-◌, ◌<◌, List, [], ◌∷◌, ◌++◌, length, get_or, refl, ap, ◌∙◌, arith}
use Rattle.suffix_streams.specs.TreeStreams.{with_last}

module _ {A : Type 0} where
  pub last_more : (xs : List A) (x : A) (others : List A) → with_last (xs ++ (x ∷ [])) others ≡ x ∷ others
  last_more [] x others = refl
  last_more (y ∷ []) x others = refl
  last_more (y ∷ (z ∷ xs)) x others = last_more (z ∷ xs) x others

  pub last_more_at : (xs : List A) (x d : A) → get_or (xs ++ (x ∷ [])) (length (xs ++ (x ∷ [])) - 1) d ≡ x
  last_more_at [] x d = refl
  last_more_at (y ∷ []) x d = refl
  last_more_at (y ∷ (z ∷ xs)) x d =
      let next : length (y ∷ (z ∷ (xs ++ (x ∷ [])))) - 1 ≡ suc (length (z ∷ (xs ++ (x ∷ []))) - 1) = omega arith in
      ap (λ k. get_or (y ∷ (z ∷ (xs ++ (x ∷ [])))) k d) next ∙ last_more_at (z ∷ xs) x d

  pub last_first : (xs : List A) (x : A) (others : List A) → 0 < length xs → x ≡ get_or xs (length xs - 1) x → with_last xs others ≡ x ∷ others
  last_first [] x others l e = absurd (omega arith)
  last_first (y ∷ []) x others l e = ap (λ z. z ∷ others) (flip e)
    where
      flip : {a b : A} → a ≡ b → b ≡ a
      flip e = cc
  last_first (y ∷ (z ∷ xs)) x others l e =
      let next : length (y ∷ (z ∷ xs)) - 1 ≡ suc (length (z ∷ xs) - 1) = omega arith in
      last_first (z ∷ xs) x others (omega arith) (e ∙ ap (λ k. get_or (y ∷ (z ∷ xs)) k x) next)
