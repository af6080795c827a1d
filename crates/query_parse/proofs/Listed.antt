-- Texts of a list's elements, one after another.
use Rattle.std.proofs.Common.{◌≡◌, ◌<◌, ◌≤◌, ◌+◌, ◌-◌, ℕ, List, [], ◌∷◌, ◌++◌, length, get_or, take, drop, sym, ap, ◌∙◌, append_assoc, append-nil, arith}
use Rattle.std.specs.List.{flat_map}
use Rattle.std.proofs.lemmas.List.{take_all, take_more}
use Rattle.std.proofs.lemmas.Grind.{flat_map-append}

-- the elements of a list after its first one, as a pattern gives them
abbrev pub rest_of : {A : Type 0} → List A → List A
rest_of xs = take (length xs - 1) (drop 1 xs)

module _ {A : Type 0} (f : A → List ℕ) (before : List ℕ) (xs : List A) (i : ℕ) (text : List ℕ) (so_far : text ≡ before ++ flat_map f (take i xs)) where
  -- the text of one more element
  pub one_more : (x : A) (new : List ℕ) → i < length xs → x ≡ get_or xs i x → new ≡ text ++ f x → new ≡ before ++ flat_map f (take (i + 1) xs)
  one_more x new inside is more =
      let one : flat_map f (take i xs ++ get_or xs i x ∷ []) ≡ flat_map f (take i xs) ++ f x =
      flat_map-append f (take i xs) (get_or xs i x ∷ []) ∙ ap (λ (l : List ℕ). flat_map f (take i xs) ++ l) (append-nil (f (get_or xs i x)) ∙ ap f (sym is)) in
      more ∙ ap (λ (l : List ℕ). l ++ f x) so_far ∙ append_assoc before (flat_map f (take i xs)) (f x)
      ∙ ap (λ (l : List ℕ). before ++ l) (sym (ap (flat_map f) (take_more xs i x inside) ∙ one))

-- the text of a whole list, whose first element has another text
pub whole : {A : Type 0} (of_list : List A → List ℕ) (of_first f : A → List ℕ) → ((x : A) (xs : List A) → of_list (x ∷ xs) ≡ of_first x ++ flat_map f xs)
    → (xs : List A) (x : A) (start before text : List ℕ) (i : ℕ) → 1 ≤ length xs → x ≡ get_or xs 0 x → before ≡ start ++ of_first x
    → length (rest_of xs) ≤ i → text ≡ before ++ flat_map f (take i (rest_of xs)) → text ≡ start ++ of_list xs
whole {A = A} of_list of_first f step [] x start before text i some first begun past said = absurd (omega (arith, some))
whole {A = A} of_list of_first f step (y ∷ ys) x start before text i some first begun past said =
    let others : take i (rest_of (y ∷ ys)) ≡ ys = take_all i (rest_of (y ∷ ys)) past ∙ take_all (length (y ∷ ys) - 1) ys (omega arith) in
    said ∙ (λ j. begun j ++ flat_map f (others j)) ∙ append_assoc start (of_first x) (flat_map f ys)
    ∙ ap (λ (l : List ℕ). start ++ l) (ap (λ (z : A). of_first z ++ flat_map f ys) first ∙ sym (step y ys))
