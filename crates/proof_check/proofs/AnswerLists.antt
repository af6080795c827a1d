-- Answers as a list has them, and as contracts see them.
use Rattle.std.proofs.Common.{◌≡◌, ℕ, ◌<◌, List, [], ◌∷◌, ◌++◌, map, length, get_or, sym, ap, subst, ◌∙◌, arith}
use Rattle.std.proofs.Math.ListN.{get_or-append}
use Rattle.std.proofs.Math.Seq.{get_or-append_seam}
use Rattle.std.proofs.lemmas.List.{get_or-map, length-map}
use Rattle.proof_model.specs.Certificate.{AnswerLine}
use Rattle.proof_model.specs.ProofView.{listed_view}
use Rattle.proof_model.specs.declared.proof.Listed.{Listed}

pub seen_at : (items : List Listed) (i : ℕ) (x : Listed) (z : AnswerLine) → i < length items → x ≡ get_or items i x
    → get_or (map listed_view items) i z ≡ listed_view x
seen_at items i x z l e = get_or-map listed_view items i x z l ∙ ap listed_view (sym e)

pub seen_count : (items : List Listed) → length (map listed_view items) ≡ length items
seen_count items = length-map items listed_view

-- one more element of a list
module _ {A : Type 0} (P : ℕ → A → Type 0) (xs : List A) (x z : A) (n : ℕ) (long : length xs ≡ n)
    (all : (i : ℕ) → i < n → P i (get_or xs i z)) (last : P n x) where
  pub all_before : (i : ℕ) → i < n → P i (get_or (xs ++ x ∷ []) i z)
  all_before i l = subst (P i) (sym (get_or-append xs (x ∷ []) z i (omega (arith, l, long)))) (all i l)

  pub at_last : P n (get_or (xs ++ x ∷ []) n z)
  at_last = subst (λ k. P n (get_or (xs ++ x ∷ []) k z)) long (subst (P n) (sym (get_or-append_seam xs x [] z)) last)
