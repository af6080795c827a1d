-- How many bytes from the front on pass a test, in a loop that has come to the byte i.
use Rattle.std.proofs.Common.{◌≡◌, ℕ, suc, ◌+◌, ◌<◌, ◌≤◌, ◌==◌, ◌&&◌, List, [], ◌∷◌, length, drop, get_or, Some, None, Bool, true, false, cond, not, nat_lt, refl, sym, ap, ◌∙◌, inl, inr, arith}
use Rattle.std.proofs.Math.Seq.{drop-cons}
use Rattle.std.proofs.lemmas.Bool.{cases_eq, false_from_ne_true, le-ltb, lt-ltb}
use Rattle.std.proofs.lemmas.Bool.Decides.{Decides-eqb}
use Rattle.std.proofs.lemmas.List.Sums.{prefix_len-le-length}
use Rattle.std.specs.List.{list_all, position, prefix_len}

module _ (p : ℕ → Bool) (bs : List ℕ) (i : ℕ) (so_far : prefix_len p bs ≡ i + prefix_len p (drop i bs)) where
  turn : (t : Bool) → i < length bs → p (get_or bs i 0) ≡ t → prefix_len p bs ≡ i + cond t (1 + prefix_len p (drop (i + 1) bs)) 0
  turn t h e =
      let next : suc i ≡ i + 1 = omega arith in
      so_far ∙ ap (λ (l : List ℕ). i + prefix_len p l) (drop-cons bs i 0 h ∙ ap (λ (k : ℕ). get_or bs i 0 ∷ drop k bs) next)
      ∙ ap (λ (b : Bool). i + cond b (1 + prefix_len p (drop (i + 1) bs)) 0) e

  pub prefix_more : i < length bs → p (get_or bs i 0) ≡ true → prefix_len p bs ≡ (i + 1) + prefix_len p (drop (i + 1) bs)
  prefix_more h e = let t : prefix_len p bs ≡ i + (1 + prefix_len p (drop (i + 1) bs)) = turn true h e in omega (arith, t)

  pub prefix_ends : i < length bs → p (get_or bs i 0) ≡ false → i ≡ prefix_len p bs
  prefix_ends h e = let t : prefix_len p bs ≡ i + 0 = turn false h e in omega (arith, t)

  pub prefix_is_all : length bs ≤ i → length bs ≡ prefix_len p bs
  prefix_is_all past = omega (arith, so_far, prefix_len-le-length p bs, past)

-- the first byte that passes another test
module _ (t : ℕ → Bool) (bs : List ℕ) where
  pub position_there : (i : ℕ) → i < length bs → i ≡ prefix_len (λ x. not (t x)) bs → Some i ≡ position t bs
  position_there i h e =
      sym (ap (λ (b : Bool). cond b (Some i) None) (lt-ltb i (length bs) h))
      ∙ ap (λ (n : ℕ). cond (nat_lt n (length bs)) (Some n) None) e

  pub position_nowhere : length bs ≡ prefix_len (λ x. not (t x)) bs → None ≡ position t bs
  position_nowhere e =
      sym (ap (λ (b : Bool). cond b (Some (length bs)) None) (le-ltb (length bs) (length bs) (omega arith)))
      ∙ ap (λ (n : ℕ). cond (nat_lt n (length bs)) (Some n) None) e

one_more : (n m : ℕ) → (1 + n == suc m) ≡ (n == m)
one_more n m = elim (cases_eq n m) [
  | inl e ↦ (Decides-eqb (1 + n) (suc m)).1 (omega (arith, e)) ∙ sym ((Decides-eqb n m).1 e)
  | inr ne ↦ false_from_ne_true (1 + n == suc m) (λ h. let same : 1 + n ≡ suc m = (Decides-eqb (1 + n) (suc m)).0 h in ne (omega (arith, same)))
      ∙ sym (false_from_ne_true (n == m) (λ h. ne ((Decides-eqb n m).0 h)))
]

-- all bytes pass a test if as many do from the front on as there are
pub prefix_all : (p : ℕ → Bool) (bs : List ℕ) → (prefix_len p bs == length bs) ≡ list_all p bs
prefix_all p [] = refl
prefix_all p (b ∷ bs) = by_test (p b) (prefix_all p bs)
  where
    by_test : (t : Bool) → (prefix_len p bs == length bs) ≡ list_all p bs → (cond t (1 + prefix_len p bs) 0 == suc (length bs)) ≡ (t && list_all p bs)
    by_test true rest = one_more (prefix_len p bs) (length bs) ∙ rest
    by_test false rest = false_from_ne_true (0 == suc (length bs)) (λ h. let z : 0 ≡ suc (length bs) = (Decides-eqb 0 (suc (length bs))).0 h in absurd (omega arith))
