-- Sums of keys over places.
use Rattle.std.proofs.Common.{◌≡◌, ℕ, zero, suc, ◌+◌, ◌<◌, ◌≤◌, List, [], ◌∷◌, ◌++◌, length, get_or, refl, sym, ap, ◌∙◌, subst, arith}
use Rattle.std.proofs.lemmas.List.{get_or_append_left}
use Rattle.tdp_model.specs.KeyLaws.{IsKeys}
use Rattle.tdp_model.specs.TreeProblem.{sum_from}

pub get_front : (xs ys : List ℕ) (i : ℕ) → i < length xs → get_or (xs ++ ys) i 0 ≡ get_or xs i 0
get_front xs ys i l = get_or_append_left xs ys 0 i l

pub get_end : (xs : List ℕ) (y i : ℕ) → i ≡ length xs → get_or (xs ++ (y ∷ [])) i 0 ≡ y
get_end [] y zero l = refl
get_end [] y (suc i) l = absurd (omega arith)
get_end (x ∷ xs) y zero l = absurd (omega arith)
get_end (x ∷ xs) y (suc i) l = get_end xs y i (omega arith)

pub length_end : (xs : List ℕ) (y : ℕ) → length (xs ++ (y ∷ [])) ≡ suc (length xs)
length_end [] y = refl
length_end (x ∷ xs) y = ap (λ n. suc n) (length_end xs y)

pub same_sums : {K : Type 0} (add : K → K → K) (none : K) (f g : ℕ → K) (n q : ℕ) → ((i : ℕ) → q ≤ i → i < q + n → f i ≡ g i) → sum_from add none f n q ≡ sum_from add none g n q
unfolding sum_from
same_sums add none f g zero q e = refl
same_sums add none f g (suc n) q e =
    ap (λ z. add z (sum_from add none f n (suc q))) (e q (omega arith) (omega arith))
    ∙ ap (λ z. add (g q) z) (same_sums add none f g n (suc q) (λ i l h. e i (omega arith) (omega arith)))

-- if each is at most this much, so are all together
pub sum_fewer : (few many : ℕ → ℕ) (n q : ℕ) → ((u : ℕ) → q ≤ u → u < q + n → few u ≤ many u) → sum_from ◌+◌ 0 few n q ≤ sum_from ◌+◌ 0 many n q
unfolding sum_from
sum_fewer few many zero q h = omega arith
sum_fewer few many (suc n) q h = omega (arith, h q (omega arith) (omega arith), sum_fewer few many n (suc q) (λ u a b. h u (omega arith) (omega arith)))

module _ {K : Type 0} (Below : K → K → Type 0) (add : K → K → K) (none : K) (keys : IsKeys K Below add none) where
  -- (a + b) + (c + d) is (a + c) + (b + d)
  pub add_swap : (a b c d : K) → add (add a b) (add c d) ≡ add (add a c) (add b d)
  add_swap a b c d =
      keys.add_assoc a b (add c d)
      ∙ ap (λ z. add a z) (sym (keys.add_assoc b c d) ∙ ap (λ z. add z d) (keys.add_comm b c) ∙ keys.add_assoc c b d)
      ∙ sym (keys.add_assoc a c (add b d))

  -- (a + b) + c is (a + c) + b
  pub add_right : (a b c : K) → add (add a b) c ≡ add (add a c) b
  add_right a b c = keys.add_assoc a b c ∙ ap (λ z. add a z) (keys.add_comm b c) ∙ sym (keys.add_assoc a c b)

  pub none_add : (a : K) → add none a ≡ a
  none_add a = keys.add_comm none a ∙ keys.add_none a

  pub sum_same : (f g : ℕ → K) (n q : ℕ) → ((i : ℕ) → q ≤ i → i < q + n → f i ≡ g i) → sum_from add none f n q ≡ sum_from add none g n q
  sum_same = same_sums add none

  pub sum_add : (f g : ℕ → K) (n q : ℕ) → sum_from add none (λ i. add (f i) (g i)) n q ≡ add (sum_from add none f n q) (sum_from add none g n q)
  unfolding sum_from
  sum_add f g zero q = sym (keys.add_none none)
  sum_add f g (suc n) q =
      ap (λ z. add (add (f q) (g q)) z) (sum_add f g n (suc q)) ∙ add_swap (f q) (g q) (sum_from add none f n (suc q)) (sum_from add none g n (suc q))

  pub sum_last : (f : ℕ → K) (n q i : ℕ) → i ≡ q + n → sum_from add none f (suc n) q ≡ add (sum_from add none f n q) (f i)
  unfolding sum_from
  sum_last f zero q i e =
      let s : i ≡ q = omega arith in
      subst (λ k. add (f q) none ≡ add none (f k)) (sym s) (keys.add_comm (f q) none)
  sum_last f (suc n) q i e =
      ap (λ z. add (f q) z) (sum_last f n (suc q) i (omega arith)) ∙ sym (keys.add_assoc (f q) (sum_from add none f n (suc q)) (f i))
