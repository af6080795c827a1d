-- The order of lists of whole numbers is strict and total, as sorting by it needs.
-- A proof, and not a definition: the definition of a union's ranking is made with it, so it stands here.
use Rattle.std.proofs.Common.{◌≡◌, ◌∙◌, inl, inr, refl, sym, subst, arith, ℤ, ◌<ℤ◌, Bool, true, false, if◌then◌else◌, List, [], ◌∷◌, int_lt}
use Rattle.std.proofs.lemmas.Int.{ints}
use Rattle.anyk_model.specs.Ranking.{IsBefore, is_before}

lt_trans : (x y z : ℤ) → x <ℤ y → y <ℤ z → x <ℤ z
lt_trans x y z p q = omega (arith, ints)

pub before_trans : (xs ys zs : List ℤ) → IsBefore xs ys → IsBefore ys zs → IsBefore xs zs
before_trans [] [] zs p q = absurd p
before_trans [] (y ∷ ys) [] p q = absurd q
before_trans [] (y ∷ ys) (z ∷ zs) p q = tt
before_trans (x ∷ xs) [] zs p q = absurd p
before_trans (x ∷ xs) (y ∷ ys) [] p q = absurd q
before_trans (x ∷ xs) (y ∷ ys) (z ∷ zs) (inl p) (inl q) = inl (lt_trans x y z p q)
before_trans (x ∷ xs) (y ∷ ys) (z ∷ zs) (inl p) (inr q) = inl (subst (λ t. x <ℤ t) q.0 p)
before_trans (x ∷ xs) (y ∷ ys) (z ∷ zs) (inr p) (inl q) = inl (subst (λ t. t <ℤ z) (sym p.0) q)
before_trans (x ∷ xs) (y ∷ ys) (z ∷ zs) (inr p) (inr q) = inr
    (p.0 ∙ q.0, before_trans xs ys zs p.1 q.1)

-- of two lists of whole numbers one is before the other, or they are the same
pub data Compared (xs ys : List ℤ) : Type 0 where
  before : is_before xs ys ≡ true → IsBefore xs ys → Compared xs ys
  same : is_before xs ys ≡ false → is_before ys xs ≡ false → xs ≡ ys → Compared xs ys
  after : is_before xs ys ≡ false → is_before ys xs ≡ true → IsBefore ys xs → Compared xs ys

lt_from : (x y : ℤ) → int_lt x y ≡ true → x <ℤ y
lt_from x y e = grind (arith, ints)

eq_from : (x y : ℤ) → int_lt x y ≡ false → int_lt y x ≡ false → x ≡ y
eq_from x y p q = grind (arith, ints)

heads : (x y : ℤ) (xs ys : List ℤ) (l r : Bool) → int_lt x y ≡ l → int_lt y x ≡ r
    → is_before (x ∷ xs) (y ∷ ys) ≡ (if l then true else if r then false else is_before xs ys)
heads x y xs ys l r el er = λ i. if el i then true else if er i then false else is_before xs ys

by_heads : (x y : ℤ) (xs ys : List ℤ) (l r : Bool) → int_lt x y ≡ l → int_lt y x ≡ r
    → Compared xs ys → Compared (x ∷ xs) (y ∷ ys)
by_heads x y xs ys true r el er c =
    before (heads x y xs ys true r el er) (inl (lt_from x y el))
by_heads x y xs ys false true el er c =
    after (heads x y xs ys false true el er) (heads y x ys xs true false er el)
    (inl (lt_from y x er))
by_heads x y xs ys false false el er (before t p) =
    before (heads x y xs ys false false el er ∙ t) (inr (eq_from x y el er, p))
by_heads x y xs ys false false el er (same t u e) =
    same (heads x y xs ys false false el er ∙ t) (heads y x ys xs false false er el ∙ u)
    (λ i. eq_from x y el er i ∷ e i)
by_heads x y xs ys false false el er (after t u p) =
    after (heads x y xs ys false false el er ∙ t) (heads y x ys xs false false er el ∙ u)
    (inr (eq_from y x er el, p))

pub compare : (xs ys : List ℤ) → Compared xs ys
compare [] [] = same refl refl refl
compare [] (y ∷ ys) = before refl tt
compare (x ∷ xs) [] = after refl refl tt
compare (x ∷ xs) (y ∷ ys) =
    by_heads x y xs ys (int_lt x y) (int_lt y x) refl refl (compare xs ys)

lt_asym : (x y : ℤ) → x <ℤ y → y <ℤ x → ⊥
lt_asym x y p q = omega (arith, ints)

lt_irrefl : (x y : ℤ) → x ≡ y → x <ℤ y → ⊥
lt_irrefl x y e p = lt_asym x x (subst (λ z. x <ℤ z) (sym e) p) (subst (λ z. x <ℤ z) (sym e) p)

-- of two lists at most one comes before the other
pub before_asym : (xs ys : List ℤ) → IsBefore xs ys → IsBefore ys xs → ⊥
before_asym [] [] p q = p
before_asym [] (y ∷ ys) p q = q
before_asym (x ∷ xs) [] p q = p
before_asym (x ∷ xs) (y ∷ ys) (inl p) (inl q) = lt_asym x y p q
before_asym (x ∷ xs) (y ∷ ys) (inl p) (inr q) = lt_irrefl x y (sym q.0) p
before_asym (x ∷ xs) (y ∷ ys) (inr p) (inl q) = lt_irrefl y x (sym p.0) q
before_asym (x ∷ xs) (y ∷ ys) (inr p) (inr q) = before_asym xs ys p.1 q.1

pub before_irrefl : (xs : List ℤ) → IsBefore xs xs → ⊥
before_irrefl xs p = before_asym xs xs p p
