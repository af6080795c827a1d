-- The order of the members of a union is a strict total order, as sorting by it needs.
-- A proof, and not a definition: the definition of a union's ranking is made with it, so it stands here.
use Rattle.std.proofs.Common.{◌≡◌, ◌⊎◌, ◌∙◌, ℕ, ℤ, pos, Bool, true, false, List, [], ◌∷◌, map, nat_abs, inl, inr, refl, sym, ap, subst}
use Rattle.std.proofs.lemmas.Bool.{false≢true}
use Rattle.rankings.specs.Order.{IsOrder}
use Rattle.anyk_model.specs.Table.{Table}
use Rattle.anyk_model.specs.Query.{Query}
use Rattle.anyk_model.specs.Ranking.{IsBefore, is_before}
use Rattle.anyk_model.specs.ListOrder.{Compared, before, same, after, before_trans, compare, before_irrefl}
use Rattle.anyk_model.specs.TaggedRows.{PrecedesTagged, Tagged, sums_of, tagged}

-- # Lists of whole numbers

pub before_of : (xs ys : List ℤ) → Compared xs ys → is_before xs ys ≡ true → IsBefore xs ys
before_of xs ys (before t p) e = p
before_of xs ys (same t u p) e = absurd (false≢true (sym t ∙ e))
before_of xs ys (after t u p) e = absurd (false≢true (sym t ∙ e))

pub same_of : (xs ys : List ℤ) → Compared xs ys → is_before xs ys ≡ false → is_before ys xs ≡ false
    → xs ≡ ys
same_of xs ys (before t p) e f = absurd (false≢true (sym e ∙ t))
same_of xs ys (same t u p) e f = p
same_of xs ys (after t u p) e f = absurd (false≢true (sym f ∙ u))

-- how two lists compare, by a test that computes
abbrev compared : (xs ys : List ℤ) → IsBefore xs ys ⊎ (xs ≡ ys) ⊎ IsBefore ys xs
compared xs ys = by (is_before xs ys) (is_before ys xs) refl refl
  where
    by : (b c : Bool) → is_before xs ys ≡ b → is_before ys xs ≡ c
        → IsBefore xs ys ⊎ (xs ≡ ys) ⊎ IsBefore ys xs
    by true c e f = inl (before_of xs ys (compare xs ys) e)
    by false true e f = inr (inr (before_of ys xs (compare ys xs) f))
    by false false e f = inr (inl (same_of xs ys (compare xs ys) e f))

-- # The order by two lists, of which the second tells its element

module _ {A : Type 0} (first second : A → List ℤ)
    (tells : (a b : A) → second a ≡ second b → a ≡ b) where
  abbrev Below : A → A → Type 0
  Below a b = IsBefore (first a) (first b) ⊎ ((first a ≡ first b) × IsBefore (second a) (second b))

  pub below_trans : (a b c : A) → Below a b → Below b c → Below a c
  below_trans a b c (inl p) (inl q) = inl (before_trans (first a) (first b) (first c) p q)
  below_trans a b c (inl p) (inr q) = inl (subst (λ (xs : List ℤ). IsBefore (first a) xs) q.0 p)
  below_trans a b c (inr p) (inl q) = inl
      (subst (λ (xs : List ℤ). IsBefore xs (first c)) (sym p.0) q)
  below_trans a b c (inr p) (inr q) = inr
      (p.0 ∙ q.0, before_trans (second a) (second b) (second c) p.1 q.1)

  pub below_irrefl : (a : A) → Below a a → ⊥
  below_irrefl a (inl p) = before_irrefl (first a) p
  below_irrefl a (inr p) = before_irrefl (second a) p.1

  abbrev by_both : (a b : A)
      → IsBefore (first a) (first b) ⊎ (first a ≡ first b) ⊎ IsBefore (first b) (first a)
      → IsBefore (second a) (second b) ⊎ (second a ≡ second b) ⊎ IsBefore (second b) (second a)
      → Below a b ⊎ (a ≡ b) ⊎ Below b a
  by_both a b (inl p) c = inl (inl p)
  by_both a b (inr (inr p)) c = inr (inr (inl p))
  by_both a b (inr (inl e)) (inl p) = inl (inr (e, p))
  by_both a b (inr (inl e)) (inr (inl f)) = inr (inl (tells a b f))
  by_both a b (inr (inl e)) (inr (inr p)) = inr (inr (inr (sym e, p)))

  abbrev order-by-both : IsOrder A Below
  order-by-both = record {
    transitive = below_trans;
    irreflexive = below_irrefl;
    compare = λ a b. by_both a b (compared (first a) (first b)) (compared (second a) (second b));
  }

-- # Members

same_numbers : (ns : List ℕ) → map nat_abs (map pos ns) ≡ ns
same_numbers [] = refl
same_numbers (n ∷ ns) = ap (λ (l : List ℕ). n ∷ l) (same_numbers ns)

-- the member with these numbers, of which the first is the branch
abbrev of-numbers : List ℕ → Tagged
of-numbers [] = tagged 0 []
of-numbers (b ∷ rows) = tagged b rows

-- the branch and the row numbers tell a member
pub member_told : (a b : Tagged) → map pos (a.branch ∷ a.rows) ≡ map pos (b.branch ∷ b.rows) → a ≡ b
member_told a b e =
    ap of-numbers (sym (same_numbers (a.branch ∷ a.rows)) ∙ ap (map nat_abs) e ∙ same_numbers
    (b.branch ∷ b.rows))

abbrev pub tagged_order : (queries : List Query) (tables : List Table)
    → IsOrder Tagged (PrecedesTagged queries tables)
tagged_order queries tables =
    order-by-both (λ (m : Tagged). sums_of queries tables m.branch m.rows)
    (λ (m : Tagged). map pos (m.branch ∷ m.rows)) member_told
