-- The order of columns, by items and then by places.
use Rattle.std.proofs.Common.{◌≡◌, sym, ◌∙◌, inl, inr, arith}
use Rattle.std.proofs.lemmas.Bool.{cases_order}
use Rattle.anyk_model.specs.Query.{Column}
use Rattle.bound_query.specs.Classes.{ColumnBefore}

pub before_asym : (a b : Column) → ColumnBefore a b → ColumnBefore b a → ⊥
before_asym a b (inl x) (inl y) = omega (arith, x, y)
before_asym a b (inl x) (inr y) = omega (arith, x, y.0)
before_asym a b (inr x) (inl y) = omega (arith, x.0, y)
before_asym a b (inr x) (inr y) = omega (arith, x.1, y.1)

pub before_self : (a : Column) → ColumnBefore a a → ⊥
before_self a h = before_asym a a h h

-- a column before one that is no later than another is before that one
pub before_until : (a b c : Column) → ColumnBefore a b → (ColumnBefore c b → ⊥) → ColumnBefore a c
before_until a b c (inl x) not = elim (cases_order a.item c.item) [
  | inl e ↦ absurd (not (inl (omega (arith, x, e))))
  | inr (inl l) ↦ inl l
  | inr (inr g) ↦ absurd (not (inl (omega (arith, x, g))))
]
before_until a b c (inr x) not = elim (cases_order a.item c.item) [
  | inl e ↦ elim (cases_order a.place c.place) [
    | inl p ↦ absurd (not (inr (sym e ∙ x.0, omega (arith, x.1, p))))
    | inr (inl l) ↦ inr (e, l)
    | inr (inr g) ↦ absurd (not (inr (sym e ∙ x.0, omega (arith, x.1, g))))
  ]
  | inr (inl l) ↦ inl l
  | inr (inr g) ↦ absurd (not (inl (omega (arith, x.0, g))))
]

pub same_columns : (a b : Column) → a.item ≡ b.item → a.place ≡ b.place → a ≡ b
same_columns a b p q = λ i. record { item = p i; place = q i }

pub before_neither : (a b : Column) → (ColumnBefore a b → ⊥) → (ColumnBefore b a → ⊥) → a ≡ b
before_neither a b p q = elim (cases_order a.item b.item) [
  | inl e ↦ elim (cases_order a.place b.place) [
    | inl f ↦ same_columns a b e f
    | inr (inl l) ↦ absurd (p (inr (e, l)))
    | inr (inr g) ↦ absurd (q (inr (sym e, g)))
  ]
  | inr (inl l) ↦ absurd (p (inl l))
  | inr (inr g) ↦ absurd (q (inl g))
]
