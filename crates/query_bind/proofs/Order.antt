-- The test of two columns.
use Rattle.std.proofs.Common.{◌≡◌, ◌⊎◌, ◌&&◌, ◌==◌, Bool, true, false, sym, ap, ◌∙◌, inl, inr}
use Rattle.std.proofs.lemmas.Bool.Decides.{eqb_tells}
use Rattle.anyk_model.specs.Query.{Column}
use Rattle.bound_query.proofs.ColumnOrder.{same_columns}
use Rattle.query_bind.specs.Labels.{is_same}

-- what the test of two columns says
pub same_tells : (a b : Column) → ((is_same a b ≡ true) × (a ≡ b)) ⊎ ((is_same a b ≡ false) × (a ≡ b → ⊥))
same_tells a b = elim (eqb_tells a.item b.item) [
  | inl (t, e) ↦ elim (eqb_tells a.place b.place) [
    | inl (u, f) ↦ inl (ap (λ (x : Bool). x && (a.place == b.place)) t ∙ u, same_columns a b e f)
    | inr (u, n) ↦ inr (ap (λ (x : Bool). x && (a.place == b.place)) t ∙ u, λ h. n (ap (λ (c : Column). c.place) h))
  ]
  | inr (t, n) ↦ inr (ap (λ (x : Bool). x && (a.place == b.place)) t, λ h. n (ap (λ (c : Column). c.item) h))
]

pub same_true : (a b : Column) → is_same a b ≡ true → a ≡ b
same_true a b h = elim (same_tells a b) [ inl p ↦ p.1 | inr p ↦ absurd (let e : true ≡ false = sym h ∙ p.0 in cc) ]

pub true_same : (a b : Column) → a ≡ b → is_same a b ≡ true
true_same a b h = elim (same_tells a b) [ inl p ↦ p.0 | inr p ↦ absurd (p.1 h) ]
