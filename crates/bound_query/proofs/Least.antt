-- Rows that pass agree on a variable if they agree at its least columns.
use Rattle.std.proofs.Common.{◌≡◌, ◌↔◌, ◌<◌, ◌≤◌, ℕ, zero, suc, List, [], ◌∷◌, length, slice_index, refl, sym, subst, ◌∙◌, inl, inr, arith}
use Rattle.std.proofs.lemmas.Bool.{cases_eq, cases_lt}
use Rattle.anyk_model.specs.Table.{Table}
use Rattle.anyk_model.specs.Query.{Query, Column, Equality}
use Rattle.rankings.specs.Order.{IsMember}
use Rattle.bound_query.specs.Classes.{AreVariables, HasVariable, IsFixedTo, IsLeast, IsShared, Linked, PassAndAgree, PassAndAgreeAtLeast, row_field, same, variable_at}
use Rattle.bound_query.proofs.Witness.{linked_append, linked_back, texts_stable}

-- if some number has a property, it is absurd that none is the least
module _ (P : ℕ → Type 0) (none : (m : ℕ) → P m → ((k : ℕ) → P k → m ≤ k) → ⊥) where
  none_below : (n k : ℕ) → k < n → P k → ⊥
  none_below zero k h p = absurd (omega arith)
  none_below (suc n) k h p = none k p (λ j q. elim (cases_lt j k) [
    | inl less ↦ absurd (none_below n j (omega (arith, less, h)) q)
    | inr more ↦ more
  ])

  pub has_least : (n : ℕ) → P n → ⊥
  has_least n p = none_below (suc n) n (omega arith) p

abbrev column : ℕ → ℕ → Column
column i p = record { item = i; place = p }

module _ (es : List Equality) where
  -- the class of a column has a least one
  pub least_column : (c : Column) → ((d : Column) → Linked es c d → IsLeast es d → ⊥) → ⊥
  least_column c none =
      has_least (λ i. (p : ℕ) × Linked es c (column i p))
      (λ i at low. has_least (λ p. Linked es c (column i p))
      (λ p h small. none (column i p) h (λ d link before. elim before [
        | inl item ↦ let l : i ≤ d.item = low d.item (d.place, linked_append h link) in absurd (omega (arith, l, item))
        | inr place ↦
            let there : Linked es c (column i d.place) = subst (λ (n : ℕ). Linked es c (column n d.place)) place.0 (linked_append h link) in
            let l : p ≤ d.place = small d.place there in
            let less = place.1 in absurd (omega (arith, l, less))
      ]))
      at.0 at.1)
      c.item (c.place, same)

  fixed_along : (c d : Column) (bytes : List ℕ) → Linked es c d → IsFixedTo es d bytes → IsFixedTo es c bytes
  fixed_along c d bytes h f = record { equality = f.equality; member = f.member; constant = f.constant; linked = linked_append h f.linked }

  -- a variable is one at each of its columns
  pub shared_along : (c d : Column) → Linked es c d → IsShared es c → IsShared es d
  shared_along c d h s = elim (cases_eq d.item c.item) [
    | inl is ↦ record {
      free = λ bytes f. s.free bytes (fixed_along c d bytes h f);
      other = s.other;
      linked = linked_append (linked_back h) s.linked;
      elsewhere = λ e. s.elsewhere (e ∙ is);
    }
    | inr differ ↦ record {
      free = λ bytes f. s.free bytes (fixed_along c d bytes h f);
      other = c;
      linked = linked_back h;
      elsewhere = λ e. differ (sym e);
    }
  ]

pub member_at : (c : Column) (list : List Column) → IsMember c list → (n : ℕ) × (n < length list) × (variable_at list n ≡ c)
member_at c [] m = absurd m
member_at c (x ∷ list) (inl e) = (0, omega arith, sym e)
member_at c (x ∷ list) (inr m) = let p = member_at c list m in let h = p.1 in (suc p.0, omega (arith, h), p.2)

pub at_member : (list : List Column) (n : ℕ) → n < length list → IsMember (variable_at list n) list
at_member [] n h = absurd (omega arith)
at_member (x ∷ list) zero h = inl refl
at_member (x ∷ list) (suc n) h = inr (at_member list n (omega (arith, h)))

module _ (query : Query) (tables : List Table) (rows : List ℕ) (variables : List Column) (known : AreVariables query.equalities variables) where
  abbrev es : List Equality
  es = query.equalities

  to_least : PassAndAgree query tables rows → PassAndAgreeAtLeast query tables variables rows
  to_least h = record {
    pass = h.pass;
    agree = λ i j ii ij n p q a b.
        let c = variable_at variables n in
        let s = ((known.members c).0 (at_member variables n a.known)).0 in
        h.agree i j ii ij p q (shared_along es c (column i p) a.linked s) (linked_append (linked_back a.linked) b.linked);
  }

  module _ (h : PassAndAgreeAtLeast query tables variables rows) where
    abbrev field : ℕ → ℕ → List ℕ
    field i p = row_field query tables i (slice_index rows i) p

    -- when the least columns are given
    through : (i j a b n p q : ℕ) → i < length query.items → j < length query.items → Linked es (column i a) (column i p) → Linked es (column j b) (column j q)
        → HasVariable es variables i n p → HasVariable es variables j n q → field i a ≡ field j b
    through i j a b n p q ii ij la lb va vb =
        (h.pass i ii).equal a p la ∙ h.agree i j ii ij n p q va vb ∙ sym ((h.pass j ij).equal b q lb)

    absurd_apart : (i j a b : ℕ) → i < length query.items → j < length query.items → IsShared es (column i a) → Linked es (column i a) (column j b)
        → (field i a ≡ field j b → ⊥) → ⊥
    absurd_apart i j a b ii ij s link apart =
        least_column es (column i a) (λ c lc least.
        let m = member_at c variables ((known.members c).1 (shared_along es (column i a) c lc s, least)) in
        let to_c : Linked es (variable_at variables m.0) (column i a) = subst (λ (d : Column). Linked es d (column i a)) (sym m.2) (linked_back lc) in
        has_least (λ p. Linked es (column i a) (column i p)) (λ p lp small_p.
        has_least (λ q. Linked es (column j b) (column j q)) (λ q lq small_q.
        apart (through i j a b m.0 p q ii ij lp lq
        (record { known = m.1; linked = linked_append to_c lp; least = λ k l. small_p k (linked_append lp l) })
        (record { known = m.1; linked = linked_append to_c (linked_append link lq); least = λ k l. small_q k (linked_append lq l) })))
        b same)
        a same)

    from_least : PassAndAgree query tables rows
    from_least = record {
      pass = h.pass;
      agree = λ i j ii ij a b s link. texts_stable (field i a) (field j b) (absurd_apart i j a b ii ij s link);
    }

  pub least_iff : PassAndAgree query tables rows ↔ PassAndAgreeAtLeast query tables variables rows
  least_iff = (to_least, λ h. from_least h)
