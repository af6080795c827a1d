-- Rows of two items are equal in all columns of the variables of both if they are in the least ones.
use Rattle.std.proofs.Common.{◌≡◌, ◌↔◌, ℕ, List, sym, subst, ◌∙◌}
use Rattle.anyk_model.specs.Table.{Table}
use Rattle.anyk_model.specs.Query.{Query, Column, Equality}
use Rattle.bound_query.specs.Classes.{AreVariables, HasVariable, IsShared, Linked, Passes, row_field, same, variable_at}
use Rattle.bound_query.proofs.Least.{at_member, has_least, least_column, member_at, shared_along}
use Rattle.bound_query.proofs.Witness.{linked_append, linked_back, texts_stable}
use Rattle.proof_model.specs.QueryProblem.{RowsEqual, RowsMatch}

abbrev column : ℕ → ℕ → Column
column i p = record { item = i; place = p }

-- a fact of a column of each of two items, that all columns of one class have alike
module _ (es : List Equality) (variables : List Column) (known : AreVariables es variables) (i j : ℕ) (P : ℕ → ℕ → Type 0)
    (stable : (a b : ℕ) → ((P a b → ⊥) → ⊥) → P a b)
    (moved : (a b p q : ℕ) → Linked es (column i a) (column i p) → Linked es (column j b) (column j q) → P p q → P a b) where
  abbrev InAll : Type 0
  InAll = (a b : ℕ) → IsShared es (column i a) → Linked es (column i a) (column j b) → P a b

  abbrev AtLeast : Type 0
  AtLeast = (number p q : ℕ) → HasVariable es variables i number p → HasVariable es variables j number q → P p q

  to_least : InAll → AtLeast
  to_least h n p q a b =
      let c = variable_at variables n in
      let s = ((known.members c).0 (at_member variables n a.known)).0 in
      h p q (shared_along es c (column i p) a.linked s) (linked_append (linked_back a.linked) b.linked)

  to_all : AtLeast → InAll
  to_all h a b s link = stable a b (λ apart.
      least_column es (column i a) (λ c lc least.
      let m = member_at c variables ((known.members c).1 (shared_along es (column i a) c lc s, least)) in
      let to_c : Linked es (variable_at variables m.0) (column i a) = subst (λ (d : Column). Linked es d (column i a)) (sym m.2) (linked_back lc) in
      has_least (λ p. Linked es (column i a) (column i p)) (λ p lp small_p.
      has_least (λ q. Linked es (column j b) (column j q)) (λ q lq small_q.
      apart (moved a b p q lp lq (h m.0 p q
      (record { known = m.1; linked = linked_append to_c lp; least = λ k l. small_p k (linked_append lp l) })
      (record { known = m.1; linked = linked_append to_c (linked_append link lq); least = λ k l. small_q k (linked_append lq l) }))))
      b same)
      a same))

module _ (query : Query) (tables : List Table) (variables : List Column) (known : AreVariables query.equalities variables) (i j row other : ℕ) where
  -- a row of each of two items
  pub match_iff : Passes query tables i row → Passes query tables j other
      → RowsMatch query tables i j row other
      ↔ ((number p q : ℕ) → HasVariable query.equalities variables i number p → HasVariable query.equalities variables j number q
      → row_field query tables i row p ≡ row_field query tables j other q)
  match_iff passes there =
      let P : ℕ → ℕ → Type 0 = λ a b. row_field query tables i row a ≡ row_field query tables j other b in
      let stable : (a b : ℕ) → ((P a b → ⊥) → ⊥) → P a b = λ a b. texts_stable (row_field query tables i row a) (row_field query tables j other b) in
      let moved : (a b p q : ℕ) → Linked query.equalities (column i a) (column i p) → Linked query.equalities (column j b) (column j q) → P p q → P a b =
      λ a b p q la lb e. passes.equal a p la ∙ e ∙ sym (there.equal b q lb) in
      (to_least query.equalities variables known i j P stable moved, to_all query.equalities variables known i j P stable moved)

  -- two rows of one item, in the variables that another item has too
  pub equal_iff : Passes query tables i row → Passes query tables i other
      → RowsEqual query tables i j row other
      ↔ ((number p q : ℕ) → HasVariable query.equalities variables i number p → HasVariable query.equalities variables j number q
      → row_field query tables i row p ≡ row_field query tables i other p)
  equal_iff passes there =
      let P : ℕ → ℕ → Type 0 = λ a b. row_field query tables i row a ≡ row_field query tables i other a in
      let stable : (a b : ℕ) → ((P a b → ⊥) → ⊥) → P a b = λ a b. texts_stable (row_field query tables i row a) (row_field query tables i other a) in
      let moved : (a b p q : ℕ) → Linked query.equalities (column i a) (column i p) → Linked query.equalities (column j b) (column j q) → P p q → P a b =
      λ a b p q la lb e. passes.equal a p la ∙ e ∙ sym (there.equal a p la) in
      (to_least query.equalities variables known i j P stable moved, to_all query.equalities variables known i j P stable moved)
