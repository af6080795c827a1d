-- The first fault in the order of a select's parts is the first in the order of the text.
use Rattle.std.proofs.Common.{◌≡◌, ◌⊎◌, ◌<◌, ◌+◌, ℕ, List, [], ◌∷◌, map, Option, Some, None, option_map, refl, ap, subst, ◌∙◌, inl, inr, arith}
use Rattle.std.specs.Option.{option_or}
use Rattle.query_select.specs.declared.select.ColumnRef.{ColumnRef}
use Rattle.query_select.specs.declared.select.Select.{Select}
use Rattle.query_select.specs.TextOrder.{AreInTextOrder, columns_of}
use Rattle.anyk_model.specs.Table.{Table}
use Rattle.anyk_model.specs.Query.{Item, OrderKey, Term}
use Rattle.rankings.specs.Order.{IsMember}
use Rattle.rankings.proofs.Members.{all_member}
use Rattle.query_bind.specs.declared.fault.BindFault.{BindFault}
use Rattle.query_bind.specs.declared.fault.BindFault.TheVariants as fault
use Rattle.query_bind.specs.Answers.{IsBindFault}
use Rattle.query_bind.specs.Bind.{bind_fault}
use Rattle.query_bind.specs.Binding.{bound_key}
use Rattle.query_bind.specs.Names.{alias_fault, first_of, items_of, names_fault, ref_fault}
use Rattle.query_bind.specs.TextOrder.{IsFirstFailing, IsReferenceFault}
use Rattle.query_bind.specs.WeightFaults.{key_fault, range_fault, weight_fault, weights_fault}

module _ (tables : List Table) (items : List Item) (e : BindFault) where
  head_first : (x : ColumnRef) (xs : List ColumnRef) → AreInTextOrder (x ∷ xs) → ref_fault tables items x ≡ Some e → IsFirstFailing tables items (x ∷ xs) e
  head_first x xs order fails = record {
    ref = x;
    member = inl refl;
    fails = fails;
    earlier = before;
  }
    where
      before : (other : ColumnRef) → IsMember other (x ∷ xs) → other.at < x.at → ref_fault tables items other ≡ None
      before other (inl same) less = let p : other.at ≡ x.at = ap (λ (r : ColumnRef). r.at) same in absurd (omega (arith, p, less))
      before other (inr m) less = let p : x.at < other.at = all_member (λ (r : ColumnRef). x.at < r.at) other xs order.0 m in absurd (omega (arith, p, less))

  tail_first : (x : ColumnRef) (xs : List ColumnRef) → ref_fault tables items x ≡ None → IsFirstFailing tables items xs e → IsFirstFailing tables items (x ∷ xs) e
  tail_first x xs none h = record {
    ref = h.ref;
    member = inr h.member;
    fails = h.fails;
    earlier = before;
  }
    where
      before : (other : ColumnRef) → IsMember other (x ∷ xs) → other.at < h.ref.at → ref_fault tables items other ≡ None
      before other (inl same) less = ap (ref_fault tables items) same ∙ none
      before other (inr m) less = h.earlier other m less

  pub first_in_text : (refs : List ColumnRef) → AreInTextOrder refs → first_of (ref_fault tables items) refs ≡ Some e → IsFirstFailing tables items refs e
  first_in_text [] order h = cc
  first_in_text (x ∷ xs) order h = by_fault (ref_fault tables items x) refl h (first_in_text xs order.1)
    where
      by_fault : (o : Option BindFault) → ref_fault tables items x ≡ o → option_or o (first_of (ref_fault tables items) xs) ≡ Some e
          → (first_of (ref_fault tables items) xs ≡ Some e → IsFirstFailing tables items xs e) → IsFirstFailing tables items (x ∷ xs) e
      by_fault None is g rest = tail_first x xs is (rest g)
      by_fault (Some f) is g rest = head_first x xs order (is ∙ g)

-- ---- which of the faults of binding are those of references

either_fault : (a b : Option BindFault) (e : BindFault) → option_or a b ≡ Some e → (a ≡ Some e) ⊎ (b ≡ Some e)
either_fault (Some f) b e h = inl h
either_fault None b e h = inr h

abbrev IsNoReference : BindFault → Type 0
IsNoReference e = IsReferenceFault e → ⊥

mapped_other : (f : ℕ → BindFault) → ((n : ℕ) → IsNoReference (f n)) → (o : Option ℕ) (e : BindFault) → option_map f o ≡ Some e → IsNoReference e
mapped_other f other None e h = cc
mapped_other f other (Some n) e h = let same : f n ≡ e = cc in subst IsNoReference same (other n)

first_other : {A : Type 0} (fault_at : A → Option BindFault) → ((x : A) (e : BindFault) → fault_at x ≡ Some e → IsNoReference e)
    → (xs : List A) (e : BindFault) → first_of fault_at xs ≡ Some e → IsNoReference e
first_other fault_at each [] e h = cc
first_other fault_at each (x ∷ xs) e h = elim (either_fault (fault_at x) (first_of fault_at xs) e h) [
  | inl here ↦ each x e here
  | inr later ↦ first_other fault_at each xs e later
]

alias_other : (items : List Item) (e : BindFault) → alias_fault items ≡ Some e → IsNoReference e
alias_other items e h = mapped_other (λ n. fault.DuplicateAlias n) (λ n r. r) _ e h

module _ (tables : List Table) (items : List Item) (order : List OrderKey) (e : BindFault) where
  weight_other : (t : Term) (f : BindFault) → weight_fault tables items t ≡ Some f → IsNoReference f
  weight_other t f h = mapped_other (λ n. fault.BadWeight (t.column.item + 1) (n + 1) (t.column.place + 1)) (λ n r. r) _ f h

  weights_other : weights_fault tables items order ≡ Some e → IsNoReference e
  weights_other h =
      first_other (key_fault tables items) (λ (k : OrderKey) f g. first_other (weight_fault tables items) weight_other k.terms f g) order e h

  range_other : range_fault tables items order ≡ Some e → IsNoReference e
  range_other h = mapped_other (λ n. fault.RankRange n) (λ n r. r) _ e h

  later_other : option_or (weights_fault tables items order) (range_fault tables items order) ≡ Some e → IsNoReference e
  later_other h = elim (either_fault (weights_fault tables items order) (range_fault tables items order) e h) [
    | inl w ↦ weights_other w
    | inr r ↦ range_other r
  ]

-- a fault of a reference is that of the first one in the text that fails
pub earliest : (select : Select) (tables : List Table) (which : List ℕ) (e : BindFault) → IsBindFault (bind_fault select tables which) e
    → IsReferenceFault e → AreInTextOrder (columns_of select) → IsFirstFailing tables (items_of select.items which) (columns_of select) e
earliest select tables which e (inl memory) kind order = absurd (subst IsReferenceFault memory kind)
earliest select tables which e (inr h) kind order =
    let items = items_of select.items which in
    let keys = map (bound_key tables items) select.keys in
    elim (either_fault (names_fault tables items select) (option_or (weights_fault tables items keys) (range_fault tables items keys)) e h) [
      | inl name ↦ elim (either_fault (alias_fault items) (first_of (ref_fault tables items) (columns_of select)) e name) [
        | inl alias ↦ absurd (alias_other items e alias kind)
        | inr ref ↦ first_in_text tables items e (columns_of select) order ref
      ]
      | inr later ↦ absurd (later_other tables items keys e later kind)
    ]
