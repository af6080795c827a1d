-- The tests of the rows of all items.
use Rattle.std.proofs.Common.{◌≡◌, ◌⊎◌, ◌<◌, ◌+◌, ℕ, List, [], ◌∷◌, ◌++◌, map, length, get_or, refl, sym, ap, subst, ◌∙◌, inl, inr, arith}
use Rattle.std.proofs.lemmas.Bool.{cases_eq}
use Rattle.std.proofs.lemmas.List.{get_or-map, map-append}
use Rattle.anyk_model.specs.Table.{Table, table_at}
use Rattle.anyk_model.specs.Query.{Query, Item, Column, Equality}
use Rattle.rankings.specs.Order.{IsMember}
use Rattle.rankings.proofs.Members.{all_member}
use Rattle.bound_query.specs.Classes.{Linked}
use Rattle.query_bind.specs.Filters.{HasFilters, HaveFilters, HaveConstants, HavePairs}
use Rattle.bound_query.specs.FilterViews.{filter_view}
use Rattle.bound_query.specs.Filters.{ItemFilter, filter_at}
use Rattle.bound_query.specs.NamedPlaces.{EqualityInside, IsInside, NamesExist}
use Rattle.query_bind.specs.Labels.{IsLabelling}
use Rattle.bound_query.specs.StoredParts.{item_view, items_view}
use Rattle.query_bind.specs.Variables.{width_in}
use Rattle.bound_query.specs.declared.bound.BoundItem.{BoundItem}
use Rattle.bound_query.specs.declared.filters.Filter.{Filter}
use Rattle.bound_query.proofs.Lists.{at_last, at_left, length_last}
use Rattle.bound_query.proofs.Inside.{linked_inside}
use Rattle.query_bind.proofs.Filtering.{filter_of}

pub filters_none : (label : Column → Column) (es : List Equality) (tables : List Table) (items : List Item) → HaveFilters label es tables items 0 []
filters_none label es tables items = record {
  count = refl;
  pairs = λ i h. absurd (omega (arith, h));
  constants = λ i h. absurd (omega (arith, h));
}

pub filters_more : (label : Column → Column) (es : List Equality) (tables : List Table) (items : List BoundItem) (n width : ℕ) (d : BoundItem) (filters : List Filter) (f : Filter)
    → n < length items → width ≡ length (table_at tables (get_or items n d).table).names
    → HaveFilters label es tables (items_view items) n (map filter_view filters)
    → HavePairs label n width (filter_view f).pairs → HaveConstants label n width es (filter_view f).constants
    → HaveFilters label es tables (items_view items) (n + 1) (map filter_view (filters ++ f ∷ []))
filters_more label es tables items n width d filters f h wide known pairs constants =
    let old = map filter_view filters in
    let new = filter_view f in
    let more : map filter_view (filters ++ f ∷ []) ≡ old ++ new ∷ [] = map-append filter_view filters (f ∷ []) in
    let at : get_or (items_view items) n (record { table = 0; alias = [] }) ≡ item_view (get_or items n d) = get_or-map item_view items n d (record { table = 0; alias = [] }) h in
    let width_is : width ≡ width_in tables (items_view items) n = wide ∙ ap (λ (i : Item). length (table_at tables i.table).names) (sym at) in
    let count = known.count in
    let last : (i : ℕ) → i ≡ n → filter_at (old ++ new ∷ []) i ≡ new =
    λ i e. ap (filter_at (old ++ new ∷ [])) (e ∙ sym count) ∙ at_last old new (record { pairs = []; constants = [] }) in
    let left : (i : ℕ) → i < n → filter_at (old ++ new ∷ []) i ≡ filter_at old i = λ i l. at_left old new (record { pairs = []; constants = [] }) i (omega (arith, l, count)) in
    subst (λ (l : List ItemFilter). HaveFilters label es tables (items_view items) (n + 1) l) (sym more) (record {
      count = length_last old new ∙ ap (λ (k : ℕ). k + 1) known.count;
      pairs = λ i less. elim (cases_eq i n) [
        | inl e ↦ subst (λ (g : ItemFilter). HavePairs label i (width_in tables (items_view items) i) g.pairs) (sym (last i e))
            (subst (λ (k : ℕ). HavePairs label k (width_in tables (items_view items) k) new.pairs) (sym e)
            (subst (λ (w : ℕ). HavePairs label n w new.pairs) width_is pairs))
        | inr ne ↦ subst (λ (g : ItemFilter). HavePairs label i (width_in tables (items_view items) i) g.pairs) (sym (left i (omega (arith, less, ne))))
            (known.pairs i (omega (arith, less, ne)))
      ];
      constants = λ i less. elim (cases_eq i n) [
        | inl e ↦ subst (λ (g : ItemFilter). HaveConstants label i (width_in tables (items_view items) i) es g.constants) (sym (last i e))
            (subst (λ (k : ℕ). HaveConstants label k (width_in tables (items_view items) k) es new.constants) (sym e)
            (subst (λ (w : ℕ). HaveConstants label n w es new.constants) width_is constants))
        | inr ne ↦ subst (λ (g : ItemFilter). HaveConstants label i (width_in tables (items_view items) i) es g.constants) (sym (left i (omega (arith, less, ne))))
            (known.constants i (omega (arith, less, ne)))
      ];
    })

module _ (query : Query) (tables : List Table) (within : NamesExist query tables) where
  there : (e : Equality) → IsMember e query.equalities → IsInside tables query.items e.left
  there e m = (all_member (EqualityInside tables query.items) e query.equalities within.equalities m).left

  inside : (c d : Column) → Linked query.equalities c d → (c ≡ d) ⊎ IsInside tables query.items c
  inside = linked_inside tables query.items query.equalities within.equalities

  pub has_filters : (label : Column → Column) (filters : List ItemFilter) → IsLabelling query.equalities label
      → HaveFilters label query.equalities tables query.items (length query.items) filters → HasFilters query filters
  has_filters label filters known have = record {
    filtered = have.count;
    filters = λ item h. filter_of tables query.items query.equalities inside there label known item (width_in tables query.items item)
        (λ place i. i.place) (filter_at filters item) (have.pairs item h) (have.constants item h);
  }
