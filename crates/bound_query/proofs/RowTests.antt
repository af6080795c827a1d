-- What the tests of a row decide.
use Rattle.std.proofs.Common.{◌≡◌, ◌⊎◌, ◌↔◌, ◌<◌, ℕ, true, false, not, List, [], map, length, get_or, sym, ap, subst, ◌∙◌, inl, inr, arith}
use Rattle.std.specs.Str.{bytes_eq}
use Rattle.std.proofs.lemmas.Bool.{not-false, not-true}
use Rattle.std.proofs.lemmas.List.{get_or-map, length-map}
use Rattle.std.proofs.lemmas.Slice.Eq.{bytes_eq-Decides}
use Rattle.anyk_model.specs.Table.{Table}
use Rattle.anyk_model.specs.Query.{Query, Column, Equality}
use Rattle.rankings.specs.Order.{IsMember}
use Rattle.rankings.proofs.Members.{all_member, member_map, member_unmap}
use Rattle.bound_query.specs.Classes.{Linked, Passes, row_field}
use Rattle.bound_query.specs.FilterViews.{constant_view, filter_view}
use Rattle.bound_query.specs.Filters.{HasConstants, HasEqual, IsFilterOf, ItemFilter, Reaches, filter_at}
use Rattle.bound_query.specs.NamedPlaces.{EqualityInside, IsInside, NamesExist}
use Rattle.bound_query.specs.WeighedQuery.{BoundQuery, Fits}
use Rattle.bound_query.specs.Weights.{table_in}
use Rattle.bound_query.specs.declared.filters.Constant.{Constant}
use Rattle.bound_query.specs.declared.filters.Filter.{Filter}
use Rattle.bound_query.proofs.Inside.{linked_inside}
use Rattle.bound_query.proofs.Witness.{linked_back}

module _ (query : Query) (tables : List Table) (item row : ℕ) (f : ItemFilter) (known : IsFilterOf query.equalities item f) where
  abbrev field : ℕ → List ℕ
  field = row_field query tables item row

  reached : HasEqual field f.pairs → (first place : ℕ) → Reaches f.pairs first place → field first ≡ field place
  reached h first place (inl e) = ap field e
  reached h first place (inr m) = h (first, place) m

  -- a row that has equal fields in pairs and the constants passes
  stands_passes : HasEqual field f.pairs → HasConstants field f.constants → Passes query tables item row
  stands_passes h k = record {
    equal = λ a b link. elim (known.joined a b link) [
      | inl e ↦ ap field e
      | inr p ↦ sym (reached h p.0 a p.1) ∙ reached h p.0 b p.2
    ];
    constant = λ a bytes fixed. let p = known.constants a bytes fixed in sym (reached h p.0 a p.1) ∙ k (p.0, bytes) p.2;
  }

  pub passes_iff : (HasEqual field f.pairs × HasConstants field f.constants) ↔ Passes query tables item row
  passes_iff = (
    λ h. stands_passes h.0 h.1,
    λ p. (λ v m. p.equal v.0 v.1 (known.linked v m), λ v m. p.constant v.0 v.1 (known.fixed v m)),
  )

-- ---- stored tests

pub texts_differ : (a b : List ℕ) → not (bytes_eq a b) ≡ true → a ≡ b → ⊥
texts_differ a b h e =
    let t : true ≡ false = sym ((bytes_eq-Decides a b).1 e) ∙ not-true (bytes_eq a b) h in
    absurd (cc)

pub texts_same : (a b : List ℕ) → not (bytes_eq a b) ≡ false → a ≡ b
texts_same a b h = (bytes_eq-Decides a b).0 (not-false (bytes_eq a b) h)

pub constants_each : (field : ℕ → List ℕ) (xs : List Constant) → ((y : Constant) → IsMember y xs → field y.place ≡ y.bytes) → HasConstants field (map constant_view xs)
constants_each field xs h v m =
    let p = member_unmap constant_view v xs m in
    subst (λ (z : ℕ × List ℕ). field z.0 ≡ z.1) (sym p.2) (h p.0 p.1)

pub constants_one : (field : ℕ → List ℕ) (xs : List Constant) → HasConstants field (map constant_view xs) → (y : Constant) → IsMember y xs → field y.place ≡ y.bytes
constants_one field xs h y m = h (constant_view y) (member_map constant_view y xs m)

-- ---- the places that the tests of an item name exist

module _ (query : Query) (tables : List Table) (within : NamesExist query tables) where
  inside : (c d : Column) → Linked query.equalities c d → (c ≡ d) ⊎ IsInside tables query.items c
  inside = linked_inside tables query.items query.equalities within.equalities

  there : (e : Equality) → IsMember e query.equalities → IsInside tables query.items e.left
  there e m = (all_member (EqualityInside tables query.items) e query.equalities within.equalities m).left

  module _ (item : ℕ) (f : ItemFilter) (known : IsFilterOf query.equalities item f) where
    abbrev column : ℕ → Column
    column place = record { item = item; place = place }

    pub first_inside : (v : ℕ × ℕ) → IsMember v f.pairs → v.0 < length (table_in tables query.items item).names
    first_inside v m = elim (inside (column v.0) (column v.1) (known.linked v m)) [
      | inl e ↦ let p : v.0 ≡ v.1 = ap (λ (c : Column). c.place) e in let l = known.apart v m in absurd (omega (arith, p, l))
      | inr h ↦ h.place
    ]

    pub second_inside : (v : ℕ × ℕ) → IsMember v f.pairs → v.1 < length (table_in tables query.items item).names
    second_inside v m = elim (inside (column v.1) (column v.0) (linked_back (known.linked v m))) [
      | inl e ↦ let p : v.1 ≡ v.0 = ap (λ (c : Column). c.place) e in let l = known.apart v m in absurd (omega (arith, p, l))
      | inr h ↦ h.place
    ]

    pub constant_inside : (v : ℕ × List ℕ) → IsMember v f.constants → v.0 < length (table_in tables query.items item).names
    constant_inside v m =
        let k = known.fixed v m in
        elim (inside (column v.0) k.equality.left k.linked) [
          | inl e ↦ (subst (λ (c : Column). IsInside tables query.items c) (sym e) (there k.equality k.member)).place
          | inr h ↦ h.place
        ]

-- the tests that are stored for an item
pub stored_filter : (bound : BoundQuery) (tables : List Table) → Fits bound tables → (filters : List Filter) → map filter_view filters ≡ bound.filters
    → (item : ℕ) (f : Filter) → item < length bound.query.items → f ≡ get_or filters item f → IsFilterOf bound.query.equalities item (filter_view f)
stored_filter bound tables fits filters shown item f h is =
    let inside : item < length filters = omega (arith, length-map filters filter_view, ap length shown, fits.filtered, h) in
    let at : filter_at bound.filters item ≡ filter_view f =
    ap (λ (l : List ItemFilter). filter_at l item) (sym shown) ∙ get_or-map filter_view filters item f (record { pairs = []; constants = [] }) inside ∙ ap filter_view (sym is) in
    subst (λ (g : ItemFilter). IsFilterOf bound.query.equalities item g) at (fits.filters item h)
