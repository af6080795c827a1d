-- The variables of a query, from the labels of its columns.
use Rattle.std.proofs.Common.{◌≡◌, ◌<◌, ◌≤◌, ◌+◌, ◌*◌, ℕ, zero, suc, Bool, true, false, cond, List, [], ◌∷◌, ◌++◌, map, filter, length, get_or, Vec, Global, refl, sym, ap, subst, ◌∙◌, inl, inr, arith}
use Rattle.std.specs.List.{AllByRecursion, range_with_len}
use Rattle.std.proofs.lemmas.Bool.{cases_eq, cases_lt}
use Rattle.std.proofs.lemmas.List.{get_or-map, length-append, length-map, map-append}
use Rattle.std.proofs.lemmas.List.FromFn.{length-map-range_with_len}
use Rattle.anyk_model.specs.Table.{Table, table_at}
use Rattle.anyk_model.specs.Query.{Query, Item, Column, Equality}
use Rattle.rankings.specs.Order.{IsAscending, IsMember}
use Rattle.query_bind.specs.Binding.{columns_from, item_columns}
use Rattle.bound_query.specs.Classes.{AreVariables, AreVariablesOf, ColumnBefore, HasVariable, IsShared, variable_at}
use Rattle.table_store.specs.Tables.{IsSound}
use Rattle.table_store.proofs.Places.{sound_few_columns}
use Rattle.bound_query.specs.NamedPlaces.{HasTable, IsInside, NamesExist}
use Rattle.query_bind.specs.Labels.{IsFirstPlace, IsLabelling, least_in}
use Rattle.bound_query.specs.StoredParts.{column_view, equality_view, item_view, items_view, lists_view}
use Rattle.query_bind.specs.Variables.{HasVariables, HavePlaces, HavePlacesEach, is_variable, width_in}
use Rattle.bound_query.specs.WeighedQuery.{variables_at}
use Rattle.bound_query.specs.declared.bound.BoundEquality.{BoundEquality}
use Rattle.bound_query.specs.declared.bound.BoundItem.{BoundItem}
use Rattle.query_bind.specs.declared.classes.Member.{Member}
use Rattle.bound_query.proofs.Least.{at_member, shared_along}
use Rattle.rankings.proofs.Ascending.{ascending_append, below_all}
use Rattle.rankings.proofs.Members.{member_either, member_left, member_right}
use Rattle.bound_query.proofs.Inside.{shared_inside}
use Rattle.bound_query.proofs.Lists.{all_at, at_last, at_left, length_last}
use Rattle.bound_query.proofs.ColumnOrder.{same_columns}
use Rattle.query_bind.proofs.Binds.{stored_tables}
use Rattle.query_bind.proofs.VariablesFound.{least_labelled, variables_found}

pub fewer_kept : {A : Type 0} (test : A → Bool) (xs : List A) → length (filter test xs) ≤ length xs
fewer_kept test [] = omega arith
fewer_kept test (x ∷ xs) = by_test (test x) (fewer_kept test xs)
  where
    by_test : (b : Bool) → length (filter test xs) ≤ length xs → length (cond b (x ∷ filter test xs) (filter test xs)) ≤ suc (length xs)
    by_test true h = omega (arith, h)
    by_test false h = omega (arith, h)

-- ---- all columns

module _ (item : ℕ) where
  abbrev columns : ℕ → ℕ → List Column
  columns start n = map (λ p. record { item = item; place = p }) (range_with_len start n)

  columns_member : (p start n : ℕ) → start ≤ p → p < start + n → IsMember (record { item = item; place = p }) (columns start n)
  columns_member p start zero low high = absurd (omega (arith, low, high))
  columns_member p start (suc n) low high = elim (cases_eq p start) [
    | inl e ↦ inl (λ i. record { item = item; place = e i })
    | inr ne ↦ inr (columns_member p (start + 1) n (omega (arith, low, ne)) (omega (arith, high)))
  ]

  columns_of : (c : Column) (start n : ℕ) → IsMember c (columns start n) → (c.item ≡ item) × (start ≤ c.place)
  columns_of c start zero m = absurd m
  columns_of c start (suc n) (inl e) = (ap (λ (z : Column). z.item) e, (let p : c.place ≡ start = ap (λ (z : Column). z.place) e in omega (arith, p)))
  columns_of c start (suc n) (inr m) = let p = columns_of c (start + 1) n m in let l = p.1 in (p.0, omega (arith, l))

  columns_ascending : (start n : ℕ) → IsAscending ColumnBefore (columns start n)
  columns_ascending start zero = tt
  columns_ascending start (suc n) = (
    below_all ColumnBefore (record { item = item; place = start }) (columns (start + 1) n)
        (λ y m. let p = columns_of y (start + 1) n m in let l = p.1 in inr (sym p.0, omega (arith, l))),
    columns_ascending (start + 1) n,
  )

module _ (tables : List Table) where
  from_item : (c : Column) (items : List Item) (n : ℕ) → IsMember c (columns_from n tables items) → n ≤ c.item
  from_item c [] n m = absurd m
  from_item c (item ∷ items) n m = elim (member_either c (item_columns n (length (table_at tables item.table).names)) (columns_from (n + 1) tables items) m) [
    | inl own ↦ let e = (columns_of n c 0 (length (table_at tables item.table).names) own).0 in omega (arith, e)
    | inr later ↦ let l = from_item c items (n + 1) later in omega (arith, l)
  ]

  pub from_ascending : (items : List Item) (n : ℕ) → IsAscending ColumnBefore (columns_from n tables items)
  from_ascending [] n = tt
  from_ascending (item ∷ items) n =
      ascending_append ColumnBefore (item_columns n (length (table_at tables item.table).names)) (columns_from (n + 1) tables items)
      (columns_ascending n 0 (length (table_at tables item.table).names)) (from_ascending items (n + 1))
      (λ x y m k.
      let e = (columns_of n x 0 (length (table_at tables item.table).names) m).0 in
      let l = from_item y items (n + 1) k in
      inl (omega (arith, e, l)))

  from_member : (c : Column) (items : List Item) (n k : ℕ) → c.item ≡ n + k → k < length items
      → c.place < length (table_at tables (get_or items k (record { table = 0; alias = [] })).table).names → IsMember c (columns_from n tables items)
  from_member c [] n k e h inside = absurd (omega (arith, h))
  from_member c (item ∷ items) n zero e h inside =
      let here : c ≡ record { item = n; place = c.place } = same_columns c (record { item = n; place = c.place }) (omega (arith, e)) refl in
      subst (λ (z : Column). IsMember z (columns_from n tables (item ∷ items))) (sym here)
      (member_left (record { item = n; place = c.place }) (item_columns n (length (table_at tables item.table).names)) (columns_from (n + 1) tables items)
      (columns_member n c.place 0 (length (table_at tables item.table).names) (omega arith) (omega (arith, inside))))
  from_member c (item ∷ items) n (suc k) e h inside =
      member_right c (item_columns n (length (table_at tables item.table).names)) (columns_from (n + 1) tables items)
      (from_member c items (n + 1) k (omega (arith, e)) (omega (arith, h)) inside)

  pub inside_member : (items : List Item) (c : Column) → IsInside tables items c → IsMember c (columns_from 0 tables items)
  inside_member items c h = from_member c items 0 c.item (omega arith) h.item h.place

  pub from_few : (items : List Item) (n : ℕ) → AllByRecursion (λ (i : Item). length (table_at tables i.table).names ≤ 64) items
      → length (columns_from n tables items) ≤ 64 * length items
  from_few [] n h = omega arith
  from_few (item ∷ items) n h =
      let w = length (table_at tables item.table).names in
      let narrow = h.0 in
      let rest = from_few items (n + 1) h.1 in
      let size = length-append (item_columns n w) (columns_from (n + 1) tables items) in
      let own : length (item_columns n w) ≡ w = length-map-range_with_len {X = Column} (λ (p : ℕ). record { item = n; place = p }) 0 w in
      omega (arith, narrow, rest, size, own)

-- ---- the variables of an item

module _ (es : List Equality) (label : Column → Column) (known : IsLabelling es label) (variables : List Column) (are : AreVariables es variables)
    (item width : ℕ) (wide : (place : ℕ) → IsShared es (record { item = item; place = place }) → place < width) where
  least_of : (number : ℕ) → number < length variables → label (variable_at variables number) ≡ variable_at variables number
  least_of number h = least_labelled es label known (variable_at variables number) ((are.members (variable_at variables number)).0 (at_member variables number h)).1

  pub places_variables : (list : List (ℕ × ℕ)) → HavePlaces label variables item width (length variables) list → AreVariablesOf es variables item list
  places_variables list h = record {
    ascending = h.ascending;
    members = λ v. (
      λ m.
          let p = (h.members v).0 m in
          record {
            known = p.0;
            linked = known.sound (variable_at variables v.0) (record { item = item; place = v.1 }) (least_of v.0 p.0 ∙ sym p.1.labelled);
            least = λ other link. elim (cases_lt other v.1) [
              | inl less ↦ absurd (p.1.first other less (sym (known.complete (record { item = item; place = v.1 }) (record { item = item; place = other }) link) ∙ p.1.labelled))
              | inr more ↦ more
            ];
          },
      λ (k : HasVariable es variables item v.0 v.1).
          let variable = variable_at variables v.0 in
          let here : Column = record { item = item; place = v.1 } in
          let shared : IsShared es here = shared_along es variable here k.linked ((are.members variable).0 (at_member variables v.0 k.known)).0 in
          let labelled : label here ≡ variable = sym (known.complete variable here k.linked) ∙ least_of v.0 k.known in
          let first : IsFirstPlace label item width variable v.1 = record {
            inside = wide v.1 shared;
            labelled = labelled;
            first = λ other less is.
                let l : v.1 ≤ other = k.least other (known.sound here (record { item = item; place = other }) (labelled ∙ sym is)) in
                omega (arith, l, less);
          } in
          (h.members v).1 (k.known, first),
    );
  }

-- ---- the variables of all items

pub each_none : (label : Column → Column) (variables : List Column) (tables : List Table) (items : List Item) → HavePlacesEach label variables tables items 0 []
each_none label variables tables items = record { count = refl; each = λ i h. absurd (omega (arith, h)) }

pub each_more : (label : Column → Column) (variables : List (ℕ × ℕ)) (tables : List Table) (items : List BoundItem) (n width : ℕ) (d : BoundItem)
    (lists : List (Vec (ℕ × ℕ) Global)) (v : Vec (ℕ × ℕ) Global) → n < length items → width ≡ length (table_at tables (get_or items n d).table).names
    → HavePlacesEach label (map column_view variables) tables (items_view items) n (lists_view lists)
    → HavePlaces label (map column_view variables) n width (length variables) v.items
    → HavePlacesEach label (map column_view variables) tables (items_view items) (n + 1) (lists_view (lists ++ v ∷ []))
each_more label variables tables items n width d lists v h wide known own =
    let old = lists_view lists in
    let more : lists_view (lists ++ v ∷ []) ≡ old ++ v.items ∷ [] = map-append (λ (u : Vec (ℕ × ℕ) Global). u.items) lists (v ∷ []) in
    let shown = map column_view variables in
    let at : get_or (items_view items) n (record { table = 0; alias = [] }) ≡ item_view (get_or items n d) = get_or-map item_view items n d (record { table = 0; alias = [] }) h in
    let width_is : width ≡ width_in tables (items_view items) n = wide ∙ ap (λ (i : Item). length (table_at tables i.table).names) (sym at) in
    let here : HavePlaces label shown n (width_in tables (items_view items) n) (length shown) v.items =
    subst (λ (k : ℕ). HavePlaces label shown n (width_in tables (items_view items) n) k v.items) (sym (length-map variables column_view))
    (subst (λ (k : ℕ). HavePlaces label shown n k (length variables) v.items) width_is own) in
    let count = known.count in
    subst (λ (l : List (List (ℕ × ℕ))). HavePlacesEach label shown tables (items_view items) (n + 1) l) (sym more) (record {
      count = length_last old v.items ∙ ap (λ (k : ℕ). k + 1) known.count;
      each = λ i less. elim (cases_eq i n) [
        | inl e ↦
            let last : get_or (old ++ v.items ∷ []) i [] ≡ v.items = ap (λ (k : ℕ). get_or (old ++ v.items ∷ []) k []) (e ∙ sym count) ∙ at_last old v.items [] in
            subst (λ (l : List (ℕ × ℕ)). HavePlaces label shown i (width_in tables (items_view items) i) (length shown) l) (sym last)
            (subst (λ (k : ℕ). HavePlaces label shown k (width_in tables (items_view items) k) (length shown) v.items) (sym e) here)
        | inr ne ↦
            subst (λ (l : List (ℕ × ℕ)). HavePlaces label shown i (width_in tables (items_view items) i) (length shown) l)
            (sym (at_left old v.items [] i (omega (arith, less, ne, count)))) (known.each i (omega (arith, less, ne)))
      ];
    })

-- what is found for a query that fits its tables
pub has_variables : (query : Query) (tables : List Table) (label : Column → Column) (variables : List Column) (lists : List (List (ℕ × ℕ))) → NamesExist query tables
    → IsLabelling query.equalities label → AreVariables query.equalities variables → length variables ≤ 1024
    → HavePlacesEach label variables tables query.items (length query.items) lists → HasVariables query variables lists
has_variables query tables label variables lists within known are few each = record {
  variables = are;
  few = few;
  listed = each.count;
  lists = λ item inside. places_variables query.equalities label known variables are item (width_in tables query.items item)
      (λ place s. (shared_inside tables query.items query.equalities within.equalities (record { item = item; place = place }) s).place)
      (variables_at lists item) (each.each item inside);
}

-- ---- the variables that are found for a stored query
narrow_items : (tables : List Table) (items : List Item) → AllByRecursion IsSound tables → AllByRecursion (HasTable tables) items
    → AllByRecursion (λ (i : Item). length (table_at tables i.table).names ≤ 64) items
narrow_items tables [] sound h = tt
narrow_items tables (i ∷ items) sound h =
    (sound_few_columns (table_at tables i.table) (all_at IsSound tables i.table (record { names = []; rows = [] }) sound h.0), narrow_items tables items sound h.1)

module _ (query : Query) (tables : List Table) (within : NamesExist query tables) (sound : AllByRecursion IsSound tables)
    (items : List BoundItem) (items_are : items_view items ≡ query.items) (few : length items ≤ 16) where
  pub items_known : AllByRecursion (λ (i : BoundItem). i.table < length tables) items
  items_known = stored_tables tables items (subst (λ (l : List Item). AllByRecursion (HasTable tables) l) (sym items_are) within.items)

  module _ (columns least : List (ℕ × ℕ)) (all : map column_view columns ≡ columns_from 0 tables (items_view items)) (test : ℕ × ℕ → Bool)
      (found : least ≡ filter test columns) where
    pub few_variables : length least ≤ 1024
    few_variables =
        let narrow = narrow_items tables (items_view items) sound (subst (λ (l : List Item). AllByRecursion (HasTable tables) l) (sym items_are) within.items) in
        let kept : length least ≤ length columns = subst (λ (l : List (ℕ × ℕ)). length l ≤ length columns) (sym found) (fewer_kept test columns) in
        omega (arith, kept, length-map columns column_view, ap length all, from_few tables (items_view items) 0 narrow, length-map items item_view, few)

  pub structure : (ms : List Member) (eqs : List BoundEquality) (columns least : List (ℕ × ℕ)) (lists : List (List (ℕ × ℕ))) → map equality_view eqs ≡ query.equalities
      → IsLabelling (map equality_view eqs) (least_in ms) → map column_view columns ≡ columns_from 0 tables (items_view items)
      → least ≡ filter (λ c. is_variable ms eqs (column_view c)) columns
      → HavePlacesEach (least_in ms) (map column_view least) tables (items_view items) (length items) lists → HasVariables query (map column_view least) lists
  structure ms eqs columns least lists eqs_are known all found each =
      let label = least_in ms in
      let shared : (c : Column) → IsShared (map equality_view eqs) c → IsMember c (map column_view columns) =
      λ c s. subst (λ (l : List Column). IsMember c l) (sym all)
      (inside_member tables (items_view items) c
      (subst (λ (l : List Item). IsInside tables l c) (sym items_are)
      (shared_inside tables query.items query.equalities within.equalities c (subst (λ (es : List Equality). IsShared es c) eqs_are s)))) in
      let ascending : IsAscending ColumnBefore (map column_view columns) =
      subst (λ (l : List Column). IsAscending ColumnBefore l) (sym all) (from_ascending tables (items_view items) 0) in
      let are : AreVariables (map equality_view eqs) (map column_view least) =
      subst (λ (l : List (ℕ × ℕ)). AreVariables (map equality_view eqs) (map column_view l)) (sym found) (variables_found ms eqs known columns ascending shared) in
      let few_least : length (map column_view least) ≤ 1024 =
      omega (arith, length-map least column_view, few_variables columns least all (λ c. is_variable ms eqs (column_view c)) found) in
      let count : length items ≡ length query.items = sym (length-map items item_view) ∙ ap length items_are in
      has_variables query tables label (map column_view least) lists within
      (subst (λ (es : List Equality). IsLabelling es label) eqs_are known)
      (subst (λ (es : List Equality). AreVariables es (map column_view least)) eqs_are are) few_least
      (subst (λ (n : ℕ). HavePlacesEach label (map column_view least) tables query.items n lists) count
      (subst (λ (l : List Item). HavePlacesEach label (map column_view least) tables l (length items) lists) items_are each))
