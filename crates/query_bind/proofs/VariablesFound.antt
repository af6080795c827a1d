-- The variables that the tests on classes find.
use Rattle.std.proofs.Common.{◌≡◌, ◌⊎◌, ◌==◌, ◌&&◌, ◌<◌, ◌+◌, if◌then◌else◌, ℕ, Bool, true, false, not, List, [], ◌∷◌, ◌++◌, map, filter, length, get_or, refl, sym, ap, subst, ◌∙◌, inl, inr, arith}
use Rattle.std.proofs.lemmas.Bool.{cases_eq, cases_order, not-true, not_from_false, false_from_ne_true, and_from, and_parts}
use Rattle.std.proofs.lemmas.Bool.Decides.{eqb_tells}
use Rattle.std.proofs.lemmas.List.{get_or-map}
use Rattle.anyk_model.specs.Query.{Column, Equality, Side, of_column, of_constant}
use Rattle.rankings.specs.Order.{IsAscending, IsMember}
use Rattle.bound_query.specs.Classes.{AreVariables, ColumnBefore, IsFixedTo, IsLeast, IsShared, NumberBefore, variable_at}
use Rattle.query_bind.specs.Labels.{HasNoPlace, IsFirstPlace, IsLabelling, is_same, least_in, listed}
use Rattle.bound_query.specs.StoredParts.{column_view, equality_view}
use Rattle.query_bind.specs.Variables.{HavePlaces, is_constant, is_elsewhere, is_fixed, is_fixing, is_other, is_variable}
use Rattle.bound_query.specs.declared.bound.BoundEquality.{BoundEquality}
use Rattle.query_bind.specs.declared.classes.Member.{Member}
use Rattle.rankings.proofs.Ascending.{ascending_append, ascending_filter}
use Rattle.rankings.proofs.Members.{any_member, kept_member, map_filter, member_any, member_kept, member_last, member_left, member_map, member_parts, member_unmap}
use Rattle.bound_query.proofs.ColumnOrder.{before_neither}
use Rattle.query_bind.proofs.Order.{same_tells, same_true, true_same}

constant_is : (s : Side) → is_constant s ≡ true → (bytes : List ℕ) × (s ≡ of_constant bytes)
constant_is (of_column c) h = absurd (let e : false ≡ true = h in cc)
constant_is (of_constant bytes) h = (bytes, refl)

-- a column is not listed, or a member has it
listed_or : (ms : List Member) (c none : Column) → (listed ms c none ≡ none) ⊎ ((m : Member) × IsMember m ms × (column_view m.column ≡ c))
listed_or [] c none = inl refl
listed_or (m ∷ ms) c none = elim (same_tells (column_view m.column) c) [
  | inl p ↦ inr (m, inl refl, p.1)
  | inr p ↦
      let miss = ap (λ (b : Bool). if b then column_view m.least else listed ms c none) p.0 in
      elim (listed_or ms c none) [ inl e ↦ inl (miss ∙ e) | inr q ↦ inr (q.0, inr q.1, q.2) ]
]

module _ (es : List Equality) (label : Column → Column) (known : IsLabelling es label) where
  -- the least columns are those that are their own labels
  pub least_labelled : (c : Column) → IsLeast es c → label c ≡ c
  least_labelled c h = before_neither (label c) c (h (label c) (known.own c)) (known.least c)

  pub labelled_least : (c : Column) → label c ≡ c → IsLeast es c
  labelled_least c is d link before =
      let at : c ≡ label d = sym is ∙ known.complete c d link in
      known.least d (subst (λ (z : Column). ColumnBefore d z) at before)

module _ (ms : List Member) (stored : List BoundEquality) (known : IsLabelling (map equality_view stored) (least_in ms)) where
  abbrev es : List Equality
  es = map equality_view stored

  abbrev label : Column → Column
  label = least_in ms

  fixed_not_free : (c : Column) → label c ≡ c → is_fixed ms stored c ≡ true → ((bytes : List ℕ) → IsFixedTo es c bytes → ⊥) → ⊥
  fixed_not_free c own h free =
      let found = any_member (λ (e : BoundEquality). is_fixing label c (equality_view e)) stored h in
      let e = equality_view found.0 in
      let parts = and_parts (is_constant e.right) (is_same (label e.left) c) found.2 in
      let constant = constant_is e.right parts.0 in
      free constant.0 (record {
        equality = e;
        member = member_map equality_view found.0 stored found.1;
        constant = constant.1;
        linked = known.sound c e.left (own ∙ sym (same_true (label e.left) c parts.1));
      })

  fixing_found : (c : Column) (bytes : List ℕ) → label c ≡ c → IsFixedTo es c bytes → is_fixed ms stored c ≡ true
  fixing_found c bytes own f =
      let e = member_unmap equality_view f.equality stored f.member in
      let shown : equality_view e.0 ≡ f.equality = sym e.2 in
      let link : label f.equality.left ≡ c = sym (known.complete c f.equality.left f.linked) ∙ own in
      member_any (λ (x : BoundEquality). is_fixing label c (equality_view x)) e.0 stored e.1
      (ap (is_fixing label c) shown
      ∙ and_from (is_constant f.equality.right) (is_same (label f.equality.left) c) (ap is_constant f.constant) (true_same (label f.equality.left) c link))

  variable_sound : (c : Column) → is_variable ms stored c ≡ true → IsShared es c × IsLeast es c
  variable_sound c h =
      let outer = and_parts (is_same (label c) c && is_elsewhere ms c) (not (is_fixed ms stored c)) h in
      let inner = and_parts (is_same (label c) c) (is_elsewhere ms c) outer.0 in
      let own : label c ≡ c = same_true (label c) c inner.0 in
      let unfixed : is_fixed ms stored c ≡ false = not-true (is_fixed ms stored c) outer.1 in
      let found = any_member (λ (m : Member). is_other label c (column_view m.column)) ms inner.1 in
      let other = column_view found.0.column in
      let tests = and_parts (is_same (label other) c) (not (other.item == c.item)) found.2 in (
        record {
          free = λ bytes f. let e : true ≡ false = sym (fixing_found c bytes own f) ∙ unfixed in absurd (cc);
          other = other;
          linked = known.sound c other (own ∙ sym (same_true (label other) c tests.0));
          elsewhere = λ e. elim (eqb_tells other.item c.item) [
            | inl p ↦ let q : false ≡ true = sym (not-true (other.item == c.item) tests.1) ∙ p.0 in absurd (cc)
            | inr p ↦ p.1 e
          ];
        },
        labelled_least es label known c own,
      )

  variable_found : (c : Column) → IsShared es c → IsLeast es c → is_variable ms stored c ≡ true
  variable_found c s least =
      let own : label c ≡ c = least_labelled es label known c least in
      let there : label s.other ≡ c = sym (known.complete c s.other s.linked) ∙ own in
      let unfixed : is_fixed ms stored c ≡ false = false_from_ne_true (is_fixed ms stored c) (λ h. fixed_not_free c own h s.free) in
      let apart : not (s.other.item == c.item) ≡ true = not_from_false (s.other.item == c.item) (elim (eqb_tells s.other.item c.item) [ inl p ↦ absurd (s.elsewhere p.1) | inr p ↦ p.0 ]) in
      let test : is_other label c s.other ≡ true = and_from (is_same (label s.other) c) (not (s.other.item == c.item)) (true_same (label s.other) c there) apart in
      let elsewhere : is_elsewhere ms c ≡ true = elim (listed_or ms s.other s.other) [
        | inl e ↦ absurd (s.elsewhere (ap (λ (z : Column). z.item) (sym e ∙ there)))
        | inr p ↦ member_any (λ (m : Member). is_other label c (column_view m.column)) p.0 ms p.1 (ap (is_other label c) p.2 ∙ test)
      ] in
      and_from (is_same (label c) c && is_elsewhere ms c) (not (is_fixed ms stored c)) (and_from (is_same (label c) c) (is_elsewhere ms c) (true_same (label c) c own) elsewhere)
      (not_from_false (is_fixed ms stored c) unfixed)

  -- the variables, among ascending columns that include all columns of variables
  pub variables_found : (columns : List (ℕ × ℕ)) → IsAscending ColumnBefore (map column_view columns) → ((c : Column) → IsShared es c → IsMember c (map column_view columns))
      → AreVariables es (map column_view (filter (λ c. is_variable ms stored (column_view c)) columns))
  variables_found columns ascending all =
      let same : map column_view (filter (λ c. is_variable ms stored (column_view c)) columns) ≡ filter (is_variable ms stored) (map column_view columns) =
      map_filter column_view (is_variable ms stored) columns in
      subst (λ (l : List Column). AreVariables es l) (sym same) (record {
        ascending = ascending_filter ColumnBefore (is_variable ms stored) (map column_view columns) ascending;
        members = λ c. (
          λ m. variable_sound c (kept_member (is_variable ms stored) c (map column_view columns) m).1,
          λ h. member_kept (is_variable ms stored) c (map column_view columns) (all c h.0) (variable_found c h.0 h.1),
        );
      })

-- ---- the variables of an item

one_place : (label : Column → Column) (item width : ℕ) (least : Column) (p q : ℕ) → IsFirstPlace label item width least p → IsFirstPlace label item width least q → p ≡ q
one_place label item width least p q a b = elim (cases_order p q) [
  | inl e ↦ e
  | inr (inl l) ↦ absurd (b.first p l a.labelled)
  | inr (inr g) ↦ absurd (a.first q g b.labelled)
]

module _ (label : Column → Column) (variables : List Column) (item width : ℕ) where
  pub places_none : HavePlaces label variables item width 0 []
  places_none = record { ascending = tt; members = λ v. (λ m. absurd m, λ h. absurd (let l = h.0 in omega (arith, l))) }

  pub places_more : (n place : ℕ) (list : List (ℕ × ℕ)) → HavePlaces label variables item width n list → IsFirstPlace label item width (variable_at variables n) place
      → HavePlaces label variables item width (n + 1) (list ++ (n, place) ∷ [])
  places_more n place list known here = record {
    ascending = ascending_append NumberBefore list ((n, place) ∷ []) known.ascending (tt, tt)
        (λ x y m k. elim k [ inl e ↦ subst (λ (z : ℕ). x.0 < z) (sym (ap (λ (z : ℕ × ℕ). z.0) e)) ((known.members x).0 m).0 | inr none ↦ absurd none ]);
    members = λ v. (
      λ m. elim (member_parts v (n, place) list m) [
        | inl old ↦ let p = (known.members v).0 old in let l = p.0 in (omega (arith, l), p.1)
        | inr e ↦ subst (λ (z : ℕ × ℕ). (z.0 < n + 1) × IsFirstPlace label item width (variable_at variables z.0) z.1) (sym e) (omega arith, here)
      ],
      λ h. elim (cases_eq v.0 n) [
        | inl e ↦
            let first : IsFirstPlace label item width (variable_at variables n) v.1 = subst (λ (z : ℕ). IsFirstPlace label item width (variable_at variables z) v.1) e h.1 in
            let q : v.1 ≡ place = one_place label item width (variable_at variables n) v.1 place first here in
            let is : (n, place) ≡ v = λ i. (sym e i, sym q i) in
            subst (λ (z : ℕ × ℕ). IsMember z (list ++ (n, place) ∷ [])) is (member_last (n, place) list)
        | inr ne ↦ let l = h.0 in member_left v list ((n, place) ∷ []) ((known.members v).1 (omega (arith, l, ne), h.1))
      ],
    );
  }

  pub places_skip : (n : ℕ) (list : List (ℕ × ℕ)) → HavePlaces label variables item width n list → HasNoPlace label item width (variable_at variables n)
      → HavePlaces label variables item width (n + 1) list
  places_skip n list known none = record {
    ascending = known.ascending;
    members = λ v. (
      λ m. let p = (known.members v).0 m in let l = p.0 in (omega (arith, l), p.1),
      λ h. elim (cases_eq v.0 n) [
        | inl e ↦
            let first : IsFirstPlace label item width (variable_at variables n) v.1 = subst (λ (z : ℕ). IsFirstPlace label item width (variable_at variables z) v.1) e h.1 in
            absurd (none v.1 first.inside first.labelled)
        | inr ne ↦ let l = h.0 in (known.members v).1 (omega (arith, l, ne), h.1)
      ],
    );
  }

-- a variable among stored ones
pub variable_shown : (vs : List (ℕ × ℕ)) (n : ℕ) (d : ℕ × ℕ) → n < length vs → column_view (get_or vs n d) ≡ variable_at (map column_view vs) n
variable_shown vs n d h = sym (get_or-map column_view vs n d (record { item = 0; place = 0 }) h)
