-- The tests of rows that classes make.
use Rattle.std.proofs.Common.{◌≡◌, ◌⊎◌, ◌<◌, ◌+◌, ◌==◌, ◌&&◌, ℕ, true, List, [], ◌∷◌, ◌++◌, map, length, take, get_or, refl, sym, ap, subst, ◌∙◌, inl, inr, arith}
use Rattle.std.specs.List.{list_any}
use Rattle.std.specs.Str.{bytes_eq}
use Rattle.std.proofs.lemmas.Bool.{cases_eq, cases_order, and_parts}
use Rattle.std.proofs.lemmas.Bool.Decides.{Decides-eqb}
use Rattle.std.proofs.lemmas.Slice.Eq.{bytes_eq-Decides}
use Rattle.std.proofs.lemmas.List.{map-append, take_more}
use Rattle.anyk_model.specs.Table.{Table}
use Rattle.anyk_model.specs.Query.{Item, Column, Equality, of_constant}
use Rattle.rankings.specs.Order.{IsMember}
use Rattle.bound_query.specs.Classes.{IsFixedTo, Linked}
use Rattle.bound_query.specs.FilterViews.{constant_view}
use Rattle.bound_query.specs.Filters.{IsFilterOf, ItemFilter, Reaches}
use Rattle.query_bind.specs.Filters.{HaveConstants, HavePairs}
use Rattle.bound_query.specs.NamedPlaces.{IsInside}
use Rattle.query_bind.specs.Labels.{HasNoPlace, IsFirstPlace, IsLabelling}
use Rattle.bound_query.specs.StoredParts.{equality_view}
use Rattle.bound_query.specs.declared.bound.BoundEquality.{BoundEquality}
use Rattle.bound_query.specs.declared.filters.Constant.{Constant}
use Rattle.rankings.proofs.Members.{member_last, member_left, member_parts}
use Rattle.std.proofs.lemmas.Bool.{or_cases}
use Rattle.bound_query.proofs.Witness.{linked_back}

abbrev column : ℕ → ℕ → Column
column item place = record { item = item; place = place }

-- ---- pairs

module _ (label : Column → Column) (item : ℕ) where
  pub pairs_none : HavePairs label item 0 []
  pairs_none = record { sound = λ v m. absurd m; found = λ q h. absurd (omega (arith, h)) }

  pub pairs_more : (n p : ℕ) (list : List (ℕ × ℕ)) → HavePairs label item n list → IsFirstPlace label item n (label (column item n)) p
      → HavePairs label item (n + 1) (list ++ (p, n) ∷ [])
  pairs_more n p list known here = record {
    sound = λ v m. elim (member_parts v (p, n) list m) [
      | inl old ↦ known.sound v old
      | inr e ↦ subst (λ (z : ℕ × ℕ). IsFirstPlace label item z.1 (label (column item z.1)) z.0) (sym e) here
    ];
    found = λ q h. elim (cases_eq q n) [
      | inl e ↦ inr (p, subst (λ (z : ℕ). IsMember (p, z) (list ++ (p, n) ∷ [])) (sym e) (member_last (p, n) list))
      | inr ne ↦ elim (known.found q (omega (arith, h, ne))) [ inl none ↦ inl none | inr f ↦ inr (f.0, member_left (f.0, q) list ((p, n) ∷ []) f.1) ]
    ];
  }

  pub pairs_skip : (n : ℕ) (list : List (ℕ × ℕ)) → HavePairs label item n list → HasNoPlace label item n (label (column item n)) → HavePairs label item (n + 1) list
  pairs_skip n list known none = record {
    sound = known.sound;
    found = λ q h. elim (cases_eq q n) [
      | inl e ↦ inl (subst (λ (z : ℕ). HasNoPlace label item z (label (column item z))) (sym e) none)
      | inr ne ↦ known.found q (omega (arith, h, ne))
    ];
  }

  -- the first place of a place's class
  pub record IsRoot (pairs : List (ℕ × ℕ)) (place root : ℕ) : Type 0 where
    pub reaches : Reaches pairs root place
    pub labelled : label (column item root) ≡ label (column item place)
    pub first : (other : ℕ) → other < root → label (column item other) ≡ label (column item place) → ⊥

  pub root_of : (n : ℕ) (pairs : List (ℕ × ℕ)) → HavePairs label item n pairs → (place : ℕ) → place < n → (root : ℕ) × IsRoot pairs place root
  root_of n pairs known place h = elim (known.found place h) [
    | inl none ↦ (place, record { reaches = inl refl; labelled = refl; first = none })
    | inr f ↦ let p = known.sound (f.0, place) f.1 in (f.0, record { reaches = inr f.1; labelled = p.labelled; first = p.first })
  ]

  pub one_root_lem : (pairs : List (ℕ × ℕ)) (a b p q : ℕ) → IsRoot pairs a p → IsRoot pairs b q → label (column item a) ≡ label (column item b) → p ≡ q
  one_root_lem pairs a b p q x y same = elim (cases_order p q) [
    | inl e ↦ e
    | inr (inl l) ↦ absurd (y.first p l (x.labelled ∙ same))
    | inr (inr g) ↦ absurd (x.first q g (y.labelled ∙ sym same))
  ]

-- ---- constants

one_constant : {a b : List ℕ} → of_constant a ≡ of_constant b → a ≡ b
one_constant h = cc

module _ (label : Column → Column) (item width : ℕ) where
  pub constants_more : (es : List Equality) (e : Equality) (bytes : List ℕ) (p : ℕ) (list : List (ℕ × List ℕ)) → HaveConstants label item width es list
      → e.right ≡ of_constant bytes → IsFirstPlace label item width (label e.left) p → HaveConstants label item width (es ++ e ∷ []) (list ++ (p, bytes) ∷ [])
  constants_more es e bytes p list known is here = record {
    sound = λ v m. elim (member_parts v (p, bytes) list m) [
      | inl old ↦ let k = known.sound v old in (k.0, member_left k.0 es (e ∷ []) k.1, k.2, k.3)
      | inr at ↦
          let own : (q : Equality) × IsMember q (es ++ e ∷ []) × (q.right ≡ of_constant bytes) × IsFirstPlace label item width (label q.left) p =
          (e, member_last e es, is, here) in
          subst (λ (z : ℕ × List ℕ). (q : Equality) × IsMember q (es ++ e ∷ []) × (q.right ≡ of_constant z.1) × IsFirstPlace label item width (label q.left) z.0) (sym at) own
    ];
    found = λ q b m at. elim (member_parts q e es m) [
      | inl old ↦ elim (known.found q b old at) [ inl none ↦ inl none | inr k ↦ inr (k.0, member_left (k.0, b) list ((p, bytes) ∷ []) k.1, k.2) ]
      | inr new ↦
          let sides : of_constant b ≡ of_constant bytes = sym at ∙ ap (λ (z : Equality). z.right) new ∙ is in
          let same : b ≡ bytes = one_constant sides in
          inr (
            p,
            subst (λ (z : List ℕ). IsMember (p, z) (list ++ (p, bytes) ∷ [])) (sym same) (member_last (p, bytes) list),
            subst (λ (z : Equality). IsFirstPlace label item width (label z.left) p) (sym new) here,
          )
    ];
  }

  -- a constant that is in the list already
  pub constants_again : (es : List Equality) (e : Equality) (bytes : List ℕ) (p : ℕ) (list : List (ℕ × List ℕ)) → HaveConstants label item width es list
      → e.right ≡ of_constant bytes → IsFirstPlace label item width (label e.left) p → IsMember (p, bytes) list
      → HaveConstants label item width (es ++ e ∷ []) list
  constants_again es e bytes p list known is here there = record {
    sound = λ v m. let k = known.sound v m in (k.0, member_left k.0 es (e ∷ []) k.1, k.2, k.3);
    found = λ q b m at. elim (member_parts q e es m) [
      | inl old ↦ known.found q b old at
      | inr new ↦
          let sides : of_constant b ≡ of_constant bytes = sym at ∙ ap (λ (z : Equality). z.right) new ∙ is in
          let same : b ≡ bytes = one_constant sides in
          inr (
            p,
            subst (λ (z : List ℕ). IsMember (p, z) list) (sym same) there,
            subst (λ (z : Equality). IsFirstPlace label item width (label z.left) p) (sym new) here,
          )
    ];
  }

  pub constants_skip : (es : List Equality) (e : Equality) (list : List (ℕ × List ℕ)) → HaveConstants label item width es list
      → ((bytes : List ℕ) → e.right ≡ of_constant bytes → HasNoPlace label item width (label e.left)) → HaveConstants label item width (es ++ e ∷ []) list
  constants_skip es e list known none = record {
    sound = λ v m. let k = known.sound v m in (k.0, member_left k.0 es (e ∷ []) k.1, k.2, k.3);
    found = λ q b m at. elim (member_parts q e es m) [
      | inl old ↦ known.found q b old at
      | inr new ↦ inl (subst (λ (z : Equality). HasNoPlace label item width (label z.left)) (sym new) (none b (sym (ap (λ (z : Equality). z.right) new) ∙ at)))
    ];
  }

pub listed_member : (place : ℕ) (bytes : List ℕ) (xs : List Constant) → list_any (λ (c : Constant). (c.place == place) && bytes_eq c.bytes bytes) xs ≡ true
    → IsMember (place, bytes) (map constant_view xs)
listed_member place bytes [] h = absurd (cc)
listed_member place bytes (x ∷ xs) h =
    elim (or_cases ((x.place == place) && bytes_eq x.bytes bytes) (list_any (λ (c : Constant). (c.place == place) && bytes_eq c.bytes bytes) xs) h) [
      | inl t ↦
          let p = and_parts (x.place == place) (bytes_eq x.bytes bytes) t in
          let a : place ≡ x.place = sym ((Decides-eqb x.place place).0 p.0) in
          let b : bytes ≡ x.bytes = sym ((bytes_eq-Decides x.bytes bytes).0 p.1) in
          inl (λ j. (a j, b j))
      | inr r ↦ inr (listed_member place bytes xs r)
    ]

-- the first i equalities, and one more
pub equalities_more : (es : List BoundEquality) (i : ℕ) (e : BoundEquality) → i < length es → e ≡ get_or es i e
    → map equality_view (take i es) ++ equality_view e ∷ [] ≡ map equality_view (take (i + 1) es)
equalities_more es i e h is =
    let more : take (i + 1) es ≡ take i es ++ e ∷ [] = take_more es i e h ∙ ap (λ (z : BoundEquality). take i es ++ z ∷ []) (sym is) in
    sym (ap (map equality_view) more ∙ map-append equality_view (take i es) (e ∷ []))

-- ---- the filter of an item

module _ (tables : List Table) (items : List Item) (es : List Equality) (inside : (c d : Column) → Linked es c d → (c ≡ d) ⊎ IsInside tables items c)
    (there : (e : Equality) → IsMember e es → IsInside tables items e.left)
    (label : Column → Column) (known : IsLabelling es label) (item width : ℕ) (wide : (place : ℕ) → IsInside tables items (column item place) → place < width) where
  joined_by : (f : ItemFilter) → HavePairs label item width f.pairs → (a b : ℕ) → Linked es (column item a) (column item b)
      → (a ≡ b) ⊎ ((first : ℕ) × Reaches f.pairs first a × Reaches f.pairs first b)
  joined_by f pairs a b link = elim (inside (column item a) (column item b) link) [
    | inl e ↦ inl (ap (λ (c : Column). c.place) e)
    | inr ia ↦ elim (inside (column item b) (column item a) (linked_back link)) [
      | inl e ↦ inl (sym (ap (λ (c : Column). c.place) e))
      | inr ib ↦
          let x = root_of label item width f.pairs pairs a (wide a ia) in
          let y = root_of label item width f.pairs pairs b (wide b ib) in
          let one : x.0 ≡ y.0 = one_root_lem label item f.pairs a b x.0 y.0 x.1 y.1 (known.complete (column item a) (column item b) link) in
          inr (x.0, x.1.reaches, subst (λ (z : ℕ). Reaches f.pairs z b) (sym one) y.1.reaches)
    ]
  ]

  fixed_inside : (a : ℕ) (bytes : List ℕ) → IsFixedTo es (column item a) bytes → IsInside tables items (column item a)
  fixed_inside a bytes f = elim (inside (column item a) f.equality.left f.linked) [
    | inl e ↦ subst (λ (c : Column). IsInside tables items c) (sym e) (there f.equality f.member)
    | inr h ↦ h
  ]

  constants_by : (f : ItemFilter) → HavePairs label item width f.pairs → HaveConstants label item width es f.constants → (a : ℕ) (bytes : List ℕ)
      → IsFixedTo es (column item a) bytes → (first : ℕ) × Reaches f.pairs first a × IsMember (first, bytes) f.constants
  constants_by f pairs constants a bytes k =
      let h : a < width = wide a (fixed_inside a bytes k) in
      let same : label (column item a) ≡ label k.equality.left = known.complete (column item a) k.equality.left k.linked in
      elim (constants.found k.equality bytes k.member k.constant) [
        | inl none ↦ absurd (none a h same)
        | inr p ↦
            let x = root_of label item width f.pairs pairs a h in
            let own : IsRoot label item f.pairs p.0 p.0 = record {
              reaches = inl refl;
              labelled = refl;
              first = λ other less is. p.2.first other less (is ∙ p.2.labelled);
            } in
            let one : x.0 ≡ p.0 = one_root_lem label item f.pairs a p.0 x.0 p.0 x.1 own (same ∙ sym p.2.labelled) in
            (p.0, subst (λ (z : ℕ). Reaches f.pairs z a) one x.1.reaches, p.1)
      ]

  pub filter_of : (f : ItemFilter) → HavePairs label item width f.pairs → HaveConstants label item width es f.constants → IsFilterOf es item f
  filter_of f pairs constants = record {
    apart = λ v m. (pairs.sound v m).inside;
    linked = λ v m. known.sound (column item v.0) (column item v.1) (pairs.sound v m).labelled;
    joined = joined_by f pairs;
    fixed = λ v m. let k = constants.sound v m in record {
      equality = k.0;
      member = k.1;
      constant = k.2;
      linked = known.sound (column item v.0) k.0.left k.3.labelled;
    };
    constants = constants_by f pairs constants;
  }
