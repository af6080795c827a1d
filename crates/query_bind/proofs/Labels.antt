-- One more equality joins two classes, and one label is replaced by the other.
use Rattle.std.proofs.Common.{◌≡◌, ◌⊎◌, ◌+◌, ◌<◌, ◌≤◌, if◌then◌else◌, ℕ, zero, suc, Bool, true, false, List, [], ◌∷◌, ◌++◌, map, length, take, drop, get_or, refl, sym, ap, subst, ◌∙◌, inl, inr, arith, add-one}
use Rattle.std.proofs.Math.ListN.{set}
use Rattle.std.proofs.lemmas.List.{append-nil, drop_all, map-append, take_all, take_more}
use Rattle.anyk_model.specs.Query.{Column, Equality, of_column, of_constant}
use Rattle.rankings.specs.Order.{IsMember}
use Rattle.bound_query.specs.Classes.{ColumnBefore, Linked, same, forth, back}
use Rattle.query_bind.specs.Labels.{IsLabelling, is_same, least_in, listed, replaced}
use Rattle.query_bind.specs.Relabelling.{with_least}
use Rattle.bound_query.specs.StoredParts.{column_view, equality_view}
use Rattle.bound_query.specs.declared.bound.BoundEquality.{BoundEquality}
use Rattle.query_bind.specs.declared.classes.Member.{Member}
use Rattle.rankings.proofs.Members.{member_last, member_left, member_parts}
use Rattle.bound_query.proofs.ColumnOrder.{before_self, before_until}
use Rattle.query_bind.proofs.Order.{same_tells}
use Rattle.bound_query.proofs.Lists.{drop_step}
use Rattle.bound_query.proofs.Witness.{linked_append, linked_back}

weaker : {es : List Equality} (e : Equality) {c d : Column} → Linked es c d → Linked (es ++ e ∷ []) c d
weaker e same = same
weaker {es = es} e (forth {e = q} m is h) = forth (member_left q es (e ∷ []) m) is (weaker e h)
weaker {es = es} e (back {e = q} m is h) = back (member_left q es (e ∷ []) m) is (weaker e h)

-- labels that each equality keeps equal are equal within a class
along : (es : List Equality) (label : Column → Column) → ((e : Equality) (b : Column) → IsMember e es → e.right ≡ of_column b → label e.left ≡ label b)
    → (c d : Column) → Linked es c d → label c ≡ label d
along es label keep c d h = go h
  where
    go : {c d : Column} → Linked es c d → label c ≡ label d
    go same = refl
    go (forth {e = e} {b = b} m is h) = keep e b m is ∙ go h
    go (back {e = e} {b = b} m is h) = sym (keep e b m is) ∙ go h

replaced_tells : (new old c : Column) → ((c ≡ old) × (replaced new old c ≡ new)) ⊎ ((c ≡ old → ⊥) × (replaced new old c ≡ c))
replaced_tells new old c = elim (same_tells c old) [
  | inl (t, e) ↦ inl (e, ap (λ (b : Bool). if b then new else c) t)
  | inr (f, n) ↦ inr (n, ap (λ (b : Bool). if b then new else c) f)
]

-- the class of y takes the label of x's class
module _ (es : List Equality) (label : Column → Column) (e : Equality) (x y : Column) (known : IsLabelling es label)
    (joined : Linked (es ++ e ∷ []) x y) (order : ColumnBefore (label y) (label x) → ⊥)
    (sides : (b : Column) → e.right ≡ of_column b → ((x ≡ e.left) × (y ≡ b)) ⊎ ((x ≡ b) × (y ≡ e.left))) where
  abbrev more : List Equality
  more = es ++ e ∷ []

  abbrev next : Column → Column
  next c = replaced (label x) (label y) (label c)

  next_x : next x ≡ label x
  next_x = elim (replaced_tells (label x) (label y) (label x)) [ inl p ↦ p.1 | inr p ↦ p.1 ]

  next_y : next y ≡ label x
  next_y = elim (replaced_tells (label x) (label y) (label y)) [ inl p ↦ p.1 | inr p ↦ absurd (p.0 refl) ]

  keeps : (q : Equality) (d : Column) → IsMember q more → q.right ≡ of_column d → next q.left ≡ next d
  keeps q d m at = elim (member_parts q e es m) [
    | inl old ↦ ap (replaced (label x) (label y)) (known.complete q.left d (forth old at same))
    | inr new ↦ elim (sides d (sym (ap (λ (z : Equality). z.right) new) ∙ at)) [
      | inl p ↦ ap (λ (z : Equality). next z.left) new ∙ ap next (sym p.0) ∙ next_x ∙ sym next_y ∙ ap next p.1
      | inr p ↦ ap (λ (z : Equality). next z.left) new ∙ ap next (sym p.1) ∙ next_y ∙ sym next_x ∙ ap next p.0
    ]
  ]

  new_own : (c : Column) → Linked more c (next c)
  new_own c = elim (replaced_tells (label x) (label y) (label c)) [
    | inl p ↦
        let back : label x ≡ next c = sym p.1 in
        let link : Linked more c (label x) = linked_append (weaker e (known.sound c y p.0)) (linked_append (linked_back joined) (weaker e (known.own x))) in
        subst (λ (d : Column). Linked more c d) back link
    | inr p ↦
        let back : label c ≡ next c = sym p.1 in
        subst (λ (d : Column). Linked more c d) back (weaker e (known.own c))
  ]

  new_sound : (c d : Column) → next c ≡ next d → Linked more c d
  new_sound c d h = linked_append (subst (λ (z : Column). Linked more c z) h (new_own c)) (linked_back (new_own d))

  new_least : (c : Column) → ColumnBefore c (next c) → ⊥
  new_least c h = elim (replaced_tells (label x) (label y) (label c)) [
    | inl p ↦
        let to_x : ColumnBefore c (label x) = subst (λ (z : Column). ColumnBefore c z) p.1 h in
        let to_y : ColumnBefore c (label y) = before_until c (label x) (label y) to_x order in
        known.least c (subst (λ (z : Column). ColumnBefore c z) (sym p.0) to_y)
    | inr p ↦ known.least c (subst (λ (z : Column). ColumnBefore c z) p.1 h)
  ]

  pub labels_join : IsLabelling more next
  labels_join = record { sound = new_sound; complete = along more next keeps; own = new_own; least = new_least }

-- an equality within a class joins nothing
module _ (es : List Equality) (label : Column → Column) (e : Equality) (right : Column) (is : e.right ≡ of_column right) (alike : label e.left ≡ label right)
    (known : IsLabelling es label) where
  keeps_alike : (q : Equality) (d : Column) → IsMember q (es ++ e ∷ []) → q.right ≡ of_column d → label q.left ≡ label d
  keeps_alike q d m at = elim (member_parts q e es m) [
    | inl old ↦ known.complete q.left d (forth old at same)
    | inr new ↦
        let sides : of_column right ≡ of_column d = sym is ∙ sym (ap (λ (z : Equality). z.right) new) ∙ at in
        let one : right ≡ d = cc in
        ap (λ (z : Equality). label z.left) new ∙ alike ∙ ap label one
  ]

  pub labels_alike : IsLabelling (es ++ e ∷ []) label
  labels_alike = record {
    sound = λ c d h. weaker e (known.sound c d h);
    complete = along (es ++ e ∷ []) label keeps_alike;
    own = λ c. weaker e (known.own c);
    least = known.least;
  }

-- a constant joins nothing
module _ (es : List Equality) (label : Column → Column) (e : Equality) (bytes : List ℕ) (is : e.right ≡ of_constant bytes) (known : IsLabelling es label) where
  keeps_old : (q : Equality) (d : Column) → IsMember q (es ++ e ∷ []) → q.right ≡ of_column d → label q.left ≡ label d
  keeps_old q d m at = elim (member_parts q e es m) [
    | inl old ↦ known.complete q.left d (forth old at same)
    | inr new ↦ let side : of_column d ≡ of_constant bytes = sym at ∙ ap (λ (x : Equality). x.right) new ∙ is in absurd (cc)
  ]

  pub labels_stay : IsLabelling (es ++ e ∷ []) label
  labels_stay = record {
    sound = λ c d h. weaker e (known.sound c d h);
    complete = along (es ++ e ∷ []) label keeps_old;
    own = λ c. weaker e (known.own c);
    least = known.least;
  }

-- without equalities each column is alone
pub labels_none : IsLabelling [] (λ c. c)
labels_none = record {
  sound = λ c d h. subst (λ (z : Column). Linked [] c z) h same;
  complete = along [] (λ c. c) (λ e b m is. absurd m);
  own = λ c. same;
  least = before_self;
}

-- an equal labelling
pub labels_like : (es : List Equality) (f g : Column → Column) → ((c : Column) → g c ≡ f c) → IsLabelling es f → IsLabelling es g
labels_like es f g e h = record {
  sound = λ c d is. h.sound c d (sym (e c) ∙ is ∙ e d);
  complete = λ c d l. e c ∙ h.complete c d l ∙ sym (e d);
  own = λ c. subst (λ (z : Column). Linked es c z) (sym (e c)) (h.own c);
  least = λ c b. h.least c (subst (λ (z : Column). ColumnBefore c z) (e c) b);
}

-- ---- the list of members

module _ (new old : ℕ × ℕ) where
  abbrev swap : Column → Column
  swap = replaced (column_view new) (column_view old)

  with_column : (m : Member) → (with_least new old m).column ≡ m.column
  with_column m = by_test (is_same (column_view m.least) (column_view old))
    where
      by_test : (b : Bool) → (if b then record { column = m.column; least = new } else m).column ≡ m.column
      by_test true = refl
      by_test false = refl

  with_label : (m : Member) → column_view (with_least new old m).least ≡ swap (column_view m.least)
  with_label m = by_test (is_same (column_view m.least) (column_view old))
    where
      by_test : (b : Bool) → column_view (if b then record { column = m.column; least = new } else m).least ≡ (if b then column_view new else column_view m.least)
      by_test true = refl
      by_test false = refl

  listed_map : (ms : List Member) (c d : Column) → listed (map (with_least new old) ms) c (swap d) ≡ swap (listed ms c d)
  listed_map [] c d = refl
  listed_map (m ∷ ms) c d =
      ap (λ (col : ℕ × ℕ). if is_same (column_view col) c then column_view (with_least new old m).least else listed (map (with_least new old) ms) c (swap d)) (with_column m)
      ∙ by_test (is_same (column_view m.column) c) (listed_map ms c d)
    where
      by_test : (s : Bool) → listed (map (with_least new old) ms) c (swap d) ≡ swap (listed ms c d)
          → (if s then column_view (with_least new old m).least else listed (map (with_least new old) ms) c (swap d)) ≡ swap (if s then column_view m.least else listed ms c d)
      by_test true h = with_label m
      by_test false h = h

listed_append : (ms : List Member) (m : Member) (c d : Column) → listed (ms ++ m ∷ []) c d ≡ listed ms c (if is_same (column_view m.column) c then column_view m.least else d)
listed_append [] m c d = refl
listed_append (n ∷ ms) m c d = ap (λ (z : Column). if is_same (column_view n.column) c then column_view n.least else z) (listed_append ms m c d)

-- the old least column is listed, and then takes the new one
module _ (new old : ℕ × ℕ) (ms : List Member) (c : Column) where
  abbrev own : Member
  own = record { column = old; least = old }

  abbrev there : Member
  there = with_least new old own

  at-end : (if is_same (column_view there.column) c then column_view there.least else c) ≡ swap new old c
  at-end =
      ap (λ (col : ℕ × ℕ). if is_same (column_view col) c then column_view there.least else c) (with_column new old own)
      ∙ ap (λ (z : Column). if is_same (column_view old) c then z else c) (with_label new old own)
      ∙ elim (same_tells (column_view old) c) [
        | inl (t, e) ↦ ap (λ (b : Bool). if b then swap new old (column_view old) else c) t ∙ ap (swap new old) e
        | inr (f, n) ↦ ap (λ (b : Bool). if b then swap new old (column_view old) else c) f
            ∙ elim (replaced_tells (column_view new) (column_view old) c) [ inl p ↦ absurd (n (sym p.0)) | inr p ↦ sym p.1 ]
      ]

  pub least_replaced : least_in (map (with_least new old) (ms ++ own ∷ [])) c ≡ swap new old (least_in ms c)
  least_replaced =
      ap (λ (l : List Member). listed l c c) (map-append (with_least new old) ms (own ∷ []))
      ∙ listed_append (map (with_least new old) ms) there c c ∙ ap (listed (map (with_least new old) ms) c) at-end ∙ listed_map new old ms c c

-- one step of a search through the members
pub listed_turn : (ms : List Member) (i : ℕ) (d : Member) (c : Column) (b : Bool) → i < length ms → is_same (column_view (get_or ms i d).column) c ≡ b
    → listed (drop i ms) c c ≡ (if b then column_view (get_or ms i d).least else listed (drop (i + 1) ms) c c)
listed_turn ms i d c b h e =
    ap (λ (l : List Member). listed l c c) (drop_step ms i d h)
    ∙ ap (λ (t : Bool). if t then column_view (get_or ms i d).least else listed (drop (i + 1) ms) c c) e

pub listed_end : (ms : List Member) (i : ℕ) (c : Column) → length ms ≤ i → listed (drop i ms) c c ≡ c
listed_end ms i c h = ap (λ (l : List Member). listed l c c) (drop_all i ms h)

-- ---- a list whose first i elements were mapped
pub mapped_at : {A : Type 0} (f : A → A) (xs : List A) (i : ℕ) (d : A) → get_or (map f (take i xs) ++ drop i xs) i d ≡ get_or xs i d
mapped_at f [] zero d = refl
mapped_at f [] (suc i) d = refl
mapped_at f (x ∷ xs) zero d = refl
mapped_at f (x ∷ xs) (suc i) d = mapped_at f xs i d

mapped_set : {A : Type 0} (f : A → A) (xs : List A) (i : ℕ) (d y : A) → i < length xs → y ≡ f (get_or xs i d)
    → set (map f (take i xs) ++ drop i xs) i y ≡ map f (take (suc i) xs) ++ drop (suc i) xs
mapped_set {A = A} f [] i d y h e = absurd (omega arith)
mapped_set {A = A} f (x ∷ xs) zero d y h e = ap (λ (z : A). z ∷ xs) e
mapped_set {A = A} f (x ∷ xs) (suc i) d y h e = ap (λ (l : List A). f x ∷ l) (mapped_set f xs i d y (omega (arith, h)) e)

pub mapped_more : {A : Type 0} (f : A → A) (xs now : List A) (i : ℕ) (d y : A) → i < length xs → now ≡ map f (take i xs) ++ drop i xs → y ≡ f (get_or now i d)
    → set now i y ≡ map f (take (i + 1) xs) ++ drop (i + 1) xs
mapped_more {A = A} f xs now i d y h so_far e =
    rw add-one (ap (λ (l : List A). set l i y) so_far
    ∙ mapped_set f xs i d y h (e ∙ ap (λ (l : List A). f (get_or l i d)) so_far ∙ ap f (mapped_at f xs i d)))

pub mapped_all : {A : Type 0} (f : A → A) (xs now : List A) (i : ℕ) → length xs ≤ i → now ≡ map f (take i xs) ++ drop i xs → now ≡ map f xs
mapped_all {A = A} f xs now i h so_far =
    so_far ∙ ap (λ (l : List A). map f (take i xs) ++ l) (drop_all i xs h) ∙ append-nil (map f (take i xs)) ∙ ap (map f) (take_all i xs h)

-- the list of members after two classes were joined
module _ (ms : List Member) (p : (ℕ × ℕ) × (ℕ × ℕ)) (es : List Equality) (e : Equality) (known : IsLabelling es (least_in ms)) where
  abbrev after : List Member
  after = map (with_least p.0 p.1) (ms ++ record { column = p.1; least = p.1 } ∷ [])

  joins_as : (x y : Column) → column_view p.0 ≡ least_in ms x → column_view p.1 ≡ least_in ms y → (ColumnBefore (column_view p.1) (column_view p.0) → ⊥)
      → Linked (es ++ e ∷ []) x y → ((b : Column) → e.right ≡ of_column b → ((x ≡ e.left) × (y ≡ b)) ⊎ ((x ≡ b) × (y ≡ e.left)))
      → IsLabelling (es ++ e ∷ []) (least_in after)
  joins_as x y nx ny order joined sides =
      labels_like (es ++ e ∷ []) (λ c. replaced (least_in ms x) (least_in ms y) (least_in ms c)) (least_in after)
      (λ c. least_replaced p.0 p.1 ms c ∙ ap (λ (z : Column). replaced z (column_view p.1) (least_in ms c)) nx
      ∙ ap (λ (z : Column). replaced (least_in ms x) z (least_in ms c)) ny)
      (labels_join es (least_in ms) e x y known joined
      (λ h. order (subst (λ (z : Column). ColumnBefore z (column_view p.0)) (sym ny) (subst (λ (z : Column). ColumnBefore (least_in ms y) z) (sym nx) h)))
      sides)

  pub joins : (left right : Column) (a b : ℕ × ℕ) → column_view a ≡ least_in ms left → column_view b ≡ least_in ms right → (p ≡ (a, b)) ⊎ (p ≡ (b, a))
      → (ColumnBefore (column_view p.1) (column_view p.0) → ⊥) → e.left ≡ left → e.right ≡ of_column right → IsLabelling (es ++ e ∷ []) (least_in after)
  joins left right a b ea eb both order el er =
      let forwards : Linked (es ++ e ∷ []) left right = subst (λ (z : Column). Linked (es ++ e ∷ []) z right) el (forth (member_last e es) er same) in
      elim both [
        | inl is ↦ joins_as left right (ap (λ (q : (ℕ × ℕ) × (ℕ × ℕ)). column_view q.0) is ∙ ea) (ap (λ (q : (ℕ × ℕ) × (ℕ × ℕ)). column_view q.1) is ∙ eb) order forwards
            (λ d at. inl (sym el, same_side right d (sym er ∙ at)))
        | inr is ↦ joins_as right left (ap (λ (q : (ℕ × ℕ) × (ℕ × ℕ)). column_view q.0) is ∙ eb) (ap (λ (q : (ℕ × ℕ) × (ℕ × ℕ)). column_view q.1) is ∙ ea) order (linked_back forwards)
            (λ d at. inr (same_side right d (sym er ∙ at), sym el))
      ]
    where
      same_side : (c d : Column) → of_column c ≡ of_column d → c ≡ d
      same_side c d h = cc

-- a list that was written back to its vector
pub written_back : {A : Type 0} (xs ys : List A) (n : ℕ) → length xs ≡ length ys → n ≡ length ys → take n (xs ++ drop (length xs) ys) ≡ xs
written_back {A = A} xs ys n alike full =
    ap (λ (l : List A). take n (xs ++ l)) (drop_all (length xs) ys (omega (arith, alike))) ∙ ap (take n) (append-nil xs) ∙ take_all n xs (omega (arith, alike, full))

pub labels_more : (es : List BoundEquality) (i : ℕ) (e : BoundEquality) (label : Column → Column) → i < length es → e ≡ get_or es i e
    → IsLabelling (map equality_view (take i es) ++ equality_view e ∷ []) label → IsLabelling (map equality_view (take (i + 1) es)) label
labels_more es i e label h is known =
    let more : take (i + 1) es ≡ take i es ++ e ∷ [] = take_more es i e h ∙ ap (λ (z : BoundEquality). take i es ++ z ∷ []) (sym is) in
    subst (λ (l : List Equality). IsLabelling l label) (sym (ap (map equality_view) more ∙ map-append equality_view (take i es) (e ∷ []))) known
