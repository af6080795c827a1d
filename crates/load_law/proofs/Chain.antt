-- The equalities of the query of `load`: a chain of classes of two columns, of which each is a variable.
use Rattle.std.proofs.Common.{◌≡◌, ◌≢◌, ◌⊎◌, ◌↔◌, ◌==◌, ◌<◌, ◌+◌, if◌then◌else◌, ℕ, zero, suc, List, [], ◌∷◌, refl, sym, ap, subst, ◌∙◌, inl, inr, arith}
use Rattle.std.proofs.lemmas.Bool.{eq-eqb}
use Rattle.anyk_model.specs.Query.{Column, Equality, of_column, of_constant}
use Rattle.rankings.specs.Order.{IsMember}
use Rattle.hyper_graph.specs.Graph.{HasVar}
use Rattle.bound_query.specs.Classes.{AreVariables, ColumnBefore, HasVariable, IsFixedTo, IsLeast, IsShared, Linked, same, forth, variable_at}
use Rattle.query_bind.specs.Labels.{IsLabelling, replaced}
use Rattle.query_bind.proofs.Labels.{labels_join, labels_none}
use Rattle.bound_query.proofs.ColumnOrder.{before_neither}
use Rattle.query_bind.proofs.Order.{same_tells}
use Rattle.load_law.proofs.ChainTree.{chain_graph, chain_has, has_chain}

abbrev pub at : ℕ → ℕ → Column
at item place = record { item = item; place = place }

-- P1.b = P2.b, P2.c = P3.c and P3.d = P4.d
abbrev pub first : Equality
first = record { left = at 0 1; right = of_column (at 1 0) }

abbrev pub second : Equality
second = record { left = at 1 1; right = of_column (at 2 0) }

abbrev pub third : Equality
third = record { left = at 2 1; right = of_column (at 3 0) }

abbrev pub chain : List Equality
chain = first ∷ second ∷ third ∷ []

-- the least column of each class
abbrev pub chain_variables : List Column
chain_variables = at 0 1 ∷ at 1 1 ∷ at 2 1 ∷ []

-- ---- the label of each column

abbrev one_joined : Column → Column
one_joined c = replaced (at 0 1) (at 1 0) c

abbrev two_joined : Column → Column
two_joined c = replaced (at 1 1) (at 2 0) (one_joined c)

abbrev label : Column → Column
label c = replaced (at 2 1) (at 3 0) (two_joined c)

later_item : (i j p q : ℕ) → i < j → ColumnBefore (at j q) (at i p) → ⊥
later_item i j p q lt (inl h) = omega (arith, h)
later_item i j p q lt (inr h) = omega (arith, h.0)

sides : (x y : Column) (e : Equality) → e.left ≡ x → e.right ≡ of_column y → (b : Column) → e.right ≡ of_column b
    → ((x ≡ e.left) × (y ≡ b)) ⊎ ((x ≡ b) × (y ≡ e.left))
sides x y e p q b is =
    let columns : of_column y ≡ of_column b = sym q ∙ is in
    let same_side : y ≡ b = cc in
    inl (sym p, same_side)

labels_one : IsLabelling (first ∷ []) one_joined
labels_one =
    labels_join [] (λ c. c) first (at 0 1) (at 1 0) labels_none (forth {e = first} {b = at 1 0} (inl refl) refl same)
    (later_item 0 1 1 0 (omega arith)) (sides (at 0 1) (at 1 0) first refl refl)

labels_two : IsLabelling (first ∷ second ∷ []) two_joined
labels_two =
    labels_join (first ∷ []) one_joined second (at 1 1) (at 2 0) labels_one (forth {e = second} {b = at 2 0} (inr (inl refl)) refl same)
    (later_item 1 2 1 0 (omega arith)) (sides (at 1 1) (at 2 0) second refl refl)

labels : IsLabelling chain label
labels =
    labels_join (first ∷ second ∷ []) two_joined third (at 2 1) (at 3 0) labels_two (forth {e = third} {b = at 3 0} (inr (inr (inl refl))) refl same)
    (later_item 2 3 1 0 (omega arith)) (sides (at 2 1) (at 3 0) third refl refl)

-- a column is its own label, or it is the right side of an equality
by_label : (P : Column → Column → Type 0) → ((c : Column) → P c c) → P (at 1 0) (at 0 1) → P (at 2 0) (at 1 1) → P (at 3 0) (at 2 1) → (c : Column) → P c (label c)
by_label P own one two three c = elim (same_tells c (at 1 0)) [
  | inl s ↦ subst (λ (d : Column). P d (label d)) (sym s.1) one
  | inr s ↦ elim (same_tells c (at 2 0)) [
    | inl t ↦ subst (λ (d : Column). P d (label d)) (sym t.1) two
    | inr t ↦ elim (same_tells c (at 3 0)) [
      | inl u ↦ subst (λ (d : Column). P d (label d)) (sym u.1) three
      | inr u ↦
          let alone : label c ≡ c = rw (s.0, t.0, u.0) refl in
          subst (λ (d : Column). P c d) (sym alone) (own c)
    ]
  ]
]

-- ---- the variables

no_constant : (e : Equality) (bytes : List ℕ) → IsMember e chain → e.right ≡ of_constant bytes → ⊥
no_constant e bytes (inl m) is = let side : of_column (at 1 0) ≡ of_constant bytes = sym (ap (λ (x : Equality). x.right) m) ∙ is in cc
no_constant e bytes (inr (inl m)) is = let side : of_column (at 2 0) ≡ of_constant bytes = sym (ap (λ (x : Equality). x.right) m) ∙ is in cc
no_constant e bytes (inr (inr (inl m))) is = let side : of_column (at 3 0) ≡ of_constant bytes = sym (ap (λ (x : Equality). x.right) m) ∙ is in cc
no_constant e bytes (inr (inr (inr m))) is = absurd m

pub chain_free : (c : Column) (bytes : List ℕ) → IsFixedTo chain c bytes → ⊥
chain_free c bytes f = no_constant f.equality bytes f.member f.constant

-- a column that is its own label is the least of its class
own_least : (c : Column) → label c ≡ c → IsLeast chain c
own_least c own d linked before =
    let alike : c ≡ label d = sym own ∙ labels.complete c d linked in
    labels.least d (subst (λ (x : Column). ColumnBefore d x) alike before)

-- the left side of an equality is a variable
left_variable : (e : Equality) (b : Column) → IsMember e chain → e.right ≡ of_column b → b.item ≢ e.left.item → label e.left ≡ e.left
    → IsShared chain e.left × IsLeast chain e.left
left_variable e b member is apart own =
    (record { free = chain_free e.left; other = b; linked = forth {e = e} {b = b} member is same; elsewhere = apart }, own_least e.left own)

variable_is : (c : Column) → IsMember c chain_variables → IsShared chain c × IsLeast chain c
variable_is c (inl m) =
    subst (λ (x : Column). IsShared chain x × IsLeast chain x) (sym m) (left_variable first (at 1 0) (inl refl) refl (λ e. omega (arith, e)) refl)
variable_is c (inr (inl m)) =
    subst (λ (x : Column). IsShared chain x × IsLeast chain x) (sym m) (left_variable second (at 2 0) (inr (inl refl)) refl (λ e. omega (arith, e)) refl)
variable_is c (inr (inr (inl m))) =
    subst (λ (x : Column). IsShared chain x × IsLeast chain x) (sym m) (left_variable third (at 3 0) (inr (inr (inl refl))) refl (λ e. omega (arith, e)) refl)
variable_is c (inr (inr (inr m))) = absurd m

is_variable : (c : Column) → IsShared chain c × IsLeast chain c → IsMember c chain_variables
is_variable c h =
    let own : c ≡ label c = before_neither c (label c) (labels.least c) (h.1 (label c) (labels.own c)) in
    let alike : label h.0.other ≡ c = sym (labels.complete c h.0.other h.0.linked) ∙ sym own in
    by_label (λ x l. l ≡ c → x.item ≢ c.item → IsMember c chain_variables)
    (λ x e apart. absurd (apart (ap (λ (y : Column). y.item) e)))
    (λ e apart. inl (sym e)) (λ e apart. inr (inl (sym e))) (λ e apart. inr (inr (inl (sym e))))
    h.0.other alike h.0.elsewhere

pub chain_are_variables : AreVariables chain chain_variables
chain_are_variables = record {
  ascending = ((inl (omega arith), (inl (omega arith), tt)), ((inl (omega arith), tt), (tt, tt)));
  members = λ c. (variable_is c, is_variable c);
}

-- ---- a class has at most one column of each item

abbrev place_of : ℕ → Column → ℕ
place_of item c = if c.item == item then c.place else 0

place_is : (c : Column) → place_of c.item (label c) ≡ c.place
place_is c = by_label (λ x l. place_of x.item l ≡ x.place) (λ x. let same_item = eq-eqb x.item x.item refl in rw same_item refl) refl refl refl c

pub one_place : (item p q : ℕ) → Linked chain (at item p) (at item q) → p ≡ q
one_place item p q linked = sym (place_is (at item p)) ∙ ap (place_of item) (labels.complete (at item p) (at item q) linked) ∙ place_is (at item q)

-- ---- the variables of each item

-- the label of a column is a variable only of an item that has it in the graph
in_graph : (v : ℕ) → v < 3 → (c : Column) → label c ≡ variable_at chain_variables v → HasVar chain_graph v c.item
in_graph v small c = by_label (λ x l. l ≡ variable_at chain_variables v → HasVar chain_graph v x.item)
    (λ x e. has_chain v x.item small (inl (ap (λ (y : Column). y.item) e ∙ item_is v small)))
    (λ e. has_chain v 1 small (inr (next (sym (item_is v small) ∙ ap (λ (y : Column). y.item) (sym e)))))
    (λ e. has_chain v 2 small (inr (next (sym (item_is v small) ∙ ap (λ (y : Column). y.item) (sym e)))))
    (λ e. has_chain v 3 small (inr (next (sym (item_is v small) ∙ ap (λ (y : Column). y.item) (sym e)))))
    c
  where
    item_is : (v : ℕ) → v < 3 → (variable_at chain_variables v).item ≡ v
    item_is zero p = refl
    item_is (suc zero) p = refl
    item_is (suc (suc zero)) p = refl
    item_is (suc (suc (suc v))) p = absurd (omega arith)

    next : {k : ℕ} → v ≡ k → k + 1 ≡ v + 1
    next e = omega (arith, e)

-- the first item of a variable has it in place 1, and the second in place 0
first_has : (v : ℕ) → v < 3 → Linked chain (variable_at chain_variables v) (at v 1)
first_has zero p = same
first_has (suc zero) p = same
first_has (suc (suc zero)) p = same
first_has (suc (suc (suc v))) p = absurd (omega arith)

second_has : (v : ℕ) → v < 3 → Linked chain (variable_at chain_variables v) (at (v + 1) 0)
second_has zero p = forth {e = first} {b = at 1 0} (inl refl) refl same
second_has (suc zero) p = forth {e = second} {b = at 2 0} (inr (inl refl)) refl same
second_has (suc (suc zero)) p = forth {e = third} {b = at 3 0} (inr (inr (inl refl))) refl same
second_has (suc (suc (suc v))) p = absurd (omega arith)

variable_of : (v item place : ℕ) → v < 3 → Linked chain (variable_at chain_variables v) (at item place) → HasVariable chain chain_variables item v place
variable_of v item place small linked = record {
  known = small;
  linked = linked;
  least = λ other h. let only = one_place item place other h in omega (arith, only);
}

has_place : (v item : ℕ) → v < 3 → (item ≡ v) ⊎ (item ≡ v + 1) → (place : ℕ) × HasVariable chain chain_variables item v place
has_place v item small (inl e) = (1, subst (λ (i : ℕ). HasVariable chain chain_variables i v 1) (sym e) (variable_of v v 1 small (first_has v small)))
has_place v item small (inr e) = (0, subst (λ (i : ℕ). HasVariable chain chain_variables i v 0) (sym e) (variable_of v (v + 1) 0 small (second_has v small)))

own_label : (v : ℕ) → v < 3 → label (variable_at chain_variables v) ≡ variable_at chain_variables v
own_label zero p = refl
own_label (suc zero) p = refl
own_label (suc (suc zero)) p = refl
own_label (suc (suc (suc v))) p = absurd (omega arith)

pub chain_variable : (v item : ℕ) → v < 3 → HasVar chain_graph v item ↔ ((place : ℕ) × HasVariable chain chain_variables item v place)
chain_variable v item small = (
  λ has. has_place v item small (chain_has v item has),
  λ h. in_graph v small (at item h.0) (sym (labels.complete (variable_at chain_variables v) (at item h.0) h.1.linked) ∙ own_label v small),
)
