-- The shape of the row: a join tree of two atoms with one variable that both have, and all rows
-- pass.
use Rattle.std.proofs.Common.{◌≡◌, ◌≢◌, ◌⊎◌, ◌↔◌, ◌<◌, ◌≤◌, ◌^◌, ◌-◌, ℕ, zero, suc, List, [], ◌∷◌, length, slice_index, Ok, refl, sym, ap, subst, ◌∙◌, inl, inr, arith}
use Rattle.std.proofs.lemmas.List.Elements.{All-cons, All-nil}
use Rattle.rankings.specs.Order.{IsMember}
use Rattle.anyk_model.specs.Query.{Column, Equality, item_table, of_column, of_constant}
use Rattle.hyper_graph.specs.Graph.{Hypergraph, HasVar, IsGraph}
use Rattle.hyper_graph.proofs.Bits.{in_all_below}
use Rattle.hyper_graph.proofs.Graphs.{has_atom}
use Rattle.join_tree.specs.Removal.{HasOne, IsLive, IsRun, IsStep, IsTreeOf}
use Rattle.join_tree.proofs.FromRemoval.{removal_done, tree_from_removal}
use Rattle.bound_query.specs.Classes.{AreVariables, ColumnBefore, HasVariable, IsFixedTo, IsLeast, IsShared, Linked, Passes, back, forth, row_field, same}
use Rattle.bound_query.specs.Graph.{IsGraphOf}
use Rattle.bound_query.proofs.ColumnOrder.{before_self}
use Rattle.bound_query.specs.Shape.{HasNodeRows, HasTree, IsShape, Shape}
use Rattle.row_law.proofs.Loaded.{column, row_equality, row_query, row_tables}

-- ---- the classes of columns

abbrev links : List Equality
links = row_equality ∷ []

abbrev IsSide : Column → Type 0
IsSide c = (c ≡ column 0 1) ⊎ (c ≡ column 1 0)

left_side : (e : Equality) → IsMember e links → IsSide e.left
left_side e (inl m) = inl (ap (λ (x : Equality). x.left) m)
left_side e (inr m) = absurd m

right_side : (e : Equality) (b : Column) → IsMember e links → e.right ≡ of_column b → IsSide b
right_side e b (inl m) is =
    let sides : of_column (column 1 0) ≡ of_column b = sym (ap (λ (x : Equality). x.right) m) ∙ is in
    let same_side : column 1 0 ≡ b = cc in inr (sym same_side)
right_side e b (inr m) is = absurd m

no_constant : (e : Equality) (bytes : List ℕ) → IsMember e links → e.right ≡ of_constant bytes → ⊥
no_constant e bytes (inl m) is = let sides : of_column (column 1 0) ≡ of_constant bytes = sym (ap (λ (x : Equality). x.right) m) ∙ is in cc
no_constant e bytes (inr m) is = absurd m

free : (c : Column) (bytes : List ℕ) → IsFixedTo links c bytes → ⊥
free c bytes f = no_constant f.equality bytes f.member f.constant

-- linked columns are one column, or both are sides of the equality
AreNear : Column → Column → Type 0
AreNear c d = (c ≡ d) ⊎ (IsSide c × IsSide d)

after_side : (b c d : Column) → IsSide b → IsSide c → AreNear c d → AreNear b d
unfolding AreNear
after_side b c d side next (inl e) = inr (side, subst IsSide e next)
after_side b c d side next (inr p) = inr (side, p.1)

near : {c d : Column} → Linked links c d → AreNear c d
unfolding AreNear
near same = inl refl
near (forth {e = e} {b = b} {c = d} m is h) = after_side e.left b d (left_side e m) (right_side e b m is) (near h)
near (back {e = e} {b = b} {c = d} m is h) = after_side b e.left d (right_side e b m is) (left_side e m) (near h)

two_places : (item p q : ℕ) → IsSide (column item p) → IsSide (column item q) → p ≡ q
two_places item p q (inl a) (inl b) = ap (λ (x : Column). x.place) a ∙ sym (ap (λ (x : Column). x.place) b)
two_places item p q (inl a) (inr b) = let i = ap (λ (x : Column). x.item) a in let j = ap (λ (x : Column). x.item) b in absurd (omega (arith, i, j))
two_places item p q (inr a) (inl b) = let i = ap (λ (x : Column). x.item) a in let j = ap (λ (x : Column). x.item) b in absurd (omega (arith, i, j))
two_places item p q (inr a) (inr b) = ap (λ (x : Column). x.place) a ∙ sym (ap (λ (x : Column). x.place) b)

-- a class has at most one column of each item
one_place : (item p q : ℕ) → Linked links (column item p) (column item q) → p ≡ q
unfolding AreNear
one_place item p q linked = elim (near linked) [
  | inl e ↦ ap (λ (x : Column). x.place) e
  | inr s ↦ two_places item p q s.0 s.1
]

-- ---- the variable

abbrev variables : List Column
variables = column 0 1 ∷ []

across : Linked links (column 0 1) (column 1 0)
across = forth {e = row_equality} {b = column 1 0} (inl refl) refl same

back_across : Linked links (column 1 0) (column 0 1)
back_across = back {e = row_equality} {b = column 1 0} (inl refl) refl same

left_least : IsLeast links (column 0 1)
unfolding AreNear
left_least d linked before = elim (near linked) [
  | inl e ↦ before_self d (subst (λ (x : Column). ColumnBefore d x) e before)
  | inr s ↦ elim s.1 [
    | inl e ↦ before_self d (subst (λ (x : Column). ColumnBefore d x) (sym e) before)
    | inr e ↦ not_before (subst (λ (x : Column). ColumnBefore x (column 0 1)) e before)
  ]
]
  where
    not_before : ColumnBefore (column 1 0) (column 0 1) → ⊥
    not_before (inl l) = omega (arith, l)
    not_before (inr p) = omega (arith, p.0)

is_variable : (c : Column) → IsMember c variables → IsShared links c × IsLeast links c
is_variable c (inl m) = subst (λ (x : Column). IsShared links x × IsLeast links x) (sym m)
    (record { free = free (column 0 1); other = column 1 0; linked = across; elsewhere = λ e. omega (arith, e) }, left_least)
is_variable c (inr m) = absurd m

side_variable : (c : Column) → IsSide c → IsLeast links c → IsMember c variables
side_variable c (inl e) least = inl e
side_variable c (inr e) least =
    absurd (subst (IsLeast links) e least (column 0 1) back_across (inl (omega arith)))

variable_is : (c : Column) → IsShared links c × IsLeast links c → IsMember c variables
unfolding AreNear
variable_is c h = elim (near h.0.linked) [
  | inl e ↦ absurd (h.0.elsewhere (ap (λ (x : Column). x.item) (sym e)))
  | inr s ↦ side_variable c s.0 h.1
]

are_variables : AreVariables links variables
are_variables = record { ascending = (tt, tt); members = λ c. (is_variable c, variable_is c) }

-- ---- the graph

abbrev graph : Hypergraph
graph = record { atoms = 2; vars = 3 ∷ [] }

is_graph : IsGraph graph
is_graph = record { some = omega arith; few = omega arith; within = All-cons (λ set. set < 2 ^ 2) 3 [] (omega arith) (All-nil (λ set. set < 2 ^ 2)) }

variable_at_item : (item place : ℕ) → Linked links (column 0 1) (column item place) → HasVariable links variables item 0 place
variable_at_item item place linked = record {
  known = omega arith;
  linked = linked;
  least = λ other h. let only = one_place item place other h in omega (arith, only);
}

has_variable : (a : ℕ) → a < 2 → (place : ℕ) × HasVariable links variables a 0 place
has_variable zero l = (1, variable_at_item 0 1 same)
has_variable (suc zero) l = (0, variable_at_item 1 0 across)
has_variable (suc (suc a)) l = absurd (omega (arith, l))

two_atoms : (a : ℕ) → a < 2 → HasVar graph 0 a
two_atoms zero l = refl
two_atoms (suc zero) l = refl
two_atoms (suc (suc a)) l = absurd (omega (arith, l))

side_item : (item place : ℕ) → IsSide (column item place) → item < 2
side_item item place (inl e) = let i = ap (λ (x : Column). x.item) e in omega (arith, i)
side_item item place (inr e) = let i = ap (λ (x : Column). x.item) e in omega (arith, i)

linked_item : (item place : ℕ) → Linked links (column 0 1) (column item place) → item < 2
unfolding AreNear
linked_item item place linked = elim (near linked) [
  | inl e ↦ (let i = ap (λ (x : Column). x.item) e in omega (arith, i))
  | inr s ↦ side_item item place s.1
]

has : (v a : ℕ) → v < 1 → HasVar graph v a ↔ ((place : ℕ) × HasVariable links variables a v place)
has zero a l = (
  λ h. has_variable a (has_atom graph is_graph 0 a h),
  λ h. two_atoms a (linked_item a h.0 h.1.linked),
)
has (suc v) a l = absurd (omega (arith, l))

graph_of : IsGraphOf row_query graph
graph_of = record { is_graph = is_graph; atoms = refl; variables = variables; are_variables = are_variables; numbered = refl; has = has }

-- ---- the tree: the second atom is removed, and hangs below the first

abbrev order : List ℕ
order = 1 ∷ []

abbrev above : List ℕ
above = 0 ∷ 0 ∷ []

abbrev atoms : List ℕ
atoms = 0 ∷ 1 ∷ []

first_left : (a : ℕ) → IsLive 2 order 1 a → a ≡ 0
first_left a live = let other = live.1 0 (omega arith) in omega (arith, live.0, other)

abbrev IsStepAt : ℕ → Type 0
IsStepAt k = IsStep (HasVar graph) (IsLive 2 order k) (slice_index order k) (slice_index above (slice_index order k))

run : IsRun graph above order 1 1
run = record {
  steps = λ k l. subst IsStepAt (zero_is k l) step;
  left = λ a. (
    λ h. let low : a < 1 = (in_all_below 1 a (omega arith)).0 h in (omega (arith, low), λ j l e. apart a j low l e),
    λ live. let low = first_left a live in (in_all_below 1 a (omega arith)).1 (omega (arith, low)),
  );
}
  where
    zero_is : (k : ℕ) → k < 1 → 0 ≡ k
    zero_is k l = omega (arith, l)

    other_is_first : (h : ℕ) → h < 2 → h ≢ 1 → h ≡ 0
    other_is_first h l ne = omega (arith, l, ne)

    apart : (a j : ℕ) → a < 1 → j < 1 → slice_index order j ≡ a → ⊥
    apart a zero low l e = omega (arith, low, e)
    apart a (suc j) low l e = omega (arith, l)

    step : IsStepAt 0
    step = record {
      live = (omega arith, λ j l. absurd (omega (arith, l)));
      cover = record {
        covers = record {
          live = (omega arith, λ j l. absurd (omega (arith, l)));
          other = λ e. omega (arith, e);
          shared = λ v h live ne mine its. subst (HasVar graph v) (other_is_first h live.0 ne) its;
        };
        least = λ g l c. omega (arith, l);
      };
      greatest = λ d l ear. let live = ear.live.0 in omega (arith, l, live);
    }

one_left : HasOne 1
one_left = (0, refl, λ b h. let low : b < 1 = (in_all_below 1 b (omega arith)).0 h in omega (arith, low))

tree_of : IsTreeOf above order 1 1 atoms above
tree_of = record { root = refl; top = refl; reversed = reversed; earlier = earlier; hung = hung }
  where
    reversed : (k : ℕ) → 0 < k → k ≤ 1 → slice_index atoms k ≡ slice_index order (1 - k)
    reversed zero p q = absurd (omega (arith, p))
    reversed (suc zero) p q = refl
    reversed (suc (suc k)) p q = absurd (omega (arith, q))

    earlier : (k : ℕ) → 0 < k → k ≤ 1 → slice_index above k < k
    earlier zero p q = absurd (omega (arith, p))
    earlier (suc zero) p q = omega arith
    earlier (suc (suc k)) p q = absurd (omega (arith, q))

    hung : (k : ℕ) → 0 < k → k ≤ 1 → slice_index atoms (slice_index above k) ≡ slice_index above (slice_index atoms k)
    hung zero p q = absurd (omega (arith, p))
    hung (suc zero) p q = refl
    hung (suc (suc k)) p q = absurd (omega (arith, q))

has_tree : HasTree row_query atoms above
has_tree = record {
  graph = graph;
  of_query = graph_of;
  parent = above;
  order = order;
  removed = 1;
  core = 1;
  removal = removal_done graph above order 1 1 (omega arith) refl run;
  tree = tree_of;
  join_tree = tree_from_removal graph above order 1 1 1 run refl refl one_left atoms above refl refl tree_of;
}

-- ---- the rows of the nodes: all pass

passes : (item row : ℕ) → Passes row_query row_tables item row
passes item row = record {
  equal = λ a b linked. ap (row_field row_query row_tables item row) (one_place item a b linked);
  constant = λ a bytes fixed. absurd (free (column item a) bytes fixed);
}

abbrev pub numbers : List ℕ
numbers = 1 ∷ 2 ∷ 3 ∷ []

pub low_high : (row : ℕ) → IsMember row numbers → (1 ≤ row) × (row ≤ 3)
low_high row (inl e) = (omega (arith, e), omega (arith, e))
low_high row (inr (inl e)) = (omega (arith, e), omega (arith, e))
low_high row (inr (inr (inl e))) = (omega (arith, e), omega (arith, e))
low_high row (inr (inr (inr m))) = absurd m

pub member : (row : ℕ) → 1 ≤ row → row ≤ 3 → IsMember row numbers
member zero low high = absurd (omega (arith, low))
member (suc zero) low high = inl refl
member (suc (suc zero)) low high = inr (inl refl)
member (suc (suc (suc zero))) low high = inr (inr (inl refl))
member (suc (suc (suc (suc row)))) low high = absurd (omega (arith, high))

node_rows : (item : ℕ) → length (item_table row_query row_tables item).rows ≡ 3 → HasNodeRows row_query row_tables item 3
node_rows item count = record {
  rows = numbers;
  ascending = ((omega arith, (omega arith, tt)), ((omega arith, tt), (tt, tt)));
  members = λ row. (
    λ m. let p = low_high row m in (p.0, subst (λ n. row ≤ n) (sym count) p.1, passes item row),
    λ p. member row p.0 (subst (λ n. row ≤ n) count p.1),
  );
  counted = refl;
}

abbrev pub row_shape : Shape
row_shape = record { atoms = atoms; parents = above; node_rows = 3 ∷ 3 ∷ [] }

pub row_shaped : IsShape row_query row_tables (Ok row_shape)
row_shaped = (record { hung = has_tree; counts = refl; rows = each }, omega arith)
  where
    each : (k : ℕ) → k < 2 → HasNodeRows row_query row_tables (slice_index atoms k) (slice_index (3 ∷ 3 ∷ []) k)
    each zero l = node_rows 0 refl
    each (suc zero) l = node_rows 1 refl
    each (suc (suc k)) l = absurd (omega (arith, l))
