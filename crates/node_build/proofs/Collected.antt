-- What is collected node by node, with one node more.
use Rattle.std.proofs.Common.{◌≡◌, ◌<◌, ◌≤◌, ◌+◌, ℕ, nat_lt, List, [], ◌∷◌, ◌++◌, map, take, length, get_or, slice_index, sym, ap, subst, ◌∙◌, inl, inr, arith, length-append, Vec, Global}
use Rattle.std.specs.List.{sum_by}
use Rattle.std.proofs.lemmas.Bool.{cases_lt, cases_eq, cond-false, cond-true, le-ltb, lt-ltb}
use Rattle.std.proofs.lemmas.List.{get_or_append_left, get_or_past, get_or_push, map-append, take_more}
use Rattle.std.proofs.lemmas.List.Sums.{sum_by-append, sum_by-cons}
use Rattle.tdp_core.specs.declared.parts.NodeShape.{NodeShape}
use Rattle.tdp_core.specs.TreeView.{cap_of}
use Rattle.join_tree.specs.declared.tree.JoinTree.{JoinTree}
use Rattle.anyk_model.specs.Table.{Table}
use Rattle.anyk_model.specs.Query.{Query}
use Rattle.bound_query.specs.Classes.{HasVariable}
use Rattle.bound_query.specs.WeighedQuery.{BoundQuery}
use Rattle.node_build.specs.Columns.{AreShared, HaveColumns}
use Rattle.node_build.specs.Nodes.{AreNodeRows, cap_at, item_of, parent_of}
use Rattle.node_build.specs.Rows.{HaveRows, lists_of, table_rows}
use Rattle.node_build.specs.Shapes.{AreShapesOf}

-- what holds of each element at its place, and of one more
each_more : {A : Type 0} (P : ℕ → A → Type 0) (xs : List A) (x d : A) (n : ℕ) → length xs ≡ n → ((v : ℕ) → v < n → P v (get_or xs v d)) → P n x
    → (v : ℕ) → v < n + 1 → P v (get_or (xs ++ x ∷ []) v d)
each_more {A = A} P xs x d n count before here v l = elim (cases_lt v n) [
  | inl old ↦ subst (P v) (sym (get_or_append_left xs (x ∷ []) d v (omega (arith, old, count)))) (before v old)
  | inr new ↦
      let at : n ≡ v = omega (arith, new, l) in
      subst (P v) (sym (get_or_push xs x d v (count ∙ at))) (subst (λ (w : ℕ). P w x) at here)
]

lists_push : (vs : List (Vec ℕ Global)) (v : Vec ℕ Global) → lists_of (vs ++ v ∷ []) ≡ lists_of vs ++ v.items ∷ []
lists_push vs v = map-append (λ (w : Vec ℕ Global). w.items) vs (v ∷ [])

-- the number of rows of one more node
pub counts_more : (vs : List (Vec ℕ Global)) (i : ℕ) (v : Vec ℕ Global) (counts now : List ℕ) (n : ℕ) → i < length vs → v ≡ get_or vs i v → n ≡ length v.items → now ≡ counts ++ n ∷ []
    → counts ≡ map length (lists_of (take i vs)) → now ≡ map length (lists_of (take (i + 1) vs))
counts_more vs i v counts now n inside is size pushed so_far =
    let one : take (i + 1) vs ≡ take i vs ++ v ∷ [] = take_more vs i v inside ∙ ap (λ (w : Vec ℕ Global). take i vs ++ w ∷ []) (sym is) in
    let counted : map length (lists_of (take i vs ++ v ∷ [])) ≡ map length (lists_of (take i vs)) ++ length v.items ∷ [] =
    ap (map length) (lists_push (take i vs) v) ∙ map-append length (lists_of (take i vs)) (v.items ∷ []) in
    pushed ∙ (λ j. so_far j ++ size j ∷ []) ∙ sym counted ∙ ap (λ (ws : List (Vec ℕ Global)). map length (lists_of ws)) (sym one)

-- the lists of the first vector, which is empty
lone_list : (vs vs' : List (Vec ℕ Global)) (v : Vec ℕ Global) → vs ≡ [] → v.items ≡ [] → vs' ≡ vs ++ v ∷ [] → lists_of vs' ≡ [] ∷ []
lone_list vs vs' v none empty is = ap lists_of is ∙ ap (λ (ws : List (Vec ℕ Global)). lists_of (ws ++ v ∷ [])) none ∙ ap (λ (xs : List ℕ). xs ∷ []) empty

module _ (query : Query) (tables : List Table) (join : JoinTree) where
  pub no_rows : (rows : List (List ℕ)) → rows ≡ [] → HaveRows query tables join 0 rows
  no_rows rows none =
      let n : length rows ≡ 0 = ap length none in
      let s : sum_by length rows ≡ 0 = ap (sum_by length) none in
      record { count = n; each = λ v l. absurd (omega (arith, l)); fewer = λ v l. absurd (omega (arith, l)); limit = omega (arith, s) }

  pub rows_push : (n : ℕ) (vs now : List (Vec ℕ Global)) (v : Vec ℕ Global) → now ≡ vs ++ v ∷ [] → HaveRows query tables join n (lists_of vs)
      → AreNodeRows query tables (item_of join n) v.items → length v.items ≤ table_rows query tables join n → length v.items ≤ 1048576
      → HaveRows query tables join (n + 1) (lists_of now)
  rows_push n vs now v is so_far here few limit =
      let same : lists_of now ≡ lists_of vs ++ v.items ∷ [] = ap lists_of is ∙ lists_push vs v in
      let count = so_far.count in
      let before = so_far.limit in
      let none : List (List ℕ) = [] in
      subst (HaveRows query tables join (n + 1)) (sym same) (record {
        count = omega (arith, count, length-append (lists_of vs) (v.items ∷ []));
        each = each_more (λ k rows. AreNodeRows query tables (item_of join k) rows) (lists_of vs) v.items [] n count so_far.each here;
        fewer = each_more (λ k rows. length rows ≤ table_rows query tables join k) (lists_of vs) v.items [] n count so_far.fewer few;
        limit = omega (arith, before, limit, sum_by-append length (lists_of vs) (v.items ∷ []), sum_by-cons length v.items none);
      })

module _ (bound : BoundQuery) (join : JoinTree) where
  abbrev Shares : ℕ → List ℕ → List ℕ → Type 0
  Shares v own above = AreShared bound (item_of join v) (item_of join (parent_of join v))
      (λ x. HasVariable bound.query.equalities bound.variables (item_of join v) x.0 x.1) own above

  -- the root has no columns
  pub root_columns : (us us' vs vs' : List (Vec ℕ Global)) (u v : Vec ℕ Global) → us ≡ [] → vs ≡ [] → u.items ≡ [] → v.items ≡ [] → us' ≡ us ++ u ∷ [] → vs' ≡ vs ++ v ∷ []
      → HaveColumns bound join 1 (lists_of us') (lists_of vs')
  root_columns us us' vs vs' u v none also_none empty also_empty is also =
      let own = lone_list us us' u none empty is in
      let above = lone_list vs vs' v also_none also_empty also in
      record {
        own_count = ap length own;
        above_count = ap length above;
        root = ap (λ (xs : List (List ℕ)). get_or xs 0 []) own;
        each = λ v some l. absurd (omega (arith, some, l));
      }

  columns_append : (n : ℕ) (own above : List (List ℕ)) (x y : List ℕ) → 0 < n → HaveColumns bound join n own above → Shares n x y
      → HaveColumns bound join (n + 1) (own ++ x ∷ []) (above ++ y ∷ [])
  columns_append n own above x y some so_far here =
      let a = so_far.own_count in
      let b = so_far.above_count in
      record {
        own_count = omega (arith, a, length-append own (x ∷ []));
        above_count = omega (arith, b, length-append above (y ∷ []));
        root = get_or_append_left own (x ∷ []) [] 0 (omega (arith, a, some)) ∙ so_far.root;
        each = λ v past l. elim (cases_eq v n) [
          | inl same ↦
              subst (λ (w : ℕ). Shares w (get_or (own ++ x ∷ []) w []) (get_or (above ++ y ∷ []) w [])) (sym same)
              (subst (λ (p : List ℕ). Shares n p (get_or (above ++ y ∷ []) n [])) (sym (get_or_push own x [] n a))
              (subst (λ (p : List ℕ). Shares n x p) (sym (get_or_push above y [] n b)) here))
          | inr other ↦
              let old : v < n = omega (arith, other, l) in
              subst (λ (p : List ℕ). Shares v p (get_or (above ++ y ∷ []) v [])) (sym (get_or_append_left own (x ∷ []) [] v (omega (arith, old, a))))
              (subst (λ (p : List ℕ). Shares v (get_or own v []) p) (sym (get_or_append_left above (y ∷ []) [] v (omega (arith, old, b)))) (so_far.each v past old))
        ];
      }

  pub columns_push : (n : ℕ) (us us' vs vs' : List (Vec ℕ Global)) (u v : Vec ℕ Global) → 0 < n → us' ≡ us ++ u ∷ [] → vs' ≡ vs ++ v ∷ []
      → HaveColumns bound join n (lists_of us) (lists_of vs) → Shares n u.items v.items → HaveColumns bound join (n + 1) (lists_of us') (lists_of vs')
  columns_push n us us' vs vs' u v some is also so_far here =
      let own : lists_of us' ≡ lists_of us ++ u.items ∷ [] = ap lists_of is ∙ lists_push us u in
      let above : lists_of vs' ≡ lists_of vs ++ v.items ∷ [] = ap lists_of also ∙ lists_push vs v in
      subst (λ (p : List (List ℕ)). HaveColumns bound join (n + 1) p (lists_of vs')) (sym own)
      (subst (λ (p : List (List ℕ)). HaveColumns bound join (n + 1) (lists_of us ++ u.items ∷ []) p) (sym above)
      (columns_append n (lists_of us) (lists_of vs) u.items v.items some so_far here))

-- the caps of a shape are those that it lists
cap_listed : (s : NodeShape) → length s.caps ≡ 8 → (i : ℕ) → cap_of s i ≡ slice_index s.caps i
cap_listed s eight i = elim (cases_lt i 8) [
  | inl below ↦ cond-true (nat_lt i 8) (slice_index s.caps i) 0 (lt-ltb i 8 below)
  | inr past ↦ cond-false (nat_lt i 8) (slice_index s.caps i) 0 (le-ltb i 8 past) ∙ sym (get_or_past s.caps i 0 (omega (arith, eight, past)))
]

module _ (bound : BoundQuery) (tables : List Table) (join : JoinTree) where
  pub no_shapes : (shapes : List NodeShape) → shapes ≡ [] → AreShapesOf bound tables join 0 shapes
  no_shapes shapes none =
      let n : length shapes ≡ 0 = ap length none in
      record { count = n; parents = λ v l. absurd (omega (arith, l)); items = λ v l. absurd (omega (arith, l)); caps = λ v i l. absurd (omega (arith, l)) }

  pub shapes_push : (n : ℕ) (shapes now : List NodeShape) (s : NodeShape) → now ≡ shapes ++ s ∷ [] → s.parent ≡ parent_of join n → s.item ≡ item_of join n → length s.caps ≡ 8
      → ((i : ℕ) → slice_index s.caps i ≡ cap_at bound tables (item_of join n) i) → AreShapesOf bound tables join n shapes → AreShapesOf bound tables join (n + 1) now
  shapes_push n shapes now s is parent item eight caps so_far =
      let none : NodeShape = record { parent = 0; item = 0; caps = [] } in
      let count = so_far.count in
      subst (AreShapesOf bound tables join (n + 1)) (sym is) (record {
        count = omega (arith, count, length-append shapes (s ∷ []));
        parents = each_more (λ v (t : NodeShape). t.parent ≡ parent_of join v) shapes s none n count so_far.parents parent;
        items = each_more (λ v (t : NodeShape). t.item ≡ item_of join v) shapes s none n count so_far.items item;
        caps = λ v i l. each_more (λ w (t : NodeShape). cap_of t i ≡ cap_at bound tables (item_of join w) i) shapes s none n count (λ w k. so_far.caps w i k) (cap_listed s eight i ∙ caps i) v l;
      })
