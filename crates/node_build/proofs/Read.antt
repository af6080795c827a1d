-- What a filled tree is to its readers.
use Rattle.std.proofs.Common.{◌≡◌, ◌↔◌, ◌<◌, ℕ, List, [], ◌∷◌, map, length, sum, get_or, slice_get, Some, refl, sym, ap, subst, ◌∙◌, inl, inr, arith}
use Rattle.std.specs.List.{AllByRecursion, sum_by}
use Rattle.std.proofs.lemmas.Bool.{cases_order}
use Rattle.std.proofs.lemmas.List.{get_or-map, length-map, ext_get_or}
use Rattle.std.proofs.lemmas.List.Sums.{sum-map}
use Rattle.std.proofs.lemmas.Option.{slice_get-get_or}
use Rattle.tdp_model.specs.KeyTuple.{KeyOf, key_none}
use Rattle.rank_key.specs.Keys.{row_key}
use Rattle.tdp_core.specs.RawView.{RawView, RawRowView, child_link, own_link, raw_len, raw_number, raw_rank, row_total, rows_at, shape_child_place, shape_parent}
use Rattle.tdp_core.specs.Solutions.{IsTieFreeRaw}
use Rattle.tdp_core.specs.TreeView.{kids_below}
use Rattle.tdp_core.proofs.RawReads.{field_read}
use Rattle.join_tree.specs.declared.tree.JoinTree.{JoinTree}
use Rattle.anyk_model.specs.Table.{Table}
use Rattle.table_store.specs.Tables.{IsSound}
use Rattle.bound_query.specs.WeighedQuery.{BoundQuery, Fits}
use Rattle.bound_query.specs.Weights.{table_in}
use Rattle.node_build.specs.PartialTrees.{IsFilledTree}
use Rattle.node_build.specs.Links.{IsRowOf, values_at}
use Rattle.node_build.specs.Nodes.{AreNodeRows, IsBuilt, IsJoinTreeOf, RowsAgree, RowsAlike, item_of, parent_of, row_parts}
use Rattle.node_build.specs.Rows.{HaveRows}
use Rattle.node_build.specs.Shapes.{AreShapesOf}
use Rattle.rankings.proofs.Members.{get_member}
use Rattle.node_build.proofs.Agreement.{IsRowIn, agree_iff, alike_iff, values_length}
use Rattle.node_build.proofs.Naming.{kids_ap}
use Rattle.node_build.proofs.Numbering.{link_iff}
use Rattle.node_build.proofs.Passing.{rises}
use Rattle.node_build.proofs.Shaped.{item_known, parent_earlier}

-- an element that is there
there : {A : Type 0} (xs : List A) (i : ℕ) → i < length xs → (x : A) × (slice_get xs i ≡ Some x)
there [] i l = absurd (omega (arith, l))
there (x ∷ xs) i l = (get_or (x ∷ xs) i x, slice_get-get_or (x ∷ xs) i x l)

module _ {R : Type 0} (bound : BoundQuery) (tables : List Table) (fits : Fits bound tables) (sound : AllByRecursion IsSound tables) (join : JoinTree)
    (is_tree : IsJoinTreeOf bound.query join) (d : ℕ) (key : R → KeyOf d 16) (rows : List (List ℕ)) (tree : RawView R)
    (of_nodes : HaveRows bound.query tables join join.count rows) (shapes : AreShapesOf bound tables join join.count tree.shapes)
    (filled : IsFilledTree bound tables join d key rows tree) where
  -- a row of a node, with the number in its item's table
  record IsRead (v r : ℕ) : Type 0 where
    row : RawRowView R
    at : slice_get (rows_at tree v) r ≡ Some row
    of_row : IsRowOf bound tables join filled.own filled.above d key filled.lists v (get_or (get_or rows v []) r 0) row
    member : r < length (get_or rows v [])
    number : raw_number tree v r ≡ get_or (get_or rows v []) r 0

  read : (v r : ℕ) → v < join.count → r < raw_len tree v → IsRead v r
  read v r l h =
      let has = filled.filled.filled v l in
      let x = there (rows_at tree v) r h in
      let of_row = has.each r x.0 x.1 in
      let count = has.count in
      record {
        row = x.0;
        at = x.1;
        of_row = of_row;
        member = omega (arith, h, count);
        number = field_read (λ (y : RawRowView R). y.row.row) (rows_at tree v) r x.0 0 x.1 ∙ of_row.number;
      }

  numbers_are : (v : ℕ) → v < join.count → map (λ x. x.row.row) (rows_at tree v) ≡ get_or rows v []
  numbers_are v l =
      let has = filled.filled.filled v l in
      let count = has.count in
      let size = length-map (rows_at tree v) (λ (x : RawRowView R). x.row.row) in
      ext_get_or 0 (map (λ x. x.row.row) (rows_at tree v)) (get_or rows v []) (size ∙ count)
      (λ r h. (read v r l (omega (arith, h, size))).number)

  -- the row is one of its item's table
  row_in : (v r : ℕ) → v < join.count → r < raw_len tree v → IsRowIn bound tables fits sound (item_of join v) (raw_number tree v r)
  row_in v r l h =
      let x = read v r l h in
      let inside = x.member in
      let m = ((of_nodes.each v l).members (get_or (get_or rows v []) r 0)).0 (get_member (get_or rows v []) r 0 inside) in
      subst (IsRowIn bound tables fits sound (item_of join v)) (sym x.number)
      (record { known = item_known bound.query join is_tree v l; first = m.0; last = m.1 })

  abbrev values : ℕ → ℕ → List ℕ → List ℕ
  values v row columns = values_at bound tables join filled.own filled.above v row columns

  -- as many values as columns
  as_many : (v row : ℕ) (columns : List ℕ) → length (values v row columns) ≡ length columns
  as_many v row columns = values_length tables (table_in tables bound.query.items (item_of join v)) row columns

  links_are : (q i r : ℕ) → 0 < q → q < join.count → i < raw_len tree q → r < raw_len tree (parent_of join q)
      → (own_link tree q i ≡ child_link tree (parent_of join q) r (shape_child_place tree.shapes q))
      ↔ RowsAgree bound tables (item_of join q) (item_of join (parent_of join q)) (raw_number tree q i) (raw_number tree (parent_of join q) r)
  links_are q i r some l h k =
      let up = parent_earlier bound.query join is_tree q some l in
      let p = parent_of join q in
      let below : p < join.count = omega (arith, up, l) in
      let x = read q i l h in
      let y = read p r below k in
      let own : own_link tree q i ≡ x.row.own = field_read (λ (z : RawRowView R). z.own) (rows_at tree q) i x.row 0 x.at in
      let children : get_or (map (λ z. z.children) (rows_at tree p)) r [] ≡ y.row.children = field_read (λ (z : RawRowView R). z.children) (rows_at tree p) r y.row [] y.at in
      let same_parent : shape_parent tree.shapes q ≡ p = shapes.parents q l in
      let place : shape_child_place tree.shapes q ≡ kids_below (parent_of join) p q =
      ap (λ (w : ℕ). kids_below (shape_parent tree.shapes) w q) same_parent
      ∙ kids_ap (shape_parent tree.shapes) (parent_of join) p q (λ u before. shapes.parents u (omega (arith, before, l))) in
      let child : child_link tree p r (shape_child_place tree.shapes q) ≡ get_or y.row.children (kids_below (parent_of join) p q) 0 =
      ap (λ (cs : List ℕ). get_or cs (shape_child_place tree.shapes q) 0) children ∙ ap (λ (n : ℕ). get_or y.row.children n 0) place in
      let names = link_iff filled.lists q x.row.own (get_or y.row.children (kids_below (parent_of join) p q) 0)
      (values q (get_or (get_or rows q []) i 0) (get_or filled.own q [])) (values p (get_or (get_or rows p []) r 0) (get_or filled.above q []))
      (as_many q (get_or (get_or rows q []) i 0) (get_or filled.own q []) ∙ (filled.columns.each q some l).same ∙ sym (as_many p (get_or (get_or rows p []) r 0) (get_or filled.above q [])))
      x.of_row.link (y.of_row.children q some l refl) in
      let agree = agree_iff bound tables fits sound (item_of join q) (item_of join p) (get_or filled.own q []) (get_or filled.above q []) (filled.columns.each q some l)
      (raw_number tree q i) (raw_number tree p r) (row_in q i l h) in
      let left = ap (λ (n : ℕ). values q n (get_or filled.own q [])) x.number in
      let right = ap (λ (n : ℕ). values p n (get_or filled.above q [])) y.number in (
        λ e. agree.0 (left ∙ names.0 (sym own ∙ e ∙ child) ∙ sym right),
        λ a. own ∙ names.1 (sym left ∙ agree.1 a ∙ right) ∙ sym child,
      )

  own_links_are : (q i j : ℕ) → 0 < q → q < join.count → i < raw_len tree q → j < raw_len tree q
      → (own_link tree q i ≡ own_link tree q j)
      ↔ RowsAlike bound tables (item_of join q) (item_of join (parent_of join q)) (raw_number tree q i) (raw_number tree q j)
  own_links_are q i j some l h k =
      let p = parent_of join q in
      let x = read q i l h in
      let y = read q j l k in
      let own : own_link tree q i ≡ x.row.own = field_read (λ (z : RawRowView R). z.own) (rows_at tree q) i x.row 0 x.at in
      let other : own_link tree q j ≡ y.row.own = field_read (λ (z : RawRowView R). z.own) (rows_at tree q) j y.row 0 y.at in
      let names = link_iff filled.lists q x.row.own y.row.own
      (values q (get_or (get_or rows q []) i 0) (get_or filled.own q [])) (values q (get_or (get_or rows q []) j 0) (get_or filled.own q []))
      (as_many q (get_or (get_or rows q []) i 0) (get_or filled.own q []) ∙ sym (as_many q (get_or (get_or rows q []) j 0) (get_or filled.own q [])))
      x.of_row.link y.of_row.link in
      let alike = alike_iff bound tables fits sound (item_of join q) (item_of join p) (get_or filled.own q []) (get_or filled.above q []) (filled.columns.each q some l)
      (raw_number tree q i) (raw_number tree q j) (row_in q i l h) in
      let left = ap (λ (n : ℕ). values q n (get_or filled.own q [])) x.number in
      let right = ap (λ (n : ℕ). values q n (get_or filled.own q [])) y.number in (
        λ e. alike.0 (left ∙ names.0 (sym own ∙ e ∙ other) ∙ sym right),
        λ a. own ∙ names.1 (sym left ∙ alike.1 a ∙ right) ∙ sym other,
      )

  ranks_are : (v r : ℕ) → v < join.count → r < raw_len tree v
      → raw_rank tree d key v r ≡ row_key d (row_parts bound tables (item_of join v) (raw_number tree v r)) (item_of join v) (raw_number tree v r)
  ranks_are v r l h =
      let x = read v r l h in
      field_read (λ (z : RawRowView R). key z.row.rank) (rows_at tree v) r x.row (key_none d 16) x.at ∙ x.of_row.rank
      ∙ ap (λ (n : ℕ). row_key d (row_parts bound tables (item_of join v) n) (item_of join v) n) (sym x.number)

  pub built : IsBuilt bound tables d key join tree
  built = record {
    nodes = shapes.count;
    parents = shapes.parents;
    items = shapes.items;
    caps = shapes.caps;
    rows = λ v l. subst (AreNodeRows bound.query tables (item_of join v)) (sym (numbers_are v l)) (of_nodes.each v l);
    ranks = ranks_are;
    links = links_are;
    own_links = own_links_are;
  }

  -- numbers of one node's rows differ
  pub tie_free_lem : IsTieFreeRaw tree
  tie_free_lem v i j l h k linked same =
      let inside : v < join.count = let c = shapes.count in omega (arith, l, c) in
      let x = read v i inside h in
      let y = read v j inside k in
      let left = x.member in
      let right = y.member in
      let alike : get_or (get_or rows v []) i 0 ≡ get_or (get_or rows v []) j 0 = sym x.number ∙ same ∙ y.number in
      let up = (of_nodes.each v inside).ascending in
      elim (cases_order i j) [
        | inl e ↦ e
        | inr (inl less) ↦ let rise = rises (get_or rows v []) i j up less right in absurd (omega (arith, rise, alike))
        | inr (inr more) ↦ let rise = rises (get_or rows v []) j i up more left in absurd (omega (arith, rise, alike))
      ]

  -- the counts are those of the rows
  pub counts_are : map length rows ≡ map length tree.rows
  counts_are =
      let count = of_nodes.count in
      let each_node = filled.filled.each_node in
      let left = length-map rows (λ (xs : List ℕ). length xs) in
      let right = length-map tree.rows (λ (xs : List (RawRowView R)). length xs) in
      ext_get_or 0 (map length rows) (map length tree.rows) (omega (arith, left, right, count, each_node))
      (λ v h.
      let l : v < join.count = omega (arith, h, left, count) in
      get_or-map length rows v [] 0 (omega (arith, l, count)) ∙ sym (filled.filled.filled v l).count ∙ sym (get_or-map length tree.rows v [] 0 (omega (arith, l, each_node))))

  -- and so is their sum
  pub row_total_is : sum_by length rows ≡ row_total tree
  row_total_is = sym (sum-map length rows) ∙ ap sum counts_are ∙ sum-map length tree.rows
