-- The rows of a node that lie in columns.
use Rattle.std.proofs.Common.{◌≡◌, ◌<◌, ◌+◌, ℕ, zero, suc, List, [], ◌∷◌, map, length, get_or, slice_get, Some, refl, sym, ap, subst, ◌∙◌, arith}
use Rattle.std.specs.List.{All, sum_by}
use Rattle.std.proofs.Math.ListN.{set}
use Rattle.std.proofs.lemmas.List.{get_or_default, get_or-map, get_or-set_other, get_or-set_same, length-map, length-set}
use Rattle.std.proofs.lemmas.List.Sums.{sum_by-cons}
use Rattle.std.proofs.lemmas.Option.{slice_get_read, slice_get_within}
use Rattle.tdp_model.specs.KeyTuple.{KeyOf}
use Rattle.rank_key.specs.Keys.{row_key}
use Rattle.tdp_core.specs.declared.parts.NodeShape.{NodeShape}
use Rattle.tdp_core.specs.RankedRows.{ranked_rows}
use Rattle.tdp_core.specs.RawRows.{AreRawRows, raw_rows}
use Rattle.tdp_core.specs.RawView.{RawRowFits, RawRowView, RawView, row_total, rows_at, shape_children, with_rows}
use Rattle.tdp_core.proofs.RankedRowLists.{ranks_are}
use Rattle.tdp_core.proofs.RankedRowLists as ranked
use Rattle.tdp_core.proofs.RawReads.{field_had, field_read}
use Rattle.tdp_core.proofs.RawRowLists.{names_are, owns_are, rows_are, rows_length}
use Rattle.join_tree.specs.declared.tree.JoinTree.{JoinTree}
use Rattle.anyk_model.specs.Table.{Table}
use Rattle.bound_query.specs.WeighedQuery.{BoundQuery}
use Rattle.bound_query.specs.Weights.{table_in}
use Rattle.node_build.specs.Links.{AreLinks, HasRowsOf, IsLink, NamesLinks, values_at}
use Rattle.node_build.specs.Nodes.{item_of, row_parts}
use Rattle.node_build.specs.PartialTrees.{HasOnlyMore}
use Rattle.node_build.specs.Shapes.{AreShapesOf}
use Rattle.node_build.proofs.Fitting.{row_fits}

numbers_are : {R : Type 0} (ranks : List R) (numbers : List ℕ) → length numbers ≡ length ranks → map (λ x. x.row) (ranked_rows ranks numbers) ≡ numbers
numbers_are [] [] e = refl
numbers_are [] (number ∷ numbers) e = absurd (omega (arith, e))
numbers_are (rank ∷ ranks) [] e = absurd (omega (arith, e))
numbers_are (rank ∷ ranks) (number ∷ numbers) e = ap (λ l. number ∷ l) (numbers_are ranks numbers (omega (arith, e)))

-- what holds of each element that is read holds of all
all_read : {X : Type 0} (P : X → Type 0) (xs : List X) → ((r : ℕ) (x : X) → slice_get xs r ≡ Some x → P x) → All P xs
all_read P xs h k d inside = h k (get_or xs k d) (slice_get_read xs (length xs) k (get_or xs k d) refl inside (sym (get_or_default xs k (get_or xs k d) d inside)))

module _ (bound : BoundQuery) (tables : List Table) (join : JoinTree) (own above : List (List ℕ)) {R : Type 0} (d : ℕ) (key : R → KeyOf d 16) (lists : List (List (List ℕ))) (v : ℕ)
    (rows : List ℕ) (ranks : List R) (numbers owns : List ℕ) (named : List (List ℕ)) where
  abbrev key_at : ℕ → KeyOf d 16
  key_at row = row_key d (row_parts bound tables (item_of join v) row) (item_of join v) row

  pub columns_hold : numbers ≡ rows → map key ranks ≡ map key_at rows → AreLinks lists v tables (table_in tables bound.query.items (item_of join v)) rows (get_or own v []) owns
      → length named ≡ length rows → ((r : ℕ) → r < length rows → NamesLinks bound tables join own above lists v (get_or rows r 0) join.count (get_or named r []))
      → HasRowsOf bound tables join own above d key lists v (length rows) rows (raw_rows (ranked_rows ranks numbers) owns named)
  columns_hold is keys links many names =
      let same : length numbers ≡ length rows = ap length is in
      let long : length numbers ≡ length ranks = same ∙ sym (length-map rows key_at) ∙ sym (ap length keys) ∙ length-map ranks key in
      let count = ranked.rows_length ranks numbers long in
      let own_count = links.count in
      let formed : AreRawRows (ranked_rows ranks numbers) owns named = record { all_own = omega (arith, own_count, count, same); all_named = omega (arith, many, count, same) } in
      let xs = raw_rows (ranked_rows ranks numbers) owns named in
      let all : length xs ≡ length rows = rows_length (ranked_rows ranks numbers) owns named formed ∙ count ∙ same in
      record {
        count = all;
        each = λ r x at.
            let inside : r < length rows = (let h = slice_get_within xs r x at in omega (arith, h, all)) in
            let row : slice_get (ranked_rows ranks numbers) r ≡ Some x.row =
            ap (λ l. slice_get l r) (sym (rows_are (ranked_rows ranks numbers) owns named formed)) ∙ field_had (λ y. y.row) xs r x at in
            let rank : slice_get ranks r ≡ Some x.row.rank = ap (λ l. slice_get l r) (sym (ranks_are ranks numbers long)) ∙ field_had (λ y. y.rank) (ranked_rows ranks numbers) r x.row row in
            let number : x.row.row ≡ get_or rows r 0 =
            sym (field_read (λ y. y.row) (ranked_rows ranks numbers) r x.row 0 row) ∙ ap (λ l. get_or l r 0) (numbers_are ranks numbers long ∙ is) in
            let link : get_or owns r 0 ≡ x.own = ap (λ l. get_or l r 0) (sym (owns_are (ranked_rows ranks numbers) owns named formed)) ∙ field_read (λ y. y.own) xs r x 0 at in
            let children : get_or named r [] ≡ x.children = ap (λ l. get_or l r []) (sym (names_are (ranked_rows ranks numbers) owns named formed)) ∙ field_read (λ y. y.children) xs r x [] at in
            record {
              number = number;
              rank = sym (field_read key ranks r x.row.rank (key x.row.rank) rank) ∙ ap (λ l. get_or l r (key x.row.rank)) keys ∙ get_or-map key_at rows r 0 (key x.row.rank) inside;
              link = subst (λ (n : ℕ). IsLink lists v n (values_at bound tables join own above v (get_or rows r 0) (get_or own v []))) link (links.each r inside);
              children = subst (NamesLinks bound tables join own above lists v (get_or rows r 0) join.count) children (names r inside);
            };
      }

-- they fit the shape of their node
module _ (bound : BoundQuery) (tables : List Table) (join : JoinTree) (own above : List (List ℕ)) (shapes : List NodeShape) (of_join : AreShapesOf bound tables join join.count shapes)
    (v : ℕ) (l : v < join.count) (few : item_of join v < 16) {R : Type 0} (d : ℕ) (key : R → KeyOf d 16) where
  pub columns_fit : (lists : List (List (List ℕ))) (n w : ℕ) (rows : List ℕ) (xs : List (RawRowView R)) → HasRowsOf bound tables join own above d key lists v n rows xs
      → All (λ ks. length ks ≡ w) (map (λ x. x.children) xs) → w ≡ shape_children shapes v → All (RawRowFits d key shapes v) xs
  columns_fit lists n w rows xs has wide is = all_read (RawRowFits d key shapes v) xs (λ r x at.
      let here = has.each r x at in
      let inside : r < length (map (λ y. y.children) xs) = (let h = slice_get_within xs r x at in omega (arith, h, length-map xs (λ y. y.children))) in (
        row_fits bound tables join shapes of_join v l d x.row.row (key x.row.rank) few (here.rank ∙ ap (λ (row : ℕ). row_key d (row_parts bound tables (item_of join v) row) (item_of join v) row) (sym here.number)),
        sym (ap length (field_read (λ y. y.children) xs r x [] at)) ∙ wide r [] inside ∙ is,
      ))

sum_filled : {X : Type 0} (xss : List (List X)) (v : ℕ) (xs : List X) → v < length xss → get_or xss v [] ≡ [] → sum_by length (set xss v xs) ≡ sum_by length xss + length xs
sum_filled [] v xs l none = absurd (omega (arith, l))
sum_filled (ys ∷ xss) zero xs l none = omega (arith, sum_by-cons length ys xss, sum_by-cons length xs xss, ap length none)
sum_filled (ys ∷ xss) (suc v) xs l none = omega (arith, sum_by-cons length ys xss, sum_by-cons length ys (set xss v xs), sum_filled xss v xs (omega (arith, l)) none)

-- a tree whose node has these rows and had none
module _ {R : Type 0} (t now : RawView R) (v : ℕ) (xs : List (RawRowView R)) (inside : v < length t.rows) (is : now ≡ with_rows t v xs) where
  pub rows_now : rows_at now v ≡ xs
  rows_now = ap (λ (n : RawView R). rows_at n v) is ∙ get_or-set_same t.rows v xs [] inside

  pub only_these : (n : ℕ) → length xs ≡ n → rows_at t v ≡ [] → HasOnlyMore v n t now
  only_these n long none = record {
    shapes = ap (λ (m : RawView R). m.shapes) is;
    each_node = ap (λ (m : RawView R). length m.rows) is ∙ length-set t.rows v xs;
    others = λ u other. ap (λ (m : RawView R). rows_at m u) is ∙ get_or-set_other t.rows v u xs [] other;
    total = ap (λ (m : RawView R). row_total m) is ∙ sum_filled t.rows v xs inside none ∙ ap (λ (k : ℕ). row_total t + k) long;
  }
