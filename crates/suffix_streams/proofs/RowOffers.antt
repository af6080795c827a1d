-- A known solution of a row is the sum of its cell's parts, which have their ranks. The last one found is the top of the product's frontier.
use Rattle.std.proofs.Common.{◌≡◌, ◌≢◌, ℕ, suc, ◌+◌, ◌-◌, ◌<◌, ◌≤◌, Option, Some, None, IfSome, IfNone, inl, inr, List, [], ◌∷◌, length, get_or, sym, ap, ◌∙◌, subst, arith}
use Rattle.std.proofs.lemmas.List.Elements.{All-get_or}
use Rattle.rankings.specs.Order.{IsAscending}
use Rattle.stream_store.specs.declared.linked.Linked.{Linked}
use Rattle.suffix_streams.specs.QueueEntries.{IsHeld, InProduct}
use Rattle.suffix_streams.proofs.Steps.{product_shows}
use Rattle.take2_heap.specs.declared.entry.Entry.{Entry}
use Rattle.take2_heap.specs.Order.{IsLeast}
use Rattle.tdp_core.specs.TreeView.{NodeView, rows, child_count, group_named}
use Rattle.tdp_model.specs.KeyTuple.{KeyOf, key_below, key_add, key_none}
use Rattle.tdp_model.specs.Product.{Pair, pair_key}
use Rattle.suffix_streams.specs.declared.cell.Cell.{Cell}
use Rattle.suffix_streams.specs.declared.source.Source.{Source}
use Rattle.suffix_streams.specs.declared.stream.Found.{Found}
use Rattle.suffix_streams.specs.Growing.{IsReached}
use Rattle.suffix_streams.specs.LastEntries.{IsRowNext}
use Rattle.suffix_streams.proofs.Entries.{known_inside}
use Rattle.suffix_streams.specs.NodeStreamsView.{NodeStreamsView}
use Rattle.suffix_streams.specs.Rankings.{child, part_list, group_list}
use Rattle.suffix_streams.specs.Frontiers.{IsFrontier}
use Rattle.suffix_streams.specs.TreeStreams.{node_of, group_of, products_of, product_of, part_known, row_known, pair_of, IsStreams, IsCell, IsSumOf}
use Rattle.suffix_streams.proofs.Rankings.{part_ascends, group_ascends}
use Rattle.suffix_streams.proofs.Firsts.{first_by_at}

-- the top of a frontier has the key of the last sum found
frontier_top : {R T : Type 0} (d : ℕ) (key : R → KeyOf d 16) (xs ys zs : List (KeyOf d 16)) → IsAscending (key_below d 16) xs → IsAscending (key_below d 16) ys → (at : T → Pair) (found : List T) (frontier : List (Entry R T)) (top : Entry R T)
    → IsFrontier d key at xs ys zs found frontier → 0 < length frontier → top ≡ get_or frontier 0 top → IsLeast d key top frontier → key top.rank ≡ get_or zs (length found - 1) (key_none d 16)
frontier_top d key xs ys zs ax ay at found [] top f some is least = absurd (omega arith)
frontier_top d key xs ys zs ax ay at found (e ∷ es) top f some is least = sym (product_shows d key xs ys at ax ay zs (length found - 1) top (e ∷ es) f.held some is least f.ahead.remains).1

-- the entry is the solution at this place, of row r of node v with its first c + 1 children, as a sum
pub record IsTopSum {R : Type 0} (d : ℕ) (key : R → KeyOf d 16) (t : List (NodeView R)) (es : List (Linked (Found R))) (nodes : List (NodeStreamsView R)) (v r c place : ℕ) (e : Entry R Cell) : Type 0 where
  pub rank : key e.rank ≡ get_or (part_list d key t v r (c + 1)) place (key_none d 16)
  pub sum : IsSumOf d key t es nodes v r c place e.tag

module _ {R : Type 0} (d : ℕ) (key : R → KeyOf d 16) (t : List (NodeView R)) (es : List (Linked (Found R))) (nodes : List (NodeStreamsView R)) (h : IsStreams d key t es nodes) (v r c place : ℕ)
    (l : v < length t) (row : r < rows t v) (in_row : c < length (products_of nodes v r)) (known : place < part_known nodes v r (suc c)) where
  abbrev KnownCell : Cell → Type 0
  KnownCell x = (x.left < part_known nodes v r c) × (x.right < length es) × (node_of es x.right ≡ child t v c) × (group_of es x.right ≡ group_named t v r c)

  abbrev sum_of : Cell → KeyOf d 16
  sum_of x = pair_key (key_add d 16) (key_none d 16) (part_list d key t v r c) (group_list d key t (child t v c) (group_named t v r c)) (pair_of es x)

  -- it is found in the list of cells
  module _ (cell : Cell) (is : cell ≡ get_or (product_of nodes v r c).found place cell) where
    pub offered_cell : IsCell d key t es nodes v r c cell
    offered_cell =
        let k : KnownCell cell = subst KnownCell (sym is) (All-get_or KnownCell (product_of nodes v r c).found place cell known (h.products v r c l row in_row).found_known) in
        record { left = k.0; right = k.1; node = k.2; group = k.3 }

    pub offered_key : sum_of cell ≡ get_or (part_list d key t v r (c + 1)) place (key_none d 16)
    offered_key =
        let more : suc c ≡ c + 1 = omega arith in
        ap sum_of is ∙ first_by_at d sum_of (product_of nodes v r c).found (part_list d key t v r (suc c)) place cell (h.products v r c l row in_row).sums.prefix known ∙ ap (λ n. get_or (part_list d key t v r n) place (key_none d 16)) more

    pub offered_sum : IsSumOf d key t es nodes v r c place cell
    offered_sum = record {
      left = record { found = λ some. offered_cell.left; first = λ none. absurd (omega (arith, none, in_row)) };
      right = offered_cell.right;
      node = offered_cell.node;
      group = offered_cell.group;
      sum = sym offered_key;
    }

  -- it is the last one found, and `top` is the top of the frontier
  module _ (top : Entry R Cell) (some : 0 < length (product_of nodes v r c).frontier) (is : (x : Entry R Cell) → top ≡ get_or (product_of nodes v r c).frontier 0 x)
      (least : IsLeast d key top (product_of nodes v r c).frontier) (last : part_known nodes v r (suc c) ≡ place + 1) where
    abbrev Held : Entry R Cell → Type 0
    Held = IsHeld d key (pair_key (key_add d 16) (key_none d 16) (part_list d key t v r c) (group_list d key t (child t v c) (group_named t v r c))) (InProduct d (part_list d key t v r c) (group_list d key t (child t v c) (group_named t v r c))) (pair_of es)

    abbrev Known : Entry R Cell → Type 0
    Known e = KnownCell e.tag

    rank_key : key top.rank ≡ get_or (part_list d key t v r (c + 1)) place (key_none d 16)
    rank_key =
        let more : suc c ≡ c + 1 = omega arith in
        let at : length (product_of nodes v r c).found - 1 ≡ place = omega (arith, last) in
        frontier_top d key (part_list d key t v r c) (group_list d key t (child t v c) (group_named t v r c)) (part_list d key t v r (suc c)) (part_ascends d key t v r c) (group_ascends d key t (child t v c) (group_named t v r c)) (pair_of es)
        (product_of nodes v r c).found (product_of nodes v r c).frontier top (h.products v r c l row in_row).sums some (is top) least
        ∙ ap (λ i. get_or (part_list d key t v r (suc c)) i (key_none d 16)) at
        ∙ ap (λ n. get_or (part_list d key t v r n) place (key_none d 16)) more

    pub top_sum : IsTopSum d key t es nodes v r c place top
    top_sum =
        let k : Known top = subst Known (sym (is top)) (All-get_or Known (product_of nodes v r c).frontier 0 top some (h.products v r c l row in_row).known) in
        let held : Held top = subst Held (sym (is top)) (All-get_or Held (product_of nodes v r c).frontier 0 top some (h.products v r c l row in_row).sums.held) in
        record {
          rank = rank_key;
          sum = record {
            left = record { found = λ some. k.0; first = λ none. absurd (omega (arith, none, in_row)) };
            right = k.1;
            node = k.2;
            group = k.3;
            sum = sym rank_key ∙ held.1;
          };
        }

-- # The next solution of an open row

-- what was offered at the place of s
pub record IsRowOffer {R : Type 0} (d : ℕ) (key : R → KeyOf d 16) (t : List (NodeView R)) (es : List (Linked (Found R))) (nodes : List (NodeStreamsView R)) (v : ℕ) (s : Source) (o : Option (Entry R Source)) : Type 0 where
  pub none : IfNone o (row_known nodes v s.row ≤ s.place)
  pub source : IfSome o (λ e. (e.tag.member ≡ s.member) × (e.tag.place ≡ s.place) × (e.tag.row ≡ s.row) × (e.tag.number ≡ s.number))
  pub known : IfSome o (λ e. s.place < row_known nodes v s.row)
  pub parts : IfSome o (λ e. (c : ℕ) → child_count t v ≡ c + 1 → IsSumOf d key t es nodes v s.row c s.place e.tag.cell)
  pub rank : IfSome o (λ e. key e.rank ≡ get_or (part_list d key t v s.row (length (products_of nodes v s.row))) s.place (key_none d 16))

pub row_next : {R : Type 0} (d : ℕ) (key : R → KeyOf d 16) (t : List (NodeView R)) (es : List (Linked (Found R))) (nodes : List (NodeStreamsView R)) → IsStreams d key t es nodes → (v : ℕ) (s : Source) (place : ℕ) (o : Option (Entry R Source)) → v < length t → s.row < rows t v → child_count t v ≢ 1
    → length (products_of nodes v s.row) ≡ child_count t v → place ≡ s.place + 1 → IsReached d key t nodes v s.row (child_count t v) place → IsRowOffer d key t es nodes v (record s { place = place }) o → IsRowNext d key t es nodes v s o
row_next {R} d key t es nodes h v s place o l row many whole next reached f = cases o f
  where
    cases : (o : Option (Entry R Source)) → IsRowOffer d key t es nodes v (record s { place = place }) o → IsRowNext d key t es nodes v s o
    cases None f = record {
      none = elim reached [
        | inl k ↦ absurd (omega (arith, k, f.none, ap (λ z. part_known nodes v s.row z) whole))
        | inr k ↦ omega (arith, k, next)
      ];
      source = tt;
      within = tt;
      known = tt;
      parts = tt;
      alone = tt;
      key_is = tt;
    }
    cases (Some e) f =
        let inside = known_inside d key t es nodes h v s.row (length (products_of nodes v s.row)) place l row (omega arith) f.known in
        record {
          none = tt;
          source = (f.source.0, f.source.1 ∙ next, f.source.2, f.source.3);
          within = omega (arith, inside, next, ap (λ c. length (part_list d key t v s.row c)) whole);
          known = λ several. omega (arith, f.known, next);
          parts = λ c kids. subst (λ p. IsSumOf d key t es nodes v s.row c p e.tag.cell) next (f.parts c (omega (arith, kids)));
          alone = λ one. absurd (many one);
          key_is = f.rank ∙ ap (λ c. get_or (part_list d key t v s.row c) place (key_none d 16)) whole ∙ ap (λ p. get_or (part_list d key t v s.row (child_count t v)) p (key_none d 16)) next;
        }
