-- The products of a row are made.
use Rattle.std.proofs.Common.{◌≡◌, ◌≢◌, ℕ, zero, suc, ◌+◌, ◌^◌, ◌<◌, ◌≤◌, ◌⊎◌, max, List, [], ◌∷◌, length, get_or, slice_set, refl, sym, ap, ◌∙◌, subst, inl, inr, arith}
use Rattle.std.specs.List.{All}
use Rattle.std.proofs.lemmas.Bool.{cases_lt, cases_eq}
use Rattle.std.proofs.lemmas.List.{get_or-set_same, get_or-set_other, set-get_or}
use Rattle.std.proofs.lemmas.List.Elements.{All-nil, All-cons}
use Rattle.stream_store.specs.declared.linked.Linked.{Linked}
use Rattle.take2_heap.specs.declared.entry.Entry.{Entry}
use Rattle.tdp_core.specs.TreeView.{NodeView, rows, child_count, group_named}
use Rattle.tdp_core.specs.WellFormed.{IsTieFreeTree}
use Rattle.tdp_model.specs.KeyTuple.{KeyOf, key_none}
use Rattle.tdp_model.specs.Product.{Pair}
use Rattle.suffix_streams.specs.declared.cell.Cell.{Cell}
use Rattle.suffix_streams.specs.declared.stream.Found.{Found}
use Rattle.suffix_streams.specs.ProductView.{ProductView}
use Rattle.suffix_streams.specs.NodeStreamsView.{NodeStreamsView}
use Rattle.suffix_streams.specs.Rankings.{child, part_list, group_list}
use Rattle.suffix_streams.specs.Frontiers.{IsFrontier}
use Rattle.suffix_streams.specs.TreeStreams.{IsKnownPart, node_of, group_of, place_of, lists_of, products_of, product_of, part_known, row_known, pair_of, IsStreamOf, IsProductOf, IsStreams, IsFreshAt, AreFreshTo}
use Rattle.suffix_streams.proofs.Rankings.{kid, part_ascends, group_ascends, group_some, sums_begin}
use Rattle.suffix_streams.proofs.Stores.{open_all}
use Rattle.suffix_streams.proofs.Growth.{frontier_begins}
use Rattle.suffix_streams.proofs.Ranks.{first_ranked}
use Rattle.suffix_streams.proofs.Firsts.{part_some, first_sum}
use Rattle.suffix_streams.proofs.Entries.{named_stream}
use Rattle.suffix_streams.proofs.Heads.{lists_at}
use Rattle.suffix_streams.proofs.Kept.{held_itself, stream_stays, part_stays, product_stays}
use Rattle.suffix_streams.proofs.Changes.{lists_same, lists_other}
use Rattle.suffix_streams.proofs.ListEnds.{set_length}

module _ {R : Type 0} (d : ℕ) (key : R → KeyOf d 16) (t : List (NodeView R)) (es : List (Linked (Found R))) (nodes : List (NodeStreamsView R)) (h : IsStreams d key t es nodes) (v r : ℕ) (l : v < length t) (row : r < rows t v)
    (n : NodeStreamsView R) (at : n ≡ get_or nodes v n) where
  lists : lists_of nodes v ≡ n
  lists = lists_at nodes v n at (omega (arith, h.all_nodes))

  counted : length (get_or n.products r []) ≡ length (products_of nodes v r)
  counted = ap (λ z. length (get_or z.products r [])) (sym lists)

  all : length n.children ≡ child_count t v
  all = ap (λ z. length z.children) (sym lists) ∙ h.all_children v l

  -- a row with fewer products than its several children has none
  pub row_lacks : length (get_or n.products r []) < length n.children → 1 < length n.children → (length (products_of nodes v r) ≡ 0) × (1 < child_count t v)
  row_lacks few several = elim (cases_lt 0 (length (products_of nodes v r))) [
    | inl some ↦ absurd (omega (arith, few, counted, all, h.whole_rows v r l row some))
    | inr none ↦ (omega (arith, none), omega (arith, several, all))
  ]

  -- otherwise it has all products, unless the node has one child
  pub row_whole : ((length (get_or n.products r []) < length n.children) × (1 < length n.children) → ⊥) → child_count t v ≢ 1 → length (products_of nodes v r) ≡ child_count t v
  row_whole not many = elim (cases_lt 0 (length (products_of nodes v r))) [
    | inl some ↦ h.whole_rows v r l row some
    | inr none ↦ elim (cases_lt 1 (child_count t v)) [
      | inl several ↦ absurd (not (omega (arith, none, counted, all, several), omega (arith, all, several)))
      | inr few ↦ omega (arith, none, zero_or_one (child_count t v) few many)
    ]
  ]
    where
      zero_or_one : (k : ℕ) → k ≤ 1 → k ≢ 1 → k ≡ 0
      zero_or_one k few many = omega arith

module _ {R : Type 0} (d : ℕ) (key : R → KeyOf d 16) (t : List (NodeView R)) (es : List (Linked (Found R))) (nodes : List (NodeStreamsView R)) (h : IsStreams d key t es nodes) (apart : IsTieFreeTree t) (v r : ℕ)
    (l : v < length t) (row : r < rows t v) (ps : List (ProductView R)) (fresh : AreFreshTo d key t nodes v r (child_count t v) ps) (empty : length (products_of nodes v r) ≡ 0) (kids : 1 < child_count t v) where
  abbrev made : NodeStreamsView R
  made = record (lists_of nodes v) { products = slice_set (lists_of nodes v).products r ps }

  abbrev opened : List (NodeStreamsView R)
  opened = slice_set nodes v made

  opened_at : lists_of opened v ≡ made
  opened_at = lists_same nodes v made (omega (arith, h.all_nodes))

  pub opened_other : (w : ℕ) → w ≢ v → lists_of opened w ≡ lists_of nodes w
  opened_other w n = lists_other nodes v w made n

  pub opened_row : products_of opened v r ≡ ps
  opened_row = ap (λ n. get_or n.products r []) opened_at ∙ get_or-set_same (lists_of nodes v).products r ps [] (omega (arith, row, h.all_rows v l, open_all (child_count t v) (rows t v) kids))

  other_row : (w s : ℕ) → ((w ≢ v) ⊎ (s ≢ r)) → products_of opened w s ≡ products_of nodes w s
  other_row w s (inl n) = ap (λ z. get_or z.products s []) (opened_other w n)
  other_row w s (inr n) = elim (cases_eq w v) [
    | inl e ↦
        subst (λ z. products_of opened z s ≡ products_of nodes z s) (sym e) (ap (λ n. get_or n.products s []) opened_at ∙ get_or-set_other (lists_of nodes v).products r s ps [] n)
    | inr m ↦ ap (λ z. get_or z.products s []) (opened_other w m)
  ]

  pub opened_streams : (w : ℕ) → (lists_of opened w).streams ≡ (lists_of nodes w).streams
  opened_streams w = elim (cases_eq w v) [
    | inl e ↦ subst (λ z. (lists_of opened z).streams ≡ (lists_of nodes z).streams) (sym e) (ap (λ n. n.streams) opened_at)
    | inr n ↦ ap (λ z. z.streams) (opened_other w n)
  ]

  opened_children : (w : ℕ) → (lists_of opened w).children ≡ (lists_of nodes w).children
  opened_children w = elim (cases_eq w v) [
    | inl e ↦ subst (λ z. (lists_of opened z).children ≡ (lists_of nodes z).children) (sym e) (ap (λ n. n.children) opened_at)
    | inr n ↦ ap (λ z. z.children) (opened_other w n)
  ]

  opened_rows : (w : ℕ) → length (lists_of opened w).products ≡ length (lists_of nodes w).products
  opened_rows w = elim (cases_eq w v) [
    | inl e ↦ subst (λ z. length (lists_of opened z).products ≡ length (lists_of nodes z).products) (sym e) (ap (λ n. length n.products) opened_at ∙ set_length (lists_of nodes v).products r ps)
    | inr n ↦ ap (λ z. length z.products) (opened_other w n)
  ]

  pub opened_product : (c : ℕ) → product_of opened v r c ≡ get_or ps c (record { found = []; ranks = []; frontier = []; room = 0; frontier_room = 0 })
  opened_product c = ap (λ z. get_or z c (record { found = []; ranks = []; frontier = []; room = 0; frontier_room = 0 })) opened_row

  other_known : (w s k : ℕ) → ((w ≢ v) ⊎ (s ≢ r)) → part_known opened w s k ≡ part_known nodes w s k
  other_known w s zero n = refl
  other_known w s (suc k) n = ap (λ (z : List (ProductView R)). length (get_or z k (record { found = []; ranks = []; frontier = []; room = 0; frontier_room = 0 })).found) (other_row w s n)

  other_row_known : (w s : ℕ) → ((w ≢ v) ⊎ (s ≢ r)) → row_known opened w s ≡ row_known nodes w s
  other_row_known w s n = other_known w s (length (products_of opened w s)) n ∙ ap (λ z. part_known nodes w s (length z)) (other_row w s n)

  -- in the row that was opened, one solution of each part is known
  pub one_known : (c : ℕ) → c ≤ child_count t v → part_known opened v r c ≡ 1
  one_known zero k = refl
  one_known (suc c) k =
      let f : IsFreshAt d key t nodes v r c (get_or ps c (record { found = []; ranks = []; frontier = []; room = 0; frontier_room = 0 })) = fresh.first c (record { found = []; ranks = []; frontier = []; room = 0; frontier_room = 0 }) (omega arith) in
      ap (λ p. length p.found) (opened_product c) ∙ ap length f.1

  row_rises : (w s : ℕ) → row_known nodes w s ≤ row_known opened w s
  row_rises w s = elim (cases_eq w v) [
    | inr n ↦ omega (arith, other_row_known w s (inl n))
    | inl e ↦ elim (cases_eq s r) [
      | inr n ↦ omega (arith, other_row_known w s (inr n))
      | inl f ↦
          subst (λ z. row_known nodes z s ≤ row_known opened z s) (sym e) (subst (λ z. row_known nodes v z ≤ row_known opened v z) (sym f)
          (omega (arith, ap (λ z. part_known nodes v r z) empty, one_known (length (products_of opened v r)) (omega (arith, ap length opened_row, fresh.count)))))
    ]
  ]

  -- what was known of a row stays known: of the row that was opened, the first solution
  part_kept : (w s k place : ℕ) → k < child_count t w → IsKnownPart nodes w s k place → IsKnownPart opened w s k place
  part_kept w s k place few x = elim (cases_eq w v) [
    | inr n ↦ same (inl n)
    | inl e ↦ elim (cases_eq s r) [
      | inr n ↦ same (inr n)
      | inl f ↦
          let none : length (products_of nodes w s) ≡ 0 = ap (λ z. length (products_of nodes z s)) e ∙ ap (λ z. length (products_of nodes v z)) f ∙ empty in
          let one : part_known opened w s k ≡ 1 = ap (λ z. part_known opened z s k) e ∙ ap (λ z. part_known opened v z k) f ∙ one_known k (omega (arith, few, ap (λ z. child_count t z) e)) in
          record { found = λ some. omega (arith, x.first none, one); first = λ z. x.first none }
    ]
  ]
    where
      same : ((w ≢ v) ⊎ (s ≢ r)) → IsKnownPart opened w s k place
      same n = part_stays nodes opened w s k place (ap length (other_row w s n)) (omega (arith, other_known w s k n)) x

  abbrev KnownIn : ℕ → Cell → Type 0
  KnownIn c x = (x.left < part_known opened v r c) × (x.right < length es) × (node_of es x.right ≡ child t v c) × (group_of es x.right ≡ group_named t v r c)

  fresh_product : (c : ℕ) → c < child_count t v → IsProductOf d key t es opened v r c
  fresh_product c k =
      let f : IsFreshAt d key t nodes v r c (get_or ps c (record { found = []; ranks = []; frontier = []; room = 0; frontier_room = 0 })) = fresh.first c (record { found = []; ranks = []; frontier = []; room = 0; frontier_room = 0 }) k in
      let s : IsStreamOf d key t es nodes (child t v c) (group_named t v r c) = h.streams (child t v c) (group_named t v r c) (kid d key t h.tree v c k).within (named_stream d key t es nodes h v r c l row k) in
      let e : Entry R Cell = f.0 in
      let found : (product_of opened v r c).found ≡ e.tag ∷ [] = ap (λ p. p.found) (opened_product c) ∙ f.1 in
      let frontier : (product_of opened v r c).frontier ≡ e ∷ [] = ap (λ p. p.frontier) (opened_product c) ∙ f.2 in
      let g : (get_or (part_list d key t v r (suc c)) 0 (key_none d 16) ≡ key e.rank)
      × IsFrontier d key (pair_of es) (part_list d key t v r c) (group_list d key t (child t v c) (group_named t v r c)) (part_list d key t v r (suc c)) (e.tag ∷ []) (e ∷ []) =
      frontier_begins d key (part_list d key t v r c) (group_list d key t (child t v c) (group_named t v r c)) (part_list d key t v r (suc c)) (part_ascends d key t v r c) (group_ascends d key t (child t v c) (group_named t v r c)) (pair_of es)
      e (part_some d key t h.tree apart v r c l row (omega arith)) (group_some d key t h.tree (child t v c) (group_named t v r c) (kid d key t h.tree v c k).within (named_stream d key t es nodes h v r c l row k))
      (ap (λ (z : Cell). (let p : Pair = record { left = z.left; right = place_of es z.right } in p)) f.3 ∙ ap (λ (p : ℕ). (let z : Pair = record { left = 0; right = p } in z)) s.head_place)
      (f.4 ∙ (first_sum d key t h.tree apart v r c l row k (part_some d key t h.tree apart v r c l row (omega arith))).1) (sums_begin d key t h.tree apart v r c l k) in
      let known : KnownIn c e.tag = subst (λ (z : Cell). (z.left < part_known opened v r c) × (z.right < length es) × (node_of es z.right ≡ child t v c) × (group_of es z.right ≡ group_named t v r c)) (sym f.3) (omega (arith, one_known c (omega arith)), s.head_in, s.head_node, s.head_group) in
      record {
        few = subst (λ (z : List (Entry R Cell)). length z ≤ 2 ^ 64) (sym frontier) (omega arith);
        known = subst (All (λ (x : Entry R Cell). KnownIn c x.tag)) (sym frontier) (All-cons (λ (x : Entry R Cell). KnownIn c x.tag) e [] known (All-nil (λ (x : Entry R Cell). KnownIn c x.tag)));
        found_known = subst (All (KnownIn c)) (sym found) (All-cons (KnownIn c) e.tag [] known (All-nil (KnownIn c)));
        sums = subst (λ (z : List (Entry R Cell)). IsFrontier d key (pair_of es) (part_list d key t v r c) (group_list d key t (child t v c) (group_named t v r c)) (part_list d key t v r (suc c)) (product_of opened v r c).found z) (sym frontier)
            (subst (λ (z : List Cell). IsFrontier d key (pair_of es) (part_list d key t v r c) (group_list d key t (child t v c) (group_named t v r c)) (part_list d key t v r (suc c)) z (e ∷ [])) (sym found) g.1);
        ranked = λ few.
            let ranks : (product_of opened v r c).ranks ≡ e.rank ∷ [] = ap (λ p. p.ranks) (opened_product c) ∙ f.5 few in
            first_ranked d key (part_list d key t v r (suc c)) (product_of opened v r c) e found ranks (first_sum d key t h.tree apart v r c l row k (part_some d key t h.tree apart v r c l row (omega arith))).0 g.0;
      }

  pub row_opened : IsStreams d key t es opened
  row_opened = record {
    tree = h.tree;
    all_nodes = set_length nodes v made ∙ h.all_nodes;
    all_children = λ w a. ap length (opened_children w) ∙ h.all_children w a;
    children = λ w k a b. ap (λ z. get_or z k 0) (opened_children w) ∙ h.children w k a b;
    all_streams = λ w a. ap length (opened_streams w) ∙ h.all_streams w a;
    all_rows = λ w a. opened_rows w ∙ h.all_rows w a;
    whole_rows = λ w s a b some. whole w s a b some;
    owners = h.owners;
    linked = h.linked;
    streams = λ q g a b. stream_stays d key t es es nodes opened (held_itself es) q g (ap (λ z. get_or z g (record { head = 0; queue = []; room = 0 })) (opened_streams q)) refl (λ s. row_rises q s) (λ s k p few. part_kept q s k p few) (h.streams q g a b);
    products = λ w s k a b x. each w s k a b x;
  }
    where
      whole : (w s : ℕ) → w < length t → s < rows t w → 0 < length (products_of opened w s) → length (products_of opened w s) ≡ child_count t w
      whole w s a b some = elim (cases_eq w v) [
        | inr n ↦ ap length (other_row w s (inl n)) ∙ h.whole_rows w s a b (omega (arith, some, ap length (other_row w s (inl n))))
        | inl e ↦ elim (cases_eq s r) [
          | inr n ↦ ap length (other_row w s (inr n)) ∙ h.whole_rows w s a b (omega (arith, some, ap length (other_row w s (inr n))))
          | inl f ↦ subst (λ z. length (products_of opened z s) ≡ child_count t z) (sym e) (subst (λ z. length (products_of opened v z) ≡ child_count t v) (sym f) (ap length opened_row ∙ fresh.count))
        ]
      ]

      other : (w s k : ℕ) → w < length t → s < rows t w → k < length (products_of opened w s) → ((w ≢ v) ⊎ (s ≢ r)) → IsProductOf d key t es opened w s k
      other w s k a b x n =
          product_stays d key t es es nodes opened (held_itself es) w s k (ap (λ (z : List (ProductView R)). (get_or z k (record { found = []; ranks = []; frontier = []; room = 0; frontier_room = 0 })).found) (other_row w s n))
          (ap (λ (z : List (ProductView R)). (get_or z k (record { found = []; ranks = []; frontier = []; room = 0; frontier_room = 0 })).frontier) (other_row w s n))
          (ap (λ (z : List (ProductView R)). (get_or z k (record { found = []; ranks = []; frontier = []; room = 0; frontier_room = 0 })).ranks) (other_row w s n)) (omega (arith, other_known w s k n)) (h.products w s k a b (omega (arith, x, ap length (other_row w s n))))

      each : (w s k : ℕ) → w < length t → s < rows t w → k < length (products_of opened w s) → IsProductOf d key t es opened w s k
      each w s k a b x = elim (cases_eq w v) [
        | inr n ↦ other w s k a b x (inl n)
        | inl e ↦ elim (cases_eq s r) [
          | inr n ↦ other w s k a b x (inr n)
          | inl f ↦
              let in_row : k < child_count t v = omega (arith, x, ap (λ z. length (products_of opened z s)) e, ap (λ z. length (products_of opened v z)) f, ap length opened_row, fresh.count) in
              subst (λ z. IsProductOf d key t es opened z s k) (sym e) (subst (λ z. IsProductOf d key t es opened v z k) (sym f) (fresh_product k in_row))
        ]
      ]

  -- each queue that was made has one entry
  pub opened_queues : (w s k : ℕ) → length (product_of opened w s k).frontier ≤ max 1 (length (product_of nodes w s k).frontier) + 0
  opened_queues w s k = elim (cases_eq w v) [
    | inr n ↦ same w s k (inl n)
    | inl e ↦ elim (cases_eq s r) [
      | inr n ↦ same w s k (inr n)
      | inl f ↦
          subst (λ z. length (product_of opened z s k).frontier ≤ max 1 (length (product_of nodes z s k).frontier) + 0) (sym e)
          (subst (λ z. length (product_of opened v z k).frontier ≤ max 1 (length (product_of nodes v z k).frontier) + 0) (sym f) (omega (arith, ap (λ (p : ProductView R). length p.frontier) (opened_product k), new k)))
    ]
  ]
    where
      same : (w s k : ℕ) → ((w ≢ v) ⊎ (s ≢ r)) → length (product_of opened w s k).frontier ≤ max 1 (length (product_of nodes w s k).frontier) + 0
      same w s k n = omega (arith, ap (λ (z : List (ProductView R)). length (get_or z k (record { found = []; ranks = []; frontier = []; room = 0; frontier_room = 0 })).frontier) (other_row w s n))

      past : (xs : List (ProductView R)) (i : ℕ) (x : ProductView R) → length xs ≤ i → get_or xs i x ≡ x
      past [] i x l = refl
      past (y ∷ xs) zero x l = absurd (omega arith)
      past (y ∷ xs) (suc i) x l = past xs i x (omega arith)

      new : (k : ℕ) → length (get_or ps k (record { found = []; ranks = []; frontier = []; room = 0; frontier_room = 0 })).frontier ≤ 1
      new k = elim (cases_lt k (child_count t v)) [
        | inl a ↦ omega (arith, ap length (fresh.first k (record { found = []; ranks = []; frontier = []; room = 0; frontier_room = 0 }) a).2)
        | inr a ↦ omega (arith, ap (λ (p : ProductView R). length p.frontier) (past ps k (record { found = []; ranks = []; frontier = []; room = 0; frontier_room = 0 }) (omega (arith, fresh.count))))
      ]

-- the change in terms of the lists
pub opened_is : {R : Type 0} (nodes : List (NodeStreamsView R)) (v r : ℕ) (m n : NodeStreamsView R) (ps : List (ProductView R)) → v < length nodes → m ≡ get_or nodes v m → n ≡ record m { products = slice_set m.products r ps }
    → slice_set nodes v n ≡ slice_set nodes v (record (lists_of nodes v) { products = slice_set (lists_of nodes v).products r ps })
opened_is {R} nodes v r m n ps l at e =
    ap (λ z. slice_set nodes v z) (e ∙ ap (λ (z : NodeStreamsView R). (let x : NodeStreamsView R = record z { products = slice_set z.products r ps } in x)) (sym (lists_at nodes v m at l)))

-- a node that is put back as it was changes nothing
pub put_back : {R : Type 0} (nodes : List (NodeStreamsView R)) (v : ℕ) (m n : NodeStreamsView R) → m ≡ get_or nodes v m → n ≡ m → slice_set nodes v n ≡ nodes
put_back nodes v m n at e = ap (λ z. slice_set nodes v z) (e ∙ at) ∙ set-get_or nodes v m
