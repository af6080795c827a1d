-- What holds for a stream and for a product stays while the store grows and other objects change.
use Rattle.std.proofs.Common.{◌≡◌, ℕ, suc, ◌+◌, ◌-◌, ◌^◌, ◌<◌, ◌≤◌, List, length, get_or, refl, sym, ap, ◌∙◌, subst, arith}
use Rattle.std.specs.List.{All}
use Rattle.std.proofs.lemmas.List.Elements.{All-weaker}
use Rattle.take2_heap.specs.declared.entry.Entry.{Entry}
use Rattle.take2_heap.specs.Order.{IsLeast}
use Rattle.stream_store.specs.declared.linked.Linked.{Linked}
use Rattle.tdp_core.specs.TreeView.{NodeView, members, group_named, child_count}
use Rattle.tdp_model.specs.KeyTuple.{KeyOf, key_below, key_add, key_none}
use Rattle.tdp_model.specs.Product.{Pair, pair_key, stands_for}
use Rattle.suffix_streams.specs.Ahead.{IsAhead}
use Rattle.suffix_streams.specs.QueueEntries.{InProduct}
use Rattle.suffix_streams.specs.declared.cell.Cell.{Cell}
use Rattle.suffix_streams.specs.declared.source.Source.{Source}
use Rattle.suffix_streams.specs.declared.stream.Found.{Found}
use Rattle.suffix_streams.specs.ProductView.{ProductView}
use Rattle.suffix_streams.specs.StreamView.{StreamView}
use Rattle.suffix_streams.specs.NodeStreamsView.{NodeStreamsView}
use Rattle.suffix_streams.specs.Rankings.{child, part_list, group_list}
use Rattle.suffix_streams.specs.Frontiers.{AreFirstBy, IsFrontier, IsMerge}
use Rattle.suffix_streams.specs.TreeStreams.{KeepsRanks, IsKnownPart, IsSumOf, HasOwnParts, products_of, node_of, group_of, place_of, stream, with_last, product_of, stream_of, part_known, row_known, pair_of, run_of, IsStreamOf, IsProductOf}
use Rattle.suffix_streams.proofs.Growth.{places_kept, held_kept, keys_kept, range_kept}

-- entries stay, with their owners and places
pub record AreHeld {R : Type 0} (es es' : List (Linked (Found R))) : Type 0 where
  pub longer : length es ≤ length es'
  pub nodes : (i : ℕ) → i < length es → node_of es' i ≡ node_of es i
  pub groups : (i : ℕ) → i < length es → group_of es' i ≡ group_of es i
  pub places : (i : ℕ) → i < length es → place_of es' i ≡ place_of es i

pub held_itself : {R : Type 0} (es : List (Linked (Found R))) → AreHeld es es
held_itself es = record { longer = omega arith; nodes = λ i l. refl; groups = λ i l. refl; places = λ i l. refl }

-- a known part stays known, if as many products and no fewer solutions are there
pub part_stays : {R : Type 0} (nodes nodes' : List (NodeStreamsView R)) (v r c place : ℕ) → length (products_of nodes' v r) ≡ length (products_of nodes v r) → part_known nodes v r c ≤ part_known nodes' v r c → IsKnownPart nodes v r c place → IsKnownPart nodes' v r c place
part_stays nodes nodes' v r c place count rises k = record { found = λ some. omega (arith, rises, k.found (omega (arith, some, count))); first = λ none. k.first (omega (arith, none, count)) }

-- a product keeps its ranks, if these and its solutions stay
pub ranks_stay : {R : Type 0} (d : ℕ) (key : R → KeyOf d 16) (ks : List (KeyOf d 16)) (p q : ProductView R) → q.found ≡ p.found → q.ranks ≡ p.ranks → KeepsRanks d key ks p → KeepsRanks d key ks q
ranks_stay d key ks p q found ranks h = (omega (arith, ap length found, ap length ranks, h.0), subst (λ z. AreFirstBy d key z ks) (sym ranks) h.1)

module _ {R : Type 0} (d : ℕ) (key : R → KeyOf d 16) (t : List (NodeView R)) (es es' : List (Linked (Found R))) (nodes nodes' : List (NodeStreamsView R)) (held : AreHeld es es') where
  -- the parts of a solution stay known
  pub sum_stays : (v r c place : ℕ) (cell : Cell) → (IsKnownPart nodes v r c cell.left → IsKnownPart nodes' v r c cell.left) → IsSumOf d key t es nodes v r c place cell → IsSumOf d key t es' nodes' v r c place cell
  sum_stays v r c place cell keeps s =
      let same : place_of es cell.right ≡ place_of es' cell.right = sym (held.places cell.right s.right) in
      record {
        left = keeps s.left;
        right = omega (arith, s.right, held.longer);
        node = held.nodes cell.right s.right ∙ s.node;
        group = held.groups cell.right s.right ∙ s.group;
        sum = subst (λ p. get_or (part_list d key t v r (c + 1)) place (key_none d 16) ≡ key_add d 16 (get_or (part_list d key t v r c) cell.left (key_none d 16)) (get_or (group_list d key t (child t v c) (group_named t v r c)) p (key_none d 16))) same s.sum;
      }

  pub parts_stay : (q g : ℕ) → ((r k p : ℕ) → k < child_count t q → IsKnownPart nodes q r k p → IsKnownPart nodes' q r k p) → (xs : List (Entry R Source)) → All (λ (e : Entry R Source). HasOwnParts d key t es nodes q g e.tag) xs
      → All (λ (e : Entry R Source). HasOwnParts d key t es' nodes' q g e.tag) xs
  parts_stay q g keeps xs a =
      All-weaker (λ (e : Entry R Source). HasOwnParts d key t es nodes q g e.tag) (λ (e : Entry R Source). HasOwnParts d key t es' nodes' q g e.tag)
      (λ e h. (h.0, h.1, λ c kids. sum_stays q (get_or (members t q g) e.tag.member 0) c e.tag.place e.tag.cell (keeps (get_or (members t q g) e.tag.member 0) c e.tag.cell.left (omega (arith, kids))) (h.2 c kids), λ one. held.places e.tag.cell.right (h.2 0 one).right ∙ h.3 one)) xs a

  pub stream_stays : (q g : ℕ) → stream_of nodes' q g ≡ stream_of nodes q g → stream es' q g ≡ stream es q g → ((r : ℕ) → row_known nodes q r ≤ row_known nodes' q r)
      → ((r k p : ℕ) → k < child_count t q → IsKnownPart nodes q r k p → IsKnownPart nodes' q r k p) → IsStreamOf d key t es nodes q g → IsStreamOf d key t es' nodes' q g
  stream_stays q g same found rises keeps s = record {
    head_in = omega (arith, ap (λ z. z.head) same, s.head_in, held.longer);
    head_node = ap (λ z. node_of es' z.head) same ∙ held.nodes (stream_of nodes q g).head s.head_in ∙ s.head_node;
    head_group = ap (λ z. group_of es' z.head) same ∙ held.groups (stream_of nodes q g).head s.head_in ∙ s.head_group;
    head_place = ap (λ z. place_of es' z.head) same ∙ held.places (stream_of nodes q g).head s.head_in ∙ s.head_place;
    few = omega (arith, ap (λ z. length z.queue) same, s.few);
    known = λ many. subst (λ (z : StreamView R). All (λ (e : Entry R Source). e.tag.place < row_known nodes' q (get_or (members t q g) e.tag.member 0)) z.queue) (sym same)
        (All-weaker (λ (e : Entry R Source). e.tag.place < row_known nodes q (get_or (members t q g) e.tag.member 0)) (λ (e : Entry R Source). e.tag.place < row_known nodes' q (get_or (members t q g) e.tag.member 0))
        (λ e h. omega (arith, h, rises (get_or (members t q g) e.tag.member 0))) (stream_of nodes q g).queue (s.known many));
    found_known = λ many. subst (λ z. All (λ (e : Entry R Source). e.tag.place < row_known nodes' q (get_or (members t q g) e.tag.member 0)) z) (sym found) (All-weaker (λ (e : Entry R Source). e.tag.place < row_known nodes q (get_or (members t q g) e.tag.member 0)) (λ (e : Entry R Source). e.tag.place < row_known nodes' q (get_or (members t q g) e.tag.member 0))
        (λ e h. omega (arith, h, rises (get_or (members t q g) e.tag.member 0))) (stream es q g) (s.found_known many));
    parts = subst (λ (z : StreamView R). All (λ (e : Entry R Source). HasOwnParts d key t es' nodes' q g e.tag) z.queue) (sym same) (parts_stay q g keeps (stream_of nodes q g).queue s.parts);
    found_parts = subst (λ z. All (λ (e : Entry R Source). HasOwnParts d key t es' nodes' q g e.tag) z) (sym found) (parts_stay q g keeps (stream es q g) s.found_parts);
    least = λ e is. subst (λ (z : StreamView R). IsLeast d key e z.queue) (sym same) (s.least e (subst (λ z. e ≡ get_or z (length z - 1) e) found is));
    merge = subst (λ z. IsMerge d key run_of (length (members t q g)) (λ i. part_list d key t q (get_or (members t q g) i 0) (child_count t q)) (group_list d key t q g) z (with_last z (stream_of nodes' q g).queue)) (sym found)
        (subst (λ (z : StreamView R). IsMerge d key run_of (length (members t q g)) (λ i. part_list d key t q (get_or (members t q g) i 0) (child_count t q)) (group_list d key t q g) (stream es q g) (with_last (stream es q g) z.queue)) (sym same) s.merge);
  }

  -- a frontier whose entries stay
  pub frontier_stays : (v c g : ℕ) (xs ys zs : List (KeyOf d 16)) (found : List Cell) (frontier : List (Entry R Cell)) → All (λ (x : Cell). x.right < length es) found → All (λ (e : Entry R Cell). e.tag.right < length es) frontier
      → IsFrontier d key (pair_of es) xs ys zs found frontier → IsFrontier d key (pair_of es') xs ys zs found frontier
  frontier_stays v c g xs ys zs found frontier found_known known f =
      let stays : (x : Cell) → x.right < length es → pair_of es x ≡ pair_of es' x =
      λ x h. ap (λ (p : ℕ). (let z : Pair = record { left = x.left; right = p } in z)) (sym (held.places x.right h)) in
      let same : (e : Entry R Cell) → e.tag.right < length es → pair_of es e.tag ≡ pair_of es' e.tag = λ e h. stays e.tag h in
      record {
        prefix = (f.prefix.0, f.prefix.1, sym (keys_kept (pair_key (key_add d 16) (key_none d 16) xs ys) (pair_of es) (pair_of es') (λ (x : Cell). x.right < length es) stays found found_known) ∙ f.prefix.2);
        kept = range_kept (InProduct d xs ys) (pair_of es) (pair_of es') (λ (x : Cell). x.right < length es) stays found found_known f.kept;
        held = held_kept d key (pair_key (key_add d 16) (key_none d 16) xs ys) (InProduct d xs ys) (pair_of es) (pair_of es') (λ (e : Entry R Cell). e.tag.right < length es) same frontier known f.held;
        ahead = subst (λ ps. IsAhead Pair (KeyOf d 16) (key_below d 16) (pair_key (key_add d 16) (key_none d 16) xs ys) (stands_for (length xs) (length ys)) (InProduct d xs ys) zs (length found) ps)
            (places_kept d key (pair_key (key_add d 16) (key_none d 16) xs ys) (InProduct d xs ys) (pair_of es) (pair_of es') (λ (e : Entry R Cell). e.tag.right < length es) same frontier known) f.ahead;
      }

  module _ (v r c : ℕ) (rises : part_known nodes v r c ≤ part_known nodes' v r c) where
    abbrev Known : Cell → Type 0
    Known x = (x.left < part_known nodes v r c) × (x.right < length es) × (node_of es x.right ≡ child t v c) × (group_of es x.right ≡ group_named t v r c)

    abbrev KnownLater : Cell → Type 0
    KnownLater x = (x.left < part_known nodes' v r c) × (x.right < length es') × (node_of es' x.right ≡ child t v c) × (group_of es' x.right ≡ group_named t v r c)

    cell_stays : (x : Cell) → Known x → KnownLater x
    cell_stays x h = (omega (arith, h.0, rises), omega (arith, h.1, held.longer), held.nodes x.right h.1 ∙ h.2, held.groups x.right h.1 ∙ h.3)

    cells_stay : {E : Type 0} (cell : E → Cell) (xs ys : List E) → ys ≡ xs → All (λ e. Known (cell e)) xs → All (λ e. KnownLater (cell e)) ys
    cells_stay cell xs ys same a = subst (All (λ e. KnownLater (cell e))) (sym same) (All-weaker (λ e. Known (cell e)) (λ e. KnownLater (cell e)) (λ e h. cell_stays (cell e) h) xs a)

    rights_in : {E : Type 0} (cell : E → Cell) (xs : List E) → All (λ e. Known (cell e)) xs → All (λ e. (cell e).right < length es) xs
    rights_in cell xs a = All-weaker (λ e. Known (cell e)) (λ e. (cell e).right < length es) (λ e h. h.1) xs a

  pub product_stays : (v r c : ℕ) → (product_of nodes' v r c).found ≡ (product_of nodes v r c).found → (product_of nodes' v r c).frontier ≡ (product_of nodes v r c).frontier → (product_of nodes' v r c).ranks ≡ (product_of nodes v r c).ranks
      → part_known nodes v r c ≤ part_known nodes' v r c → IsProductOf d key t es nodes v r c → IsProductOf d key t es' nodes' v r c
  product_stays v r c found frontier ranks rises p = record {
    few = subst (λ (z : List (Entry R Cell)). length z ≤ 2 ^ 64) (sym frontier) p.few;
    known = cells_stay v r c rises (λ (e : Entry R Cell). e.tag) (product_of nodes v r c).frontier (product_of nodes' v r c).frontier frontier p.known;
    found_known = cells_stay v r c rises (λ (x : Cell). x) (product_of nodes v r c).found (product_of nodes' v r c).found found p.found_known;
    sums = subst (λ (z : List (Entry R Cell)). IsFrontier d key (pair_of es') (part_list d key t v r c) (group_list d key t (child t v c) (group_named t v r c)) (part_list d key t v r (suc c)) (product_of nodes' v r c).found z) (sym frontier)
        (subst (λ (z : List Cell). IsFrontier d key (pair_of es') (part_list d key t v r c) (group_list d key t (child t v c) (group_named t v r c)) (part_list d key t v r (suc c)) z (product_of nodes v r c).frontier) (sym found)
        (frontier_stays v c (group_named t v r c) (part_list d key t v r c) (group_list d key t (child t v c) (group_named t v r c)) (part_list d key t v r (suc c)) (product_of nodes v r c).found (product_of nodes v r c).frontier
        (rights_in v r c rises (λ (x : Cell). x) (product_of nodes v r c).found p.found_known) (rights_in v r c rises (λ (e : Entry R Cell). e.tag) (product_of nodes v r c).frontier p.known) p.sums));
    ranked = λ few. ranks_stay d key (part_list d key t v r (suc c)) (product_of nodes v r c) (product_of nodes' v r c) found ranks (p.ranked few);
  }
