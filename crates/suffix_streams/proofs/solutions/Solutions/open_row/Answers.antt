use Rattle.suffix_streams.proofs.Errors.{none_done, ok_then}
use Rattle.std.proofs.Common.{◌≡◌, ℕ, zero, suc, ◌+◌, ◌<◌, ◌≤◌, max, Result, Ok, Err, OnOk, OnErr, List, [], length, slice_set, get_or, refl, sym, ap, ◌∙◌, subst, arith}
use Rattle.std.proofs.lemmas.List.{set-get_or}
use Rattle.std.proofs.lemmas.Bool.{false≢true}
use Rattle.tdp_core.specs.TreeView.{child_count, members, rows}
use Rattle.suffix_streams.specs.ProductView.{ProductView}
use Rattle.suffix_streams.specs.StreamView.{StreamView}
use Rattle.suffix_streams.specs.Firsts.{can_enter}
use Rattle.suffix_streams.specs.NodeStreamsView.{NodeStreamsView, known_of, with_queue}
use Rattle.suffix_streams.specs.TreeStreams.{IsHeaded, IsStreams, AreFreshTo, lists_of, products_of, product_of, stream_of}
use Rattle.suffix_streams.proofs.Changes.{lists_same, lists_other}
use Rattle.suffix_streams.proofs.Entries.{headed_of}
use Rattle.suffix_streams.proofs.Heads.{lists_at}
use Rattle.suffix_streams.proofs.Stores.{open_all}
use Rattle.suffix_streams.proofs.Opening.{row_lacks, row_whole, row_opened, opened_is, opened_row, opened_queues, put_back}
use Rattle.suffix_streams.proofs.QueuePass.{IsRoomed, roomed}
use Rattle.suffix_streams.proofs.SearchCalls.{on_ok}
use Rattle.suffix_streams.proofs.solutions.Solutions.open_row.Given.{Over}
use Rattle.suffix_streams.proofs.solutions.Solutions.open_row.Goals.{After-make_queue_room, After-set_products, In_ok-make_queue_room}
use Rattle.suffix_streams.proofs.Numbers.{in_same, queue_itself, no_steps}
use Rattle.suffix_streams.proofs.solutions.Solutions.open_row.Goals as goal

-- what follows whether something is done or refused
either : {A E P Q X : Type 0} (r : Result A E) → OnOk r P → OnErr r Q → (P → X) → (Q → X) → X
either (Ok x) p q f h = f p
either (Err e) p q f h = h q

in_rows : (r n k m : ℕ) → r < n → m ≡ k → k ≡ n → r < m
in_rows r n k m l e f = omega arith

same_queue : (n m : ℕ) → n ≡ m → n ≤ max 1 m + 0
same_queue n m e = omega arith

no_place : {P : Type 0} (p : ℕ) → 0 < p → p ≡ 0 → P
no_place p some none = absurd (omega (arith, some, none))

-- the streams after the queue got room
room_of : (g : Over) (c : After-make_queue_room g) → IsRoomed g.R.Rank.KEYS g.R.Rank.key c.args.self.now.tree.now c.args.self.now.entries.entries c.args.self.now.nodes.items c.make_queue_room.new.nodes.items c.args.node c.args.group
room_of g c =
    roomed g.R.Rank.KEYS g.R.Rank.key c.args.self.now.tree.now c.args.self.now.entries.entries c.args.self.now.nodes.items c.make_queue_room.new.nodes.items c.args.node c.args.group c.requires.formed c.requires.node c.requires.group c.make_queue_room.ensures.changed

-- the frontiers then
room_queues : (g : Over) (c : After-make_queue_room g) (v r k : ℕ) → length (product_of c.make_queue_room.new.nodes.items v r k).frontier ≡ length (product_of c.args.self.now.nodes.items v r k).frontier
room_queues g c v r k = ap (λ (ps : List (List (ProductView g.row.R.Denot))). length (get_or (get_or ps r []) k (record { found = []; ranks = []; frontier = []; room = 0; frontier_room = 0 })).frontier) ((room_of g c).products v)

-- the room in the queue, in terms of the tree
roomy : (g : Over) (c : In_ok-make_queue_room g) → can_enter (length (members c.args.self.now.tree.now c.args.node c.args.group)) ≤ (stream_of c.make_queue_room.new.nodes.items c.args.node c.args.group).room
roomy g c = subst (λ k. can_enter k ≤ (stream_of c.make_queue_room.new.nodes.items c.args.node c.args.group).room) c.group_len-members.ensures c.in_ok-make_queue_room.ensures.room

-- of a row with a second known solution there are products
products_of_second : {R : Type 0} (n : NodeStreamsView R) (r k p : ℕ) → 0 < p → p < known_of n r k → 0 < k
products_of_second n r zero p some known = omega (arith, some, known)
products_of_second n r (suc k) p some known = omega arith

-- new products leave the streams of a node
streams_stay : {R : Type 0} (nodes : List (NodeStreamsView R)) (v r : ℕ) (m n : NodeStreamsView R) (ps : List (ProductView R)) → v < length nodes → m ≡ get_or nodes v m → n ≡ record m { products = slice_set m.products r ps }
    → (lists_of (slice_set nodes v n) v).streams ≡ (lists_of nodes v).streams
streams_stay nodes v r m n ps l at e = ap (λ z. z.streams) (lists_same nodes v n l ∙ e) ∙ ap (λ z. z.streams) (sym (lists_at nodes v m at l))

pub make_products-requires-clause-headed : goal.make_products-requires-clause-headed
make_products-requires-clause-headed g c =
    let at = goal.at.make_products-requires-clause-headed g c in
    subst (λ (z : List (NodeStreamsView g.row.R.Denot)). IsHeaded g.R.Rank.KEYS g.R.Rank.key c.args.self.now.tree.now c.args.self.now.entries.entries z c.args.node c.args.row) (sym c.as_slice.ensures.value)
    (headed_of g.R.Rank.KEYS g.R.Rank.key c.args.self.now.tree.now c.args.self.now.entries.entries c.make_queue_room.new.nodes.items (room_of g at.After-make_queue_room).formed c.args.node c.args.row c.requires.node c.requires.row)

pub set_products-requires : goal.set_products-requires
set_products-requires g c =
    let at = goal.at.set_products-requires g c in
    let inside : c.args.node < length c.make_queue_room.new.nodes.items = in_same _ _ _ c.requires.node (room_of g at.After-make_queue_room).formed.all_nodes in
    let few = row_lacks g.R.Rank.KEYS g.R.Rank.key c.args.self.now.tree.now c.args.self.now.entries.entries c.make_queue_room.new.nodes.items (room_of g at.After-make_queue_room).formed c.args.node c.args.row c.requires.node c.requires.row c.index.result.now c.index.ensures (c.lacks_products.ensures.0 c.if-not-lacks_products.false).0 (c.lacks_products.ensures.0 c.if-not-lacks_products.false).1 in
    record {
      row = subst (λ n. c.args.row < length n.products) (lists_at c.make_queue_room.new.nodes.items c.args.node c.index_mut.result.now c.index_mut.ensures.value inside)
          (in_rows _ _ _ _ c.requires.row ((room_of g at.After-make_queue_room).formed.all_rows c.args.node c.requires.node) (open_all (child_count c.args.self.now.tree.now c.args.node) (rows c.args.self.now.tree.now c.args.node) few.1));
    }

-- the nodes after the products of a row were refused
refused : (g : Over) (c : After-set_products g) → c.set_products.new.self ≡ c.index_mut.result.now → slice_set c.make_queue_room.new.nodes.items c.args.node c.set_products.new.self ≡ c.make_queue_room.new.nodes.items
refused g c same = put_back c.make_queue_room.new.nodes.items c.args.node c.index_mut.result.now c.set_products.new.self c.index_mut.ensures.value same

pub make_queue_room-requires-clause-node : goal.make_queue_room-requires-clause-node
make_queue_room-requires-clause-node g c =
    in_same _ _ _ c.requires.node c.requires.formed.all_nodes

pub make_queue_room-requires-clause-group : goal.make_queue_room-requires-clause-group
make_queue_room-requires-clause-group g c =
    in_same _ _ _ c.requires.group (c.requires.formed.all_streams c.args.node c.requires.node)

pub index_mut-requires : goal.index_mut-requires
index_mut-requires g c =
    let at = goal.at.index_mut-requires g c in
    in_same _ _ _ (in_same _ _ _ c.requires.node (room_of g at.After-make_queue_room).formed.all_nodes) c.make_queue_room.new.nodes.ok.0

pub make_products-requires-clause-formed : goal.make_products-requires-clause-formed
make_products-requires-clause-formed g c =
    c.requires.formed.tree

pub make_products-requires-clause-tie_free : goal.make_products-requires-clause-tie_free
make_products-requires-clause-tie_free g c =
    c.requires.tie_free

pub make_products-requires-clause-node : goal.make_products-requires-clause-node
make_products-requires-clause-node g c =
    c.requires.node

pub make_products-requires-clause-row : goal.make_products-requires-clause-row
make_products-requires-clause-row g c =
    c.requires.row

pub returns-in_err-products : goal.returns-in_err-products
returns-in_err-products g c =
    let at = goal.at.returns-in_err-products g c in
    record {
      entries = refl;
      count = none_done _ c.from_residual-in_err-products.result c.from_residual-in_err-products.ensures.0;
      queues = λ v r k. same_queue _ _ (room_queues g at.After-make_queue_room v r k);
      room = on_ok c.from_residual-in_err-products.result (λ none. roomy g at.In_ok-make_queue_room);
      above = (room_of g at.After-make_queue_room).above;
      cost = c.make_products.ensures.cost;
      tree = refl;
      formed = (room_of g at.After-make_queue_room).formed;
      streams = (room_of g at.After-make_queue_room).streams;
    }

pub returns : goal.returns
returns g c =
    let at = goal.at.returns g c in
    let kept = refused g at.After-set_products in
    let inside : c.args.node < length c.make_queue_room.new.nodes.items = in_same _ _ _ c.requires.node (room_of g at.After-make_queue_room).formed.all_nodes in
    let stay = streams_stay c.make_queue_room.new.nodes.items c.args.node c.args.row c.index_mut.result.now c.set_products.new.self c.in_ok-products.products.items inside c.index_mut.ensures.value in
    let few = row_lacks g.R.Rank.KEYS g.R.Rank.key c.args.self.now.tree.now c.args.self.now.entries.entries c.make_queue_room.new.nodes.items (room_of g at.After-make_queue_room).formed c.args.node c.args.row c.requires.node c.requires.row c.index.result.now c.index.ensures (c.lacks_products.ensures.0 c.if-not-lacks_products.false).0 (c.lacks_products.ensures.0 c.if-not-lacks_products.false).1 in
    let fresh = subst (λ (z : List (NodeStreamsView g.row.R.Denot)). AreFreshTo g.R.Rank.KEYS g.R.Rank.key c.args.self.now.tree.now z c.args.node c.args.row (child_count c.args.self.now.tree.now c.args.node) c.in_ok-products.products.items) c.as_slice.ensures.value c.in_ok-products.ensures.fresh in
    let opened = opened_is c.make_queue_room.new.nodes.items c.args.node c.args.row c.index_mut.result.now c.set_products.new.self c.in_ok-products.products.items inside c.index_mut.ensures.value in
    record {
      cost = c.make_products.ensures.cost;
      tree = refl;
      entries = refl;
      formed =
          either c.set_products.result c.set_products.ensures.set c.set_products.ensures.refused
          (λ set. subst (λ (z : List (NodeStreamsView g.row.R.Denot)). IsStreams g.R.Rank.KEYS g.R.Rank.key c.args.self.now.tree.now c.args.self.now.entries.entries z) (sym (opened set))
          (row_opened g.R.Rank.KEYS g.R.Rank.key c.args.self.now.tree.now c.args.self.now.entries.entries c.make_queue_room.new.nodes.items (room_of g at.After-make_queue_room).formed c.requires.tie_free c.args.node c.args.row c.requires.node c.requires.row c.in_ok-products.products.items fresh few.0 few.1))
          (λ same. subst (λ (z : List (NodeStreamsView g.row.R.Denot)). IsStreams g.R.Rank.KEYS g.R.Rank.key c.args.self.now.tree.now c.args.self.now.entries.entries z) (sym (kept same)) (room_of g at.After-make_queue_room).formed);
      streams =
          either c.set_products.result c.set_products.ensures.set c.set_products.ensures.refused
          (λ set. stay set ∙ (room_of g at.After-make_queue_room).streams
          ∙ ap (λ (z : List (StreamView g.row.R.Denot)). (with_queue (lists_of c.args.self.now.nodes.items c.args.node) c.args.group (stream_of c.args.self.now.nodes.items c.args.node c.args.group).queue (get_or z c.args.group (record { head = 0; queue = []; room = 0 })).room).streams) (sym (stay set)))
          (λ same. subst (λ (z : List (NodeStreamsView g.row.R.Denot)). (lists_of z c.args.node).streams ≡ (with_queue (lists_of c.args.self.now.nodes.items c.args.node) c.args.group (stream_of c.args.self.now.nodes.items c.args.node c.args.group).queue (stream_of z c.args.node c.args.group).room).streams) (sym (kept same)) (room_of g at.After-make_queue_room).streams);
      queues =
          λ v r k. either c.set_products.result c.set_products.ensures.set c.set_products.ensures.refused
          (λ set. subst (λ q. length (product_of (slice_set c.make_queue_room.new.nodes.items c.args.node c.set_products.new.self) v r k).frontier ≤ max 1 q + 0) (room_queues g at.After-make_queue_room v r k) (
          subst (λ (z : List (NodeStreamsView g.row.R.Denot)). (v r k : ℕ) → length (product_of z v r k).frontier ≤ max 1 (length (product_of c.make_queue_room.new.nodes.items v r k).frontier) + 0) (sym (opened set))
          (opened_queues g.R.Rank.KEYS g.R.Rank.key c.args.self.now.tree.now c.args.self.now.entries.entries c.make_queue_room.new.nodes.items (room_of g at.After-make_queue_room).formed c.requires.tie_free c.args.node c.args.row c.requires.node c.requires.row c.in_ok-products.products.items fresh few.0 few.1) v r k))
          (λ same. subst (λ (z : List (NodeStreamsView g.row.R.Denot)). length (product_of z v r k).frontier ≤ max 1 (length (product_of c.args.self.now.nodes.items v r k).frontier) + 0) (sym (kept same)) (same_queue _ _ (room_queues g at.After-make_queue_room v r k)));
      above = λ v n. lists_other c.make_queue_room.new.nodes.items c.args.node v c.set_products.new.self n ∙ (room_of g at.After-make_queue_room).above v n;
      room = ok_then c.set_products.result (λ set none. subst (λ (z : List (StreamView g.row.R.Denot)). can_enter (length (members c.args.self.now.tree.now c.args.node c.args.group)) ≤ (get_or z c.args.group (record { head = 0; queue = []; room = 0 })).room) (sym (stay set)) (roomy g at.In_ok-make_queue_room)) c.set_products.ensures.set;
      count =
          ok_then c.set_products.result
          (λ set many. ap (λ (z : List (NodeStreamsView g.row.R.Denot)). length (products_of z c.args.node c.args.row)) (opened set)
          ∙ ap length (opened_row g.R.Rank.KEYS g.R.Rank.key c.args.self.now.tree.now c.args.self.now.entries.entries c.make_queue_room.new.nodes.items (room_of g at.After-make_queue_room).formed c.requires.tie_free c.args.node c.args.row c.requires.node c.requires.row c.in_ok-products.products.items fresh few.0 few.1)
          ∙ fresh.count) c.set_products.ensures.set;
    }

pub returns-then-not-lacks_products : goal.returns-then-not-lacks_products
returns-then-not-lacks_products g c =
    let at = goal.at.returns-then-not-lacks_products g c in
    record {
      room = λ none. roomy g at.In_ok-make_queue_room;
      above = (room_of g at.After-make_queue_room).above;
      tree = refl;
      count = row_whole g.R.Rank.KEYS g.R.Rank.key c.args.self.now.tree.now c.args.self.now.entries.entries c.make_queue_room.new.nodes.items (room_of g at.After-make_queue_room).formed c.args.node c.args.row c.requires.node c.requires.row c.index.result.now c.index.ensures (λ both. absurd (false≢true (sym c.if-not-lacks_products.true ∙ c.lacks_products.ensures.1 both)));
      streams = (room_of g at.After-make_queue_room).streams;
      queues = λ v r k. same_queue _ _ (room_queues g at.After-make_queue_room v r k);
      entries = refl;
      formed = (room_of g at.After-make_queue_room).formed;
      cost = no_steps _ _;
    }

pub returns-in_err-make_queue_room : goal.returns-in_err-make_queue_room
returns-in_err-make_queue_room g c =
    let at = goal.at.returns-in_err-make_queue_room g c in
    record {
      room = none_done _ c.from_residual.result c.from_residual.ensures.0;
      formed = (room_of g at.After-make_queue_room).formed;
      count = none_done _ c.from_residual.result c.from_residual.ensures.0;
      cost = no_steps _ _;
      queues = λ v r k. same_queue _ _ (room_queues g at.After-make_queue_room v r k);
      entries = refl;
      above = (room_of g at.After-make_queue_room).above;
      streams = (room_of g at.After-make_queue_room).streams;
      tree = refl;
    }

pub returns-then-place-gt0 : goal.returns-then-place-gt0
returns-then-place-gt0 g c =
    record {
      count = λ many. c.requires.formed.whole_rows c.args.node c.args.row c.requires.node c.requires.row (products_of_second (lists_of c.args.self.now.nodes.items c.args.node) c.args.row (length (products_of c.args.self.now.nodes.items c.args.node c.args.row)) c.args.place c.if-place-gt0.true (c.requires.place many));
      cost = no_steps _ _;
      tree = refl;
      queues = λ v r k. queue_itself _ _;
      above = λ v n. refl;
      formed = c.requires.formed;
      room = λ none. no_place _ c.if-place-gt0.true none;
      streams = sym (set-get_or (lists_of c.args.self.now.nodes.items c.args.node).streams c.args.group (record { head = 0; queue = []; room = 0 }));
      entries = refl;
    }

pub group_len-members-requires-clause-node : goal.group_len-members-requires-clause-node
group_len-members-requires-clause-node g c = c.requires.node

pub group_len-members-requires-clause-group : goal.group_len-members-requires-clause-group
group_len-members-requires-clause-group g c = c.requires.group
