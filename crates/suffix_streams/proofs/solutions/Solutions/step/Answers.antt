use Rattle.std.proofs.Common.{◌≡◌, ℕ, ◌+◌, ◌*◌, ◌<◌, ◌≤◌, suc, inl, inr, refl, IfSome, MatchOption, List, [], length, slice_set, get_or, sym, ap, ◌∙◌, subst, arith}
use Rattle.std.proofs.lemmas.Bool.{cases_lt}
use Rattle.rank_key.specs.Bits.{bit_length}
use Rattle.suffix_streams.specs.Cells.{cell_down}
use Rattle.suffix_streams.specs.ProductView.{ProductView}
use Rattle.suffix_streams.specs.NodeStreamsView.{NodeStreamsView, product_at, known_of, with_product}
use Rattle.suffix_streams.specs.TreeStreams.{HasParts, IsCell, IsStreams, lists_of, product_of, stream_of, part_known}
use Rattle.tdp_core.specs.TreeView.{NodeView, group_named}
use Rattle.rank_key.proofs.BitLemmas.{bit_length_rises}
use Rattle.suffix_streams.specs.Rankings.{child}
use Rattle.suffix_streams.specs.Growing.{IsReached}
use Rattle.suffix_streams.proofs.Searching.{reached_none}
use Rattle.suffix_streams.proofs.Heads.{lists_at}
use Rattle.suffix_streams.proofs.Entries.{parts_of}
use Rattle.suffix_streams.proofs.Changes.{lists_same}
use Rattle.suffix_streams.proofs.StepCells.{cell_known, beside_cell_known, at_head, none_beside, one_change}
use Rattle.suffix_streams.proofs.Exchanges.{top_right, below_right, can_exchange, exchanged_offer}
use Rattle.suffix_streams.proofs.ProductPass.{IsProductPassed, product_passed, stepped_holds, stepped_reaches}
use Rattle.suffix_streams.proofs.solutions.Solutions.step.Given.{Over}
use Rattle.suffix_streams.proofs.solutions.Solutions.step.Goals.{After-known-known, After-step_product}
use Rattle.suffix_streams.proofs.Numbers.{in_same, in_equal}
use Rattle.suffix_streams.proofs.solutions.Solutions.step.Goals as goal

none_is : (c : ℕ) → c ≤ 0 → 0 ≡ c
none_is c h = omega arith

later_some : (k : ℕ) → 0 < k + 1
later_some k = omega arith

at_most_one : (n : ℕ) → n ≡ 1 → n ≤ 1
at_most_one n e = omega arith

one_longer : (n : ℕ) → n ≤ n + 1
one_longer n = omega arith

next_is : (c : ℕ) → suc c ≡ c + 1
next_is c = omega arith

step_cost : (s d a p b b1 n n1 : ℕ) → d ≤ s + 3 → a ≤ d + 3 → p ≤ a + 1 + 2 * b + b1 → b ≡ n → b1 ≡ n1 → n ≤ n1 → p ≤ s + 9 + 3 * n1
step_cost s d a p b b1 n n1 h k l e f more = omega arith

same_few : (n m k : ℕ) → n ≡ m → m ≤ k → n ≤ k
same_few n m k e h = omega arith

-- # What the proofs share

-- the first entry of the stream of the group that a row names for a child
abbrev head_of : {R : Type 0} → List (NodeView R) → List (NodeStreamsView R) → ℕ → ℕ → ℕ → ℕ
head_of t n v r c = (stream_of n (child t v c) (group_named t v r c)).head

module _ (g : Over) where
  known_is : (c : After-known-known g) → c.known-known.result ≡ part_known c.args.self.now.nodes.items c.args.part.node c.args.part.row c.args.part.child
  known_is c = c.known-known.ensures ∙ ap (λ n. known_of n c.args.part.row c.args.part.child) (sym (lists_at c.args.self.now.nodes.items c.args.part.node c.index.result.now c.index.ensures (in_same _ _ _ c.requires.node c.requires.formed.all_nodes)))

  -- the place of the next left part is reached if the right part is the head
  ready_of : (c : After-step_product g) → c.args.top.now.tag.right ≡ head_of c.args.self.now.tree.now c.args.self.now.nodes.items c.args.part.node c.args.part.row c.args.part.child → IsReached g.R.Rank.KEYS g.R.Rank.key c.args.self.now.tree.now c.args.self.now.nodes.items c.args.part.node c.args.part.row c.args.part.child (c.args.top.now.tag.left + 1)
  ready_of c e = elim (cases_lt 0 c.args.part.child) [
    | inl later ↦ c.requires.step.across later ((c.requires.step.beside later).1 e)
    | inr none ↦
        let first : 0 ≡ c.args.part.child = none_is _ none in
        subst (λ k. IsReached g.R.Rank.KEYS g.R.Rank.key c.args.self.now.tree.now c.args.self.now.nodes.items c.args.part.node c.args.part.row k (c.args.top.now.tag.left + 1)) first
        (reached_none g.R.Rank.KEYS g.R.Rank.key c.args.self.now.tree.now c.args.self.now.entries.entries c.args.self.now.nodes.items c.requires.formed c.args.part.node c.args.part.row (c.args.top.now.tag.left + 1) c.requires.node (later_some _))
  ]

  -- the product with the solutions that it had, and the frontier that it has
  abbrev passed : After-step_product g → ProductView g.row.R.Denot
  passed c = record {
    found = (product_at c.index_mut.result.now c.args.part.row c.args.part.child).found;
    ranks = (product_at c.index_mut.result.now c.args.part.row c.args.part.child).ranks;
    frontier = (product_at c.step_product.new.self c.args.part.row c.args.part.child).frontier;
    room = (product_at c.step_product.new.self c.args.part.row c.args.part.child).room;
    frontier_room = (product_at c.step_product.new.self c.args.part.row c.args.part.child).frontier_room;
  }

  passed_of : (c : After-step_product g) → IsProductPassed g.R.Rank.KEYS g.R.Rank.key c.args.self.now.tree.now c.args.self.now.entries.entries c.args.self.now.nodes.items c.args.part.node c.args.part.row c.args.part.child (passed c)
  passed_of c =
      product_passed g.R.Rank.KEYS g.R.Rank.key c.args.self.now.tree.now c.args.self.now.entries.entries c.args.self.now.nodes.items c.args.part.node c.args.part.row c.args.part.child (passed c) c.index.result.now c.index_mut.result.now c.known-known.result c.args.top.now.tag c.args.below (head_of c.args.self.now.tree.now c.args.self.now.nodes.items c.args.part.node c.args.part.row c.args.part.child) (cell_down c.args.top.now.tag c.args.below) c.cell_beside-across.result c.offer_below-down.result c.offered-across.result
      c.requires.formed c.requires.node c.requires.row c.requires.child c.requires.step.top.some (λ x. ap (λ e. e.tag) (c.requires.step.top.first x)) refl c.requires.step.below (ready_of c) c.index.ensures c.index_mut.ensures.value c.known-known.ensures refl (at_head c.args.part.child c.known-known.result (head_of c.args.self.now.tree.now c.args.self.now.nodes.items c.args.part.node c.args.part.row c.args.part.child) c.args.top.now.tag c.args.beside c.requires.step.beside (λ none. c.known-known.ensures ∙ ap (λ k. known_of c.index.result.now c.args.part.row k) none) c.cell_beside-across.result c.cell_beside-across.ensures) (exchanged_offer g.R.Rank.KEYS g.R.Rank.key c.args.self.now.tree.now c.args.self.now.entries.entries c.args.self.now.nodes.items c.requires.formed c.args.part.node c.args.part.row c.args.part.child c.requires.node c.requires.row c.requires.child c.args.top.now c.requires.step.top.some c.requires.step.top.first c.args.below c.offer_below-down.result c.requires.step.below c.offer_below-down.ensures.offer) c.offered-across.ensures.offer refl refl c.step_product.ensures.moved c.step_product.ensures.least

  -- the nodes then
  changed_of : (c : After-step_product g) → slice_set c.args.self.now.nodes.items c.args.part.node c.step_product.new.self ≡ slice_set c.args.self.now.nodes.items c.args.part.node (with_product (lists_of c.args.self.now.nodes.items c.args.part.node) c.args.part.row c.args.part.child (product_at c.step_product.new.self c.args.part.row c.args.part.child))
  changed_of c = one_change c.args.self.now.nodes.items c.args.part.node c.args.part.row c.args.part.child c.index_mut.result.now c.step_product.new.self (in_same _ _ _ c.requires.node c.requires.formed.all_nodes) c.index_mut.ensures.value c.step_product.ensures.changed

  product_is : (c : After-step_product g) → product_of (slice_set c.args.self.now.nodes.items c.args.part.node c.step_product.new.self) c.args.part.node c.args.part.row c.args.part.child ≡ product_at c.step_product.new.self c.args.part.row c.args.part.child
  product_is c = ap (λ (m : NodeStreamsView g.row.R.Denot). product_at m c.args.part.row c.args.part.child) (lists_same c.args.self.now.nodes.items c.args.part.node c.step_product.new.self (in_same _ _ _ c.requires.node c.requires.formed.all_nodes))

pub offer_below-down-requires-clause-right : goal.offer_below-down-requires-clause-right
offer_below-down-requires-clause-right g c = top_right g.R.Rank.KEYS g.R.Rank.key c.args.self.now.tree.now c.args.self.now.entries.entries c.args.self.now.nodes.items c.requires.formed c.args.part.node c.args.part.row c.args.part.child c.requires.node c.requires.row c.requires.child c.args.top.now c.requires.step.top.some c.requires.step.top.first

pub offer_below-down-requires-clause-below : goal.offer_below-down-requires-clause-below
offer_below-down-requires-clause-below g c = below_right g.R.Rank.KEYS g.R.Rank.key c.args.self.now.tree.now c.args.self.now.entries.entries c.args.self.now.nodes.items c.requires.formed c.args.part.node c.args.part.row c.args.part.child c.requires.node c.requires.row c.requires.child c.args.top.now c.requires.step.top.some c.requires.step.top.first c.args.below c.requires.step.below

pub offer_below-down-requires-clause-exchange : goal.offer_below-down-requires-clause-exchange
offer_below-down-requires-clause-exchange g c = can_exchange g.R.Rank.KEYS g.R.Rank.key c.args.self.now.tree.now c.args.self.now.entries.entries c.args.self.now.nodes.items c.requires.formed c.args.part.node c.args.part.row c.args.part.child c.requires.node c.requires.row c.requires.child c.args.top.now c.requires.step.top.some c.requires.step.top.first c.args.below c.requires.step.below

pub cell_beside-across-requires : goal.cell_beside-across-requires
cell_beside-across-requires g c =
    let at = goal.at.cell_beside-across-requires g c in
    let known = known_is g at.After-known-known in
    in_same _ _ _ (cell_known g.R.Rank.KEYS g.R.Rank.key c.args.self.now.tree.now c.args.self.now.entries.entries c.args.self.now.nodes.items c.requires.formed c.args.part.node c.args.part.row c.args.part.child c.requires.node c.requires.row c.requires.child c.args.top.now.tag c.requires.step.top.some (λ x. ap (λ e. e.tag) (c.requires.step.top.first x))).left known

pub offered-across-requires-clause-parts : goal.offered-across-requires-clause-parts
offered-across-requires-clause-parts g c = subst (λ (z : List (NodeStreamsView g.row.R.Denot)). HasParts g.R.Rank.KEYS g.R.Rank.key c.args.self.now.tree.now c.args.self.now.entries.entries z c.args.part.node c.args.part.row c.args.part.child) (sym c.as_slice.ensures.value) (parts_of g.R.Rank.KEYS g.R.Rank.key c.args.self.now.tree.now c.args.self.now.entries.entries c.args.self.now.nodes.items c.requires.formed c.args.part.node c.args.part.row c.args.part.child c.requires.node c.requires.row c.requires.child)

pub offered-across-requires-clause-cell : goal.offered-across-requires-clause-cell
offered-across-requires-clause-cell g c =
    let at = goal.at.offered-across-requires-clause-cell g c in
    let known = known_is g at.After-known-known in
    let head = head_of c.args.self.now.tree.now c.args.self.now.nodes.items c.args.part.node c.args.part.row c.args.part.child in
    let beside = subst (λ k. MatchOption c.cell_beside-across.result (c.args.top.now.tag.right ≡ head → k ≤ c.args.top.now.tag.left + 1) (λ x. (c.args.top.now.tag.right ≡ head) × (c.args.top.now.tag.left + 1 < k) × (x ≡ record { left = c.args.top.now.tag.left + 1; right = head }))) known
    (at_head c.args.part.child c.known-known.result head c.args.top.now.tag c.args.beside c.requires.step.beside (λ none. c.known-known.ensures ∙ ap (λ k. known_of c.index.result.now c.args.part.row k) none) c.cell_beside-across.result c.cell_beside-across.ensures) in
    subst (λ (z : List (NodeStreamsView g.row.R.Denot)). IfSome c.cell_beside-across.result (IsCell g.R.Rank.KEYS g.R.Rank.key c.args.self.now.tree.now c.args.self.now.entries.entries z c.args.part.node c.args.part.row c.args.part.child)) (sym c.as_slice.ensures.value)
    (beside_cell_known g.R.Rank.KEYS g.R.Rank.key c.args.self.now.tree.now c.args.self.now.entries.entries c.args.self.now.nodes.items c.requires.formed c.args.part.node c.args.part.row c.args.part.child c.requires.node c.requires.row c.requires.child c.args.top.now.tag c.requires.step.top.some (λ x. ap (λ e. e.tag) (c.requires.step.top.first x)) (head_of c.args.self.now.tree.now c.args.self.now.nodes.items c.args.part.node c.args.part.row c.args.part.child) refl c.cell_beside-across.result beside)

pub offered-across-requires-clause-formed : goal.offered-across-requires-clause-formed
offered-across-requires-clause-formed g c =
    c.requires.formed.tree

pub offered-across-requires-clause-node : goal.offered-across-requires-clause-node
offered-across-requires-clause-node g c =
    c.requires.node

pub offered-across-requires-clause-row : goal.offered-across-requires-clause-row
offered-across-requires-clause-row g c =
    c.requires.row

pub index_mut-requires : goal.index_mut-requires
index_mut-requires g c =
    in_same _ _ _ (in_same _ _ _ c.requires.node c.requires.formed.all_nodes) c.args.self.now.nodes.ok.0

pub step_product-requires-clause-frontier_room : goal.step_product-requires-clause-frontier_room
step_product-requires-clause-frontier_room g c across =
    let lists = lists_at c.args.self.now.nodes.items c.args.part.node c.index_mut.result.now c.index_mut.ensures.value (in_same _ _ _ c.requires.node c.requires.formed.all_nodes) in
    elim (cases_lt 0 c.args.part.child) [
      | inl l ↦ subst (λ n. 0 < (product_at n c.args.part.row c.args.part.child).frontier_room) lists (c.requires.step.top.frontier_room l)
      | inr l ↦
          let first : c.args.part.child ≡ 0 = sym (none_is _ l) in
          let one : c.known-known.result ≡ 1 = c.known-known.ensures ∙ ap (λ k. known_of c.index.result.now c.args.part.row k) first in
          absurd (none_beside g.R.Rank.KEYS g.R.Rank.key c.args.self.now.tree.now c.args.self.now.entries.entries c.args.part.node c.args.part.row c.args.part.child c.args.top.now.tag c.args.beside c.known-known.result (at_most_one _ one) c.cell_beside-across.result c.offered-across.result c.cell_beside-across.ensures c.offered-across.ensures.offer across)
    ]

pub step_product-requires-clause-child : goal.step_product-requires-clause-child
step_product-requires-clause-child g c =
    let inside : c.args.part.node < length c.args.self.now.nodes.items = in_same _ _ _ c.requires.node c.requires.formed.all_nodes in
    in_equal _ _ _ c.requires.child (ap (λ n. length (get_or n.products c.args.part.row [])) (lists_at c.args.self.now.nodes.items c.args.part.node c.index_mut.result.now c.index_mut.ensures.value inside))

pub step_product-requires-clause-top : goal.step_product-requires-clause-top
step_product-requires-clause-top g c =
    let inside : c.args.part.node < length c.args.self.now.nodes.items = in_same _ _ _ c.requires.node c.requires.formed.all_nodes in
    subst (λ n. 0 < length (product_at n c.args.part.row c.args.part.child).frontier) (lists_at c.args.self.now.nodes.items c.args.part.node c.index_mut.result.now c.index_mut.ensures.value inside) c.requires.step.top.some

pub step_product-requires-clause-room : goal.step_product-requires-clause-room
step_product-requires-clause-room g c =
    let inside : c.args.part.node < length c.args.self.now.nodes.items = in_same _ _ _ c.requires.node c.requires.formed.all_nodes in
    subst (λ n. 0 < (product_at n c.args.part.row c.args.part.child).room) (lists_at c.args.self.now.nodes.items c.args.part.node c.index_mut.result.now c.index_mut.ensures.value inside) c.requires.step.top.room

pub returns : goal.returns
returns g c =
    let at = goal.at.returns g c in
    record {
      cost =
          let old = ap (λ n. product_at n c.args.part.row c.args.part.child) (sym (lists_at c.args.self.now.nodes.items c.args.part.node c.index_mut.result.now c.index_mut.ensures.value (in_same _ _ _ c.requires.node c.requires.formed.all_nodes))) in
          let length_is : ℕ = length (product_of c.args.self.now.nodes.items c.args.part.node c.args.part.row c.args.part.child).frontier in
          step_cost _ _ _ _ _ _ _ _ c.offer_below-down.ensures.cost c.offered-across.ensures.cost c.step_product.ensures.cost (ap (λ (q : ProductView g.row.R.Denot). bit_length (length q.frontier)) old) (ap (λ (q : ProductView g.row.R.Denot). bit_length (length q.frontier + 1)) old)
          (bit_length_rises length_is (length_is + 1) (one_longer length_is));
      reached =
          let next : suc c.args.part.child ≡ c.args.part.child + 1 = next_is c.args.part.child in
          let known = product_is g at.After-step_product in
          subst (λ k. IsReached g.R.Rank.KEYS g.R.Rank.key c.args.self.now.tree.now (slice_set c.args.self.now.nodes.items c.args.part.node c.step_product.new.self) c.args.part.node c.args.part.row k (part_known c.args.self.now.nodes.items c.args.part.node c.args.part.row k)) next
          (elim (stepped_reaches (passed g at.After-step_product) (product_at c.step_product.new.self c.args.part.row c.args.part.child) (passed_of g at.After-step_product) refl c.step_product.ensures.limit c.step_product.ensures.ended c.step_product.ensures.found c.step_product.ensures.ranks c.step_product.ensures.next) [
            | inl more ↦ inl (omega (arith, more, ap (λ q. length q.found) known))
            | inr all ↦ inr (omega (arith, all))
          ]);
      formed =
          subst (λ (z : List (NodeStreamsView g.row.R.Denot)). IsStreams g.R.Rank.KEYS g.R.Rank.key c.args.self.now.tree.now c.args.self.now.entries.entries z) (sym (changed_of g at.After-step_product))
          (stepped_holds (passed g at.After-step_product) (product_at c.step_product.new.self c.args.part.row c.args.part.child) (passed_of g at.After-step_product) refl c.step_product.ensures.limit c.step_product.ensures.ended c.step_product.ensures.found c.step_product.ensures.ranks c.step_product.ensures.next);
      changed = changed_of g at.After-step_product ∙ ap (λ z. slice_set c.args.self.now.nodes.items c.args.part.node (with_product (lists_of c.args.self.now.nodes.items c.args.part.node) c.args.part.row c.args.part.child z)) (sym (product_is g at.After-step_product));
      entries = refl;
      tree = refl;
      queue = same_few _ _ _ (ap (λ (q : ProductView g.row.R.Denot). length q.frontier) (product_is g at.After-step_product)) (passed_of g at.After-step_product).longer;
    }
