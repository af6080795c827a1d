use Rattle.std.proofs.Common.{◌≡◌, ◌≢◌, ℕ, ◌+◌, ◌*◌, ◌-◌, ◌<◌, ◌≤◌, [], length, get_or, refl, sym, ap, ◌∙◌, subst, arith}
use Rattle.tdp_model.specs.KeyTuple.{key_none}
use Rattle.suffix_streams.specs.NodeStreamsView.{known_of}
use Rattle.suffix_streams.specs.Rankings.{part_list}
use Rattle.suffix_streams.specs.TreeStreams.{IsSumOf, lists_of, products_of, part_known}
use Rattle.suffix_streams.proofs.Along.{along}
use Rattle.suffix_streams.proofs.Heads.{lists_at}
use Rattle.suffix_streams.proofs.reads.row_offer.Given.{Over}
use Rattle.suffix_streams.proofs.reads.row_offer.Goals.{After-child_count-count, then-count-eq0-via-then-count-eq0, then-count-eq0-via-else-count-eq0+then-known-next}
use Rattle.suffix_streams.proofs.Numbers.{in_same}
use Rattle.suffix_streams.proofs.reads.row_offer.Goals as goal

-- # Numbers

at_most : (k n m : ℕ) → k ≡ n → n ≡ m → k ≤ m
at_most k n m e f = omega arith

last_in : (k n : ℕ) → k ≡ n → k ≢ 0 → k - 1 < n
last_in k n e some = omega arith

last_is : (k : ℕ) → k ≢ 0 → k ≡ k - 1 + 1
last_is k some = omega arith

some_is : (k : ℕ) → k ≢ 0 → 1 ≤ k
some_is k some = omega arith

before_end : (k m n i : ℕ) → n ≡ i + 1 → m ≡ n → k ≡ m → k - 1 ≡ i
before_end k m n i e f h = omega arith

sum_steps : (s r k n m : ℕ) → r ≤ s + 3 → n ≡ m → k ≡ n → k ≢ 0 → r ≤ s + 3 * m
sum_steps s r k n m h e f some = omega arith

known_in : (p r a b d : ℕ) → p < r → r ≡ a → b ≡ a → b ≡ d → p < d
known_in p r a b d l e f h = omega arith

known_before : (p r a b d : ℕ) → r ≤ p → r ≡ a → b ≡ a → b ≡ d → d ≤ p
known_before p r a b d l e f h = omega arith

one_place : (p : ℕ) → 0 < p → 1 ≤ p
one_place p some = omega arith

few_steps : (s n : ℕ) → s ≤ s + n
few_steps s n = omega arith

-- # What the proofs share

module _ (g : Over) where
  lists : (c : After-child_count-count g) → lists_of c.args.nodes.now c.args.node ≡ c.index-nodes-node.result
  lists c = lists_at c.args.nodes.now c.args.node c.index-nodes-node.result c.index-nodes-node.is (in_same _ _ _ c.requires.node c.requires.formed.all_nodes)

  -- the row has as many products
  whole : (c : After-child_count-count g) → c.child_count-count.result ≡ length (products_of c.args.nodes.now c.args.node c.args.next.row)
  whole c = omega (arith, c.requires.opened, c.requires.formed.all_children c.args.node c.requires.node, ap (λ n. length n.children) (lists c), c.child_count-count.ensures)

pub known-requires : goal.known-requires
known-requires g c =
    let at = goal.at.known-requires g c in
    let same = lists g at.After-child_count-count in
    record { count = at_most _ _ _ (whole g at.After-child_count-count) (ap (λ n. length (get_or n.products c.args.next.row [])) same) }

pub known_sum-sum-requires-clause-child : goal.known_sum-sum-requires-clause-child
known_sum-sum-requires-clause-child g c =
    let at = goal.at.known_sum-sum-requires-clause-child g c in
    last_in _ _ (whole g at.After-child_count-count) c.if-count-eq0.false

pub known_sum-sum-requires-clause-place : goal.known_sum-sum-requires-clause-place
known_sum-sum-requires-clause-place g c =
    let at = goal.at.known_sum-sum-requires-clause-place g c in
    let n = c.args.nodes.now in
    let same = lists g at.After-child_count-count in
    let more : c.child_count-count.result ≡ c.child_count-count.result - 1 + 1 = last_is _ c.if-count-eq0.false in
    known_in _ _ _ _ _ c.if-known-next.false c.known.ensures (ap (λ m. known_of m c.args.next.row c.child_count-count.result) same) (ap (λ k. part_known n c.args.node c.args.next.row k) more)

pub offset_bounds-nodes-node : goal.offset_bounds-nodes-node
offset_bounds-nodes-node g c = omega (arith, c.requires.formed.all_nodes, c.requires.node)

pub bounds-nodes-node : goal.bounds-nodes-node
bounds-nodes-node g c = in_same _ _ _ c.requires.node c.requires.formed.all_nodes

pub overflow_sub-last : goal.overflow_sub-last
overflow_sub-last g c = some_is _ c.if-count-eq0.false

pub known_sum-sum-requires-clause-formed : goal.known_sum-sum-requires-clause-formed
known_sum-sum-requires-clause-formed g c = c.requires.formed

pub known_sum-sum-requires-clause-node : goal.known_sum-sum-requires-clause-node
known_sum-sum-requires-clause-node g c = c.requires.node

pub known_sum-sum-requires-clause-row : goal.known_sum-sum-requires-clause-row
known_sum-sum-requires-clause-row g c = c.requires.row

pub returns : goal.returns
returns g c =
    let at = goal.at.returns g c in
    record {
      none = tt;
      key =
          let last : c.child_count-count.result - 1 + 1 ≡ length (products_of c.args.nodes.now c.args.node c.args.next.row) = sym (last_is _ c.if-count-eq0.false) ∙ whole g at.After-child_count-count in
          along (λ k. g.R.Rank.key c.known_sum-sum.result.rank ≡ get_or (part_list g.R.Rank.KEYS g.R.Rank.key c.args.tree.now c.args.node c.args.next.row k) c.args.next.place (key_none g.R.Rank.KEYS 16)) (c.child_count-count.result - 1 + 1) (length (products_of c.args.nodes.now c.args.node c.args.next.row)) last c.known_sum-sum.ensures.key;
      parts =
          λ i kids.
          let last : c.child_count-count.result - 1 ≡ i = before_end _ _ _ _ kids c.requires.opened (whole g at.After-child_count-count) in
          subst (λ z. IsSumOf g.R.Rank.KEYS g.R.Rank.key c.args.tree.now c.args.entries.now.entries c.args.nodes.now c.args.node c.args.next.row z c.args.next.place c.known_sum-sum.result.tag) last c.known_sum-sum.ensures.sum;
      cost = sum_steps _ _ _ _ _ c.known_sum-sum.ensures.cost c.requires.opened (whole g at.After-child_count-count) c.if-count-eq0.false;
      known =
          let n = c.args.nodes.now in
          let same = lists g at.After-child_count-count in
          known_in _ _ _ _ _ c.if-known-next.false c.known.ensures (ap (λ m. known_of m c.args.next.row c.child_count-count.result) same) (ap (λ k. part_known n c.args.node c.args.next.row k) (whole g at.After-child_count-count));
      source = (refl, refl, refl, refl);
    }

pub returns-then-count-eq0 : goal.returns-then-count-eq0
returns-then-count-eq0 g c =
    record {
      none =
          let at = goal.at.returns-then-count-eq0 g c in
          let same = lists g at.After-child_count-count in
          let all = whole g at.After-child_count-count in
          elim c.then-count-eq0.branch [
            | then-count-eq0-via-then-count-eq0 w ↦ subst (λ k. part_known c.args.nodes.now c.args.node c.args.next.row k ≤ c.args.next.place) (sym w.if-count-eq0.true ∙ all) (one_place _ c.requires.place)
            | then-count-eq0-via-else-count-eq0+then-known-next w ↦ known_before _ _ _ _ _ w.if-known-next.true w.known.ensures (ap (λ m. known_of m c.args.next.row c.child_count-count.result) same) (ap (λ k. part_known c.args.nodes.now c.args.node c.args.next.row k) all)
          ];
      cost = few_steps _ _;
      known = tt;
      source = tt;
      key = tt;
      parts = tt;
    }
