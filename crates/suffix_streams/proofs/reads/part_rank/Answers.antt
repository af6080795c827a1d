use Rattle.std.proofs.Common.{◌≡◌, ◌≢◌, ℕ, zero, suc, ◌-◌, ◌<◌, ◌≤◌, List, [], length, get_or, sym, ap, ◌∙◌, subst, arith}
use Rattle.tdp_core.specs.TreeView.{NodeView}
use Rattle.tdp_model.specs.KeyTuple.{KeyOf}
use Rattle.suffix_streams.specs.NodeStreamsView.{NodeStreamsView, product_at}
use Rattle.suffix_streams.specs.TreeStreams.{AreLefts, part_known, product_of}
use Rattle.suffix_streams.proofs.Firsts.{own_at, known_key}
use Rattle.suffix_streams.proofs.Heads.{lists_at}
use Rattle.suffix_streams.proofs.Numbers.{in_equal}
use Rattle.suffix_streams.proofs.reads.part_rank.Goals as goal

-- # Numbers

one_before : (c : ℕ) → c ≢ 0 → c ≡ suc (c - 1)
one_before c some = omega arith

some_is : (c : ℕ) → c ≢ 0 → 1 ≤ c
some_is c some = omega arith

last_in : (c n m : ℕ) → c ≤ n → c ≢ 0 → n ≡ m → c - 1 < m
last_in c n m few some e = omega arith

-- # The rank of a known solution

-- the product before keeps the rank of a known solution
kept_at : {R : Type 0} (d : ℕ) (key : R → KeyOf d 16) (t : List (NodeView R)) (nodes : List (NodeStreamsView R)) (v r c b place : ℕ) → c ≡ suc b → AreLefts d key t nodes v r c → place < part_known nodes v r c → place < length (product_of nodes v r b).ranks
kept_at d key t nodes v r zero b place e h l = absurd (omega arith)
kept_at d key t nodes v r (suc c) b place e h l =
    let same : c ≡ b = omega arith in
    subst (λ b. place < length (product_of nodes v r b).ranks) same (omega (arith, l, h.0))

pub returns-then-count-eq0-clause-key : goal.returns-then-count-eq0-clause-key
returns-then-count-eq0-clause-key g c =
    own_at g.R.Rank.KEYS g.R.Rank.key c.args.tree.now c.requires.formed c.args.nodes.now c.args.node c.args.row c.args.count c.args.place _ c.requires.node c.if-count-eq0.true c.requires.place c.row_at.ensures.rank

pub returns-clause-key : goal.returns-clause-key
returns-clause-key g c =
    let e : c.args.count ≡ suc (c.args.count - 1) = one_before _ c.if-count-eq0.false in
    known_key g.R.Rank.KEYS g.R.Rank.key c.args.tree.now c.args.nodes.now c.args.node c.args.row c.args.count (c.args.count - 1) c.args.place c.rank.result e c.requires.lefts c.requires.place
    (λ (x : g.row.R.Denot). c.rank.ensures x ∙ ap (λ n. get_or (product_at n c.args.row (c.args.count - 1)).ranks c.args.place x) (sym (lists_at c.args.nodes.now c.args.node c.index-nodes-node.result c.index-nodes-node.is c.requires.all_nodes)))

pub row_at-requires-clause-node : goal.row_at-requires-clause-node
row_at-requires-clause-node g c = c.requires.node

pub row_at-requires-clause-row : goal.row_at-requires-clause-row
row_at-requires-clause-row g c = c.requires.row

pub offset_bounds-nodes-node : goal.offset_bounds-nodes-node
offset_bounds-nodes-node g c = omega (arith, c.requires.all_nodes)

pub bounds-nodes-node : goal.bounds-nodes-node
bounds-nodes-node g c = c.requires.all_nodes

pub overflow_sub-count : goal.overflow_sub-count
overflow_sub-count g c = some_is _ c.if-count-eq0.false

pub rank-requires-clause-child : goal.rank-requires-clause-child
rank-requires-clause-child g c =
    let same = lists_at c.args.nodes.now c.args.node c.index-nodes-node.result c.index-nodes-node.is c.requires.all_nodes in
    last_in _ _ _ c.requires.count c.if-count-eq0.false (ap (λ n. length (get_or n.products c.args.row [])) same)

pub rank-requires-clause-place : goal.rank-requires-clause-place
rank-requires-clause-place g c =
    let e : c.args.count ≡ suc (c.args.count - 1) = one_before _ c.if-count-eq0.false in
    let same = lists_at c.args.nodes.now c.args.node c.index-nodes-node.result c.index-nodes-node.is c.requires.all_nodes in
    let kept = kept_at g.R.Rank.KEYS g.R.Rank.key c.args.tree.now c.args.nodes.now c.args.node c.args.row c.args.count (c.args.count - 1) c.args.place e c.requires.lefts c.requires.place in
    in_equal _ _ _ kept (ap (λ n. length (product_at n c.args.row (c.args.count - 1)).ranks) same)
