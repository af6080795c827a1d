use Rattle.std.proofs.Common.{◌≡◌, ℕ, suc, ◌+◌, ◌*◌, ◌<◌, ◌≤◌, true, ltb, cond, [], ◌∷◌, length, sym, ap, ◌∙◌, subst, arith}
use Rattle.std.proofs.lemmas.Bool.{lt-ltb}
use Rattle.tdp_core.specs.TreeView.{child_count, group_named, parent}
use Rattle.tdp_core.proofs.Children.{kids_below_most}
use Rattle.suffix_streams.specs.Rankings.{child}
use Rattle.suffix_streams.specs.TreeStreams.{stream_of, AreFreshTo}
use Rattle.suffix_streams.proofs.Along.{along}
use Rattle.suffix_streams.proofs.Rankings.{own_first}
use Rattle.suffix_streams.proofs.Firsts.{first_longer, firsts_fit}
use Rattle.suffix_streams.proofs.Errors.{none_given}
use Rattle.suffix_streams.proofs.Heads.{children_count, head_key, product_made}
use Rattle.suffix_streams.proofs.Numbers.{in_same, no_steps, child_fits}
use Rattle.suffix_streams.proofs.reads.make_products.Goals as goal

-- # Numbers

no_less : (i : ℕ) → i < 0 → ⊥
no_less i l = omega arith

in_kids : (i n m k : ℕ) → i < n → n ≡ m → m ≡ k → i < k
in_kids i n m k l e f = omega arith

not_last : (i n m k : ℕ) → suc i < k → n ≡ m → m ≡ k → i + 1 < n
not_last i n m k l e f = omega arith

at_end : (i n m k : ℕ) → n ≤ i → i ≤ n → n ≡ m → m ≡ k → i ≡ k
at_end i n m k a b e f = omega arith

first_steps : (s s1 : ℕ) → s1 ≡ s + 1 → s1 ≡ s + 1 + 3 * 0
first_steps s s1 e = omega arith

all_steps : (s l i n : ℕ) → i ≡ n → l ≡ s + 1 + 3 * i → l ≤ s + 1 + 3 * n
all_steps s l i n e f = omega arith

child_steps : (s l s1 s2 s3 i n : ℕ) → i < n → l ≡ s + 1 + 3 * i → s1 ≡ l + 1 → s2 ≡ s1 + 1 → s3 ≡ s2 + 1 → s3 ≤ s + 1 + 3 * n
child_steps s l s1 s2 s3 i n within start head read joined = omega arith

next_child : (s l s1 s2 s3 i : ℕ) → l ≡ s + 1 + 3 * i → s1 ≡ l + 1 → s2 ≡ s1 + 1 → s3 ≡ s2 + 1 → s3 ≡ s + 1 + 3 * (i + 1)
next_child s l s1 s2 s3 i start head read joined = omega arith

pub returns-in_err-products : goal.returns-in_err-products
returns-in_err-products g c =
    record { fresh = none_given _ c.from_residual.result c.from_residual.ensures.0; cost = no_steps _ _ }

pub loop-child-init : goal.loop-child-init
loop-child-init g c = record {
  key = c.row_at-rank.ensures.rank ∙ sym (own_first g.R.Rank.KEYS g.R.Rank.key c.args.tree.now c.requires.formed c.args.node c.args.row c.requires.node);
  fresh = record { count = ap length c.in_ok-products.ensures.items; first = λ i p l. absurd (no_less i l) };
  steps = first_steps _ _ c.row_at-rank.ensures.counted;
}

pub join-rank-requires : goal.join-rank-requires
join-rank-requires g c =
    let kids : length c.index-nodes-node.result.children ≡ child_count c.args.tree.now c.args.node = children_count g.R.Rank.KEYS g.R.Rank.key c.args.tree.now c.args.entries.now.entries c.args.nodes.now c.args.node c.args.row c.index-nodes-node.result c.requires.headed c.requires.node c.index-nodes-node.is in
    let kid_in : c.loop-child.child < child_count c.args.tree.now c.args.node = in_kids _ _ _ _ c.loop-child-test.true c.child_count-children.ensures kids in
    let k = head_key g.R.Rank.KEYS g.R.Rank.key c.args.entries.now.entries (stream_of c.args.nodes.now (child c.args.tree.now c.args.node c.loop-child.child) (group_named c.args.tree.now c.args.node c.args.row c.loop-child.child)).head c.child_head-head.result c.get.result.now _ c.child_head-head.ensures.head c.get.ensures.value (c.requires.headed.keys c.loop-child.child kid_in) in
    firsts_fit g.R.Rank.KEYS g.R.Rank.key c.args.tree.now c.requires.formed c.requires.tie_free c.args.node c.args.row c.loop-child.child _ _ c.requires.node c.requires.row kid_in c.loop-child.invariant.key k

pub loop-child-preserved : goal.loop-child-preserved
loop-child-preserved g c =
    let kids : length c.index-nodes-node.result.children ≡ child_count c.args.tree.now c.args.node = children_count g.R.Rank.KEYS g.R.Rank.key c.args.tree.now c.args.entries.now.entries c.args.nodes.now c.args.node c.args.row c.index-nodes-node.result c.requires.headed c.requires.node c.index-nodes-node.is in
    let kid_in : c.loop-child.child < child_count c.args.tree.now c.args.node = in_kids _ _ _ _ c.loop-child-test.true c.child_count-children.ensures kids in
    let k = head_key g.R.Rank.KEYS g.R.Rank.key c.args.entries.now.entries (stream_of c.args.nodes.now (child c.args.tree.now c.args.node c.loop-child.child) (group_named c.args.tree.now c.args.node c.args.row c.loop-child.child)).head c.child_head-head.result c.get.result.now _ c.child_head-head.ensures.head c.get.ensures.value (c.requires.headed.keys c.loop-child.child kid_in) in
    let longer = first_longer g.R.Rank.KEYS g.R.Rank.key c.args.tree.now c.requires.formed c.requires.tie_free c.args.node c.args.row c.loop-child.child _ _ (g.R.Rank.key c.join-rank.result) c.requires.node c.requires.row kid_in c.loop-child.invariant.key k c.join-rank.ensures.sum in
    record {
      key = longer;
      fresh = product_made g.R.Rank.KEYS g.R.Rank.key c.args.tree.now c.args.nodes.now c.args.node c.args.row c.loop-child.child c.child_head-head.result c.loop-child.products.items _ c.in_ok-product.product c.join-rank.result c.loop-child.invariant.fresh c.in_ok-push.ensures.items c.in_ok-product.ensures.found c.in_ok-product.ensures.frontier c.child_head-head.ensures.head longer (λ few. along (λ b. c.in_ok-product.product.ranks ≡ cond b (c.join-rank.result ∷ []) []) (ltb (c.loop-child.child + 1) c.child_count-children.result) true (lt-ltb (c.loop-child.child + 1) c.child_count-children.result (not_last _ _ _ _ few c.child_count-children.ensures kids)) c.in_ok-product.ensures.ranks);
      steps = next_child _ _ _ _ _ _ c.loop-child.invariant.steps c.child_head-head.ensures.cost c.get.ensures.cost c.join-rank.ensures.counted;
    }

pub bounds-nodes-node : goal.bounds-nodes-node
bounds-nodes-node g c =
    in_same _ _ _ c.requires.node c.requires.headed.all_nodes

pub row_at-rank-requires-clause-node : goal.row_at-rank-requires-clause-node
row_at-rank-requires-clause-node g c =
    c.requires.node

pub row_at-rank-requires-clause-row : goal.row_at-rank-requires-clause-row
row_at-rank-requires-clause-row g c =
    c.requires.row

pub child_head-head-requires-clause-formed : goal.child_head-head-requires-clause-formed
child_head-head-requires-clause-formed g c =
    c.requires.formed

pub child_head-head-requires-clause-node : goal.child_head-head-requires-clause-node
child_head-head-requires-clause-node g c =
    c.requires.node

pub child_head-head-requires-clause-row : goal.child_head-head-requires-clause-row
child_head-head-requires-clause-row g c =
    c.requires.row

pub child_head-head-requires-clause-child : goal.child_head-head-requires-clause-child
child_head-head-requires-clause-child g c =
    let kids : length c.index-nodes-node.result.children ≡ child_count c.args.tree.now c.args.node = children_count g.R.Rank.KEYS g.R.Rank.key c.args.tree.now c.args.entries.now.entries c.args.nodes.now c.args.node c.args.row c.index-nodes-node.result c.requires.headed c.requires.node c.index-nodes-node.is in
    in_kids _ _ _ _ c.loop-child-test.true c.child_count-children.ensures kids

pub child_head-head-requires-clause-headed : goal.child_head-head-requires-clause-headed
child_head-head-requires-clause-headed g c =
    c.requires.headed

pub returns-in_err-product : goal.returns-in_err-product
returns-in_err-product g c =
    record {
      fresh = none_given _ c.from_residual-in_err-product.result c.from_residual-in_err-product.ensures.0;
      cost =
          let kids : length c.index-nodes-node.result.children ≡ child_count c.args.tree.now c.args.node = children_count g.R.Rank.KEYS g.R.Rank.key c.args.tree.now c.args.entries.now.entries c.args.nodes.now c.args.node c.args.row c.index-nodes-node.result c.requires.headed c.requires.node c.index-nodes-node.is in
          let kid_in : c.loop-child.child < child_count c.args.tree.now c.args.node = in_kids _ _ _ _ c.loop-child-test.true c.child_count-children.ensures kids in
          child_steps _ _ _ _ _ _ _ kid_in c.loop-child.invariant.steps c.child_head-head.ensures.cost c.get.ensures.cost c.join-rank.ensures.counted;
    }

pub returns-in_err-push : goal.returns-in_err-push
returns-in_err-push g c =
    record {
      fresh = none_given _ c.from_residual-in_err-push.result c.from_residual-in_err-push.ensures.0;
      cost =
          let kids : length c.index-nodes-node.result.children ≡ child_count c.args.tree.now c.args.node = children_count g.R.Rank.KEYS g.R.Rank.key c.args.tree.now c.args.entries.now.entries c.args.nodes.now c.args.node c.args.row c.index-nodes-node.result c.requires.headed c.requires.node c.index-nodes-node.is in
          let kid_in : c.loop-child.child < child_count c.args.tree.now c.args.node = in_kids _ _ _ _ c.loop-child-test.true c.child_count-children.ensures kids in
          child_steps _ _ _ _ _ _ _ kid_in c.loop-child.invariant.steps c.child_head-head.ensures.cost c.get.ensures.cost c.join-rank.ensures.counted;
    }

pub returns : goal.returns
returns g c =
    let kids : length c.index-nodes-node.result.children ≡ child_count c.args.tree.now c.args.node = children_count g.R.Rank.KEYS g.R.Rank.key c.args.tree.now c.args.entries.now.entries c.args.nodes.now c.args.node c.args.row c.index-nodes-node.result c.requires.headed c.requires.node c.index-nodes-node.is in
    let end : c.loop-child.child ≡ child_count c.args.tree.now c.args.node = at_end _ _ _ _ c.loop-child-test.false c.loop-child.auto.child-end c.child_count-children.ensures kids in
    record {
      fresh = subst (λ n. AreFreshTo g.R.Rank.KEYS g.R.Rank.key c.args.tree.now c.args.nodes.now c.args.node c.args.row n c.loop-child.products.items) end c.loop-child.invariant.fresh;
      cost = all_steps _ _ _ _ end c.loop-child.invariant.steps;
    }

pub overflow_add-child : goal.overflow_add-child
overflow_add-child g c =
    let kids : length c.index-nodes-node.result.children ≡ child_count c.args.tree.now c.args.node = children_count g.R.Rank.KEYS g.R.Rank.key c.args.tree.now c.args.entries.now.entries c.args.nodes.now c.args.node c.args.row c.index-nodes-node.result c.requires.headed c.requires.node c.index-nodes-node.is in
    child_fits _ _ _ (in_kids _ _ _ _ c.loop-child-test.true c.child_count-children.ensures kids) (kids_below_most (parent c.args.tree.now) c.args.node (length c.args.tree.now)) c.requires.formed.shaped.few_nodes
