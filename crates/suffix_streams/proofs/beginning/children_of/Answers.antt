use Rattle.std.proofs.Common.{◌≡◌, ℕ, suc, ◌+◌, ◌<◌, ◌≤◌, ◌∷◌, [], ◌++◌, Vec, length, get_or, sym, ap, ◌∙◌, arith}
use Rattle.tdp_core.specs.declared.parts.NodeShape.{NodeShape}
use Rattle.tdp_core.specs.TreeView.{parent, kids_below}
use Rattle.suffix_streams.specs.Rankings.{child_among}
use Rattle.suffix_streams.proofs.BeginChildren.{no_kids_before, each_more, each_other}
use Rattle.suffix_streams.proofs.beginning.children_of.Goals as goal
use Rattle.suffix_streams.proofs.beginning.children_of.Goals.{then-shape-node+in_ok-push, else-shape-node}

one_suc : (v : ℕ) → v + 1 ≤ suc v
one_suc v = omega arith

next_within : (v n : ℕ) → v < n → v + 1 ≤ n
next_within v n l = omega arith

no_kid : {P : Type 0} (k n : ℕ) → k < n → n ≡ 0 → P
no_kid k n l none = absurd (omega (arith, l, none))

some_before : (v u : ℕ) → v + 1 ≤ u → 0 < u
some_before v u l = omega arith

at_end : (i v n m : ℕ) → m ≤ i → (v + 1 ≤ m → i ≤ m) → m ≡ n → v < n → i ≡ n
at_end i v n m a b e l = let h : i ≤ m = b (omega (arith, e, l)) in omega (arith, a, h, e)

among : (k n m : ℕ) → k < n → m ≡ n → k < m
among k n m l e = omega arith

pub loop-child-init : goal.loop-child-init
loop-child-init g c =
    let none = no_kids_before (parent c.args.tree.now) (length c.args.tree.now) c.args.node (c.args.node + 1) c.nodes-nodes.ensures.formed.shaped.parents_first (one_suc _) (next_within _ _ c.requires) in record {
      count = ap length c.new-children.ensures.items ∙ sym none;
      each = λ k l. no_kid _ _ l none;
    }

pub loop-child-preserved : goal.loop-child-preserved
loop-child-preserved g c =
    let t = c.args.tree.now in
    let n = c.loop-child.child in
    let shape : (parent t n) ≡ c.shape.result.now.parent = ap (λ (s : NodeShape). s.parent) (sym c.shape.ensures) in
    elim c.if-shape-node.branch [
      | then-shape-node+in_ok-push w ↦
          let kid : parent t n ≡ c.args.node = shape ∙ w.if-shape-node.true in
          let more = each_more t c.args.node n c.loop-child.children.items c.loop-child.invariant.count (some_before _ _ c.loop-child.auto.child) kid c.loop-child.invariant.each in
          let same : c.if-shape-node.children.items ≡ c.loop-child.children.items ++ (n ∷ []) = ap (λ (v : Vec ℕ g.row.A.Denot). v.items) w.children-is ∙ w.in_ok-push.ensures.items in
          record { count = ap length same ∙ more.0; each = λ k l. ap (λ z. get_or z k 0) same ∙ more.1 k l }
      | else-shape-node w ↦
          let more = each_other t c.args.node n c.loop-child.children.items c.loop-child.invariant.count (λ e. w.if-shape-node.false (sym shape ∙ e)) c.loop-child.invariant.each in
          let same : c.if-shape-node.children.items ≡ c.loop-child.children.items = ap (λ (v : Vec ℕ g.row.A.Denot). v.items) w.children-is in
          record { count = ap length same ∙ more.0; each = λ k l. ap (λ z. get_or z k 0) same ∙ more.1 k l }
    ]

pub returns : goal.returns
returns g c =
    let all : c.loop-child.child ≡ length c.args.tree.now = at_end _ _ _ _ c.loop-child-test.false c.loop-child.auto.child-end c.nodes-nodes.ensures.count c.requires in
    let same = ap (kids_below (parent c.args.tree.now) c.args.node) all in
    record {
      count = c.loop-child.invariant.count ∙ same;
      each = λ k l. c.loop-child.invariant.each k (among _ _ _ l same) ∙ ap (child_among (parent c.args.tree.now) c.args.node k) all;
    }
