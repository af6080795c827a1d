use Rattle.std.proofs.Common.{◌≡◌, ◌≢◌, List, suc, ◌+◌, ◌-◌, ◌<◌, option_map, length, take, slice_index}
use Rattle.std.proofs.Common.{sym, ap, ◌∙◌, subst, arith}
use Rattle.anyk_model.specs.Query.{Query}
use Rattle.anyk_model.specs.Table.{Table}
use Rattle.tdp_model.specs.KeyTuple.{key_add}
use Rattle.rank_key.specs.Keys.{KeyFits}
use Rattle.tdp_core.specs.RawView.{IsRawFormed, raw_len, raw_number, raw_rank}
use Rattle.proof_model.specs.QueryProblem.{problem_in}
use Rattle.proof_check.specs.BoundedRows.{named_bound, rank_of_bound}
use Rattle.proof_check.specs.LowBounds.{IsLow}
use Rattle.proof_check.proofs.LowKeys.{low_none, low_some}
use Rattle.proof_check.proofs.LowParts.{AreNamed, low_part, part_none, part_child, part_other}
use Rattle.proof_check.proofs.LowParts.{named_found, named_more, low_fits}
use Rattle.proof_check.proofs.Nodes.{all_nodes, stored_parent, parents_earlier, option_none}
use Rattle.proof_check.proofs.covering.low_bound.Given.{Over}
use Rattle.proof_check.proofs.Counts.{at_list, below_count, ended_from}
use Rattle.proof_check.proofs.covering.low_bound.Goals as goal
use Rattle.proof_check.proofs.covering.low_bound.Goals.{At-loop-child, In-loop-child, then-join-child+in_ok-bound, else-join-child}

-- # What the proofs share, of each query and its tables

module _ (g : Over) where
  -- the row's node is one of the problem's
  node_in : (c : At-loop-child g) (query : Query) (tables : List Table) → c.args.node < (problem_in query tables c.args.join.now).nodes
  node_in c query tables =
      let long : length c.args.join.now.atom ≡ 16 = omega arith in
      at_list _ _ _ c.requires.node (all_nodes query tables c.args.join.now c.requires.ordered long)

  -- and so is the child
  child_in : (c : In-loop-child g) (query : Query) (tables : List Table) → length c.args.tree.now.raw.shapes ≡ (problem_in query tables c.args.join.now).nodes
      → c.loop-child.child < (problem_in query tables c.args.join.now).nodes
  child_in c query tables all =
      below_count _ _ _ c.loop-child-test.true (c.nodes-nodes.ensures.count ∙ ap (λ z. length z.raw.shapes) c.tree.view_is ∙ all)

  -- whose parent the tree names
  parent_is : (c : In-loop-child g) (query : Query) (tables : List Table) → c.loop-child.child < (problem_in query tables c.args.join.now).nodes
      → (problem_in query tables c.args.join.now).parent c.loop-child.child ≡ slice_index c.args.join.now.parent c.loop-child.child
  parent_is c query tables l =
      let long : length c.args.join.now.atom ≡ 16 = omega arith in
      stored_parent query tables c.args.join.now c.loop-child.child l

pub loop-child-init : goal.loop-child-init
loop-child-init g c =
    let d = g.R.Rank.KEYS in let key = g.R.Rank.key in let v = c.args.node in let i = c.args.row in
    let up = slice_index (take c.args.join.now.count c.args.join.now.parent) in
    let zero : v + 1 - suc v ≡ 0 = omega arith in
    let rank : key c.row-low.result.rank ≡ raw_rank c.args.tree.now.raw d key v i =
    subst (λ z. key c.row-low.result.rank ≡ raw_rank z.raw d key v i) c.tree.view_is c.row-low.ensures.rank in
    record {
      named = λ q a b u. absurd (omega (arith, a, b));
      sum = rank ∙ sym (part_none d key c.args.tree.now up v i) ∙ ap (low_part d key c.args.tree.now up v i) (sym zero);
    }

pub row-low-requires-clause-row : goal.row-low-requires-clause-row
row-low-requires-clause-row g c = subst (λ z. c.args.row < raw_len z.raw c.args.node) (sym c.tree.view_is) c.requires.row

pub named_rank-requires-clause-node : goal.named_rank-requires-clause-node
named_rank-requires-clause-node g c =
    let b = c.requires.bounded in
    let point = goal.at.named_rank-requires-clause-node g c in
    at_list _ _ _ (child_in g point.In-loop-child b.query b.tables b.bounded.rows.nodes) b.bounded.each_node

pub named_rank-requires-clause-above : goal.named_rank-requires-clause-above
named_rank-requires-clause-above g c =
    let b = c.requires.bounded in let q = c.loop-child.child in
    let point = goal.at.named_rank-requires-clause-above g c in
    let l = child_in g point.In-loop-child b.query b.tables b.bounded.rows.nodes in
    let is = parent_is g point.In-loop-child b.query b.tables l ∙ c.if-join-child.true in
    let p : 0 < q = omega (arith, c.loop-child.auto.child) in
    subst (λ n. c.args.row < n)
    (sym (b.bounded.named_length q p l ∙ ap (raw_len c.args.tree.now.raw) is)) c.requires.row

pub named_rank-requires-clause-each : goal.named_rank-requires-clause-each
named_rank-requires-clause-each g c number named =
    let b = c.requires.bounded in let q = c.loop-child.child in
    let point = goal.at.named_rank-requires-clause-each g c in
    let l = child_in g point.In-loop-child b.query b.tables b.bounded.rows.nodes in
    let is = parent_is g point.In-loop-child b.query b.tables l ∙ c.if-join-child.true in
    let p : 0 < q = omega (arith, c.loop-child.auto.child) in
    (b.bounded.named_is q c.args.row number p l
    (subst (λ w. c.args.row < raw_len c.args.tree.now.raw w) (sym is) c.requires.row) named).0

pub returns-in_err-bound : goal.returns-in_err-bound
returns-in_err-bound g c query tables cert few bounded =
    let join = c.args.join.now in let tree = c.args.tree.now in let d = g.R.Rank.KEYS in
    let key = g.R.Rank.key in let v = c.args.node in let q = c.loop-child.child in
    let point = goal.at.returns-in_err-bound g c in
    let l = child_in g point.In-loop-child query tables bounded.rows.nodes in
    let is = parent_is g point.In-loop-child query tables l ∙ c.if-join-child.true in
    let gone = option_none (rank_of_bound tree d key q) (named_bound tree q c.args.row) c.in_err-bound.ensures in
    subst (λ r. IsLow query tables join d cert v (raw_number tree.raw v c.args.row) (option_map key r))
    (sym c.from_residual.ensures)
    (low_none query tables join d key cert tree few bounded v c.args.row (node_in g point.At-loop-child query tables) c.requires.row q
    (let far = c.loop-child.auto.child in omega (arith, far)) l is gone)

pub join-low-requires : goal.join-low-requires
join-low-requires g c =
    let b = c.requires.bounded in let join = c.args.join.now in let tree = c.args.tree.now in
    let d = g.R.Rank.KEYS in let key = g.R.Rank.key in let v = c.args.node in let i = c.args.row in
    let q = c.loop-child.child in
    let up = slice_index (take join.count join.parent) in
    let long : length join.atom ≡ 16 = omega arith in
    let point = goal.at.join-low-requires g c in
    let l = child_in g point.In-loop-child b.query b.tables b.bounded.rows.nodes in
    let is = parent_is g point.In-loop-child b.query b.tables l ∙ c.if-join-child.true in
    let node = node_in g point.At-loop-child b.query b.tables in
    let n = q - suc v in
    let at : q ≡ suc v + n = omega (arith, c.loop-child.auto.child) in
    let found = named_found d key tree up v i q (key c.in_ok-bound.bound) c.in_ok-bound.ensures in
    let all = named_more d key tree up v i n q at c.loop-child.invariant.named (λ u. found.0) in
    let formed : IsRawFormed d key tree.raw =
    subst (λ z. IsRawFormed d key z.raw) c.tree.view_is c.nodes-nodes.ensures.formed in
    let fits = low_fits b.query b.tables join d key b.c tree b.few b.bounded
    (parents_earlier b.query b.tables join c.requires.ordered) formed v i (suc n) node c.requires.row all
    (omega (arith, at, l)) in
    subst (λ k. KeyFits d key (key_add d 16 k (key c.in_ok-bound.bound))) (sym c.loop-child.invariant.sum)
    (subst (λ k. KeyFits d key (key_add d 16 (low_part d key tree up v i n) k)) (sym found.1)
    (subst (KeyFits d key) (part_child d key tree up v i n q at is) fits))

pub loop-child-preserved : goal.loop-child-preserved
loop-child-preserved g c =
    let b = c.requires.bounded in let join = c.args.join.now in let tree = c.args.tree.now in
    let d = g.R.Rank.KEYS in let key = g.R.Rank.key in let v = c.args.node in let i = c.args.row in
    let q = c.loop-child.child in
    let up = slice_index (take join.count join.parent) in
    let point = goal.at.loop-child-preserved g c in
    let above = parent_is g point.In-loop-child b.query b.tables (child_in g point.In-loop-child b.query b.tables b.bounded.rows.nodes) in
    let far = c.loop-child.auto.child in
    let n = q - suc v in
    let at : q ≡ suc v + n = omega (arith, far) in
    let more : q + 1 - suc v ≡ suc n = omega (arith, far) in
    elim c.if-join-child.branch [
      | then-join-child+in_ok-bound w ↦
          let found = named_found d key tree up v i q (key w.in_ok-bound.bound) w.in_ok-bound.ensures in
          record {
            named = subst (AreNamed d key tree up v i) (sym more)
                (named_more d key tree up v i n q at c.loop-child.invariant.named (λ u. found.0));
            sum = ap key w.low-is ∙ w.join-low.ensures.sum
                ∙ ap (λ k. key_add d 16 k (key w.in_ok-bound.bound)) c.loop-child.invariant.sum
                ∙ ap (λ k. key_add d 16 (low_part d key tree up v i n) k) found.1
                ∙ sym (part_child d key tree up v i n q at (above ∙ w.if-join-child.true)) ∙ ap (low_part d key tree up v i) (sym more);
          }
      | else-join-child w ↦
          let other : up q ≢ v = λ e. w.if-join-child.false (sym above ∙ e) in
          record {
            named = subst (AreNamed d key tree up v i) (sym more)
                (named_more d key tree up v i n q at c.loop-child.invariant.named (λ u. absurd (other u)));
            sum = ap key w.low-is ∙ c.loop-child.invariant.sum
                ∙ sym (part_other d key tree up v i n q at other) ∙ ap (low_part d key tree up v i) (sym more);
          }
    ]

pub returns : goal.returns
returns g c query tables cert few bounded =
    let join = c.args.join.now in let tree = c.args.tree.now in let d = g.R.Rank.KEYS in
    let key = g.R.Rank.key in let v = c.args.node in let i = c.args.row in
    let node = node_in g (goal.at.returns g c).At-loop-child query tables in
    let done : c.loop-child.child ≡ (problem_in query tables join).nodes =
    ended_from _ v _ _ c.loop-child.auto.child-end c.loop-child-test.false node
    (c.nodes-nodes.ensures.count ∙ ap (λ z. length z.raw.shapes) c.tree.view_is ∙ bounded.rows.nodes) in
    let up = slice_index (take join.count join.parent) in
    low_some query tables join d key cert tree few bounded v i node c.requires.row (key c.loop-child.low)
    (subst (λ m. AreNamed d key tree up v i (m - suc v)) done c.loop-child.invariant.named)
    (subst (λ m. key c.loop-child.low ≡ low_part d key tree up v i (m - suc v)) done c.loop-child.invariant.sum)
