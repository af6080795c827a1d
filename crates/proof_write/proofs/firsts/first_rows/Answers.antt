use Rattle.std.proofs.Common.{◌<◌, length, sym, subst, ap}
use Rattle.tdp_core.specs.TreeView.{item, parent, rows}
use Rattle.tdp_core.proofs.TreeFacts.{member_is_row}
use Rattle.proof_write.proofs.ChosenDown.{chosen_all, chosen_start, chosen_under, next_none, next_some}
use Rattle.tdp_core.proofs.LoopCounts.{below_count, ended_after, no_more, past_it, past_none, place_fits, place_fits_4, then_less, within_few}
use Rattle.proof_write.proofs.firsts.first_rows.Goals as goal
use Rattle.proof_write.proofs.firsts.first_rows.Goals.{in-Some, in_default}

pub row_at-requires-clause-row : goal.row_at-requires-clause-row
row_at-requires-clause-row g c =
    let t = c.args.tree.now in
    let v = c.args.node in
    let formed = c.nodes-nodes.ensures.formed in
    let full = formed.inhabited v c.args.group c.requires.node c.requires.group in
    subst (λ x. x < rows t v) (sym c.member-top.ensures.member)
    (member_is_row g.R.Rank.KEYS g.R.Rank.key t formed v c.args.group 0 c.requires.node full)

pub loop-below-init : goal.loop-below-init
loop-below-init g c =
    let t = c.args.tree.now in
    let v = c.args.node in
    let d = g.R.Rank.KEYS in
    let key = g.R.Rank.key in
    let formed = c.nodes-nodes.ensures.formed in
    let inside = subst (λ x. x < rows t v) (sym c.member-top.ensures.member)
    (member_is_row d key t formed v c.args.group 0 c.requires.node (formed.inhabited v c.args.group c.requires.node c.requires.group)) in
    let start = chosen_start d key t formed v c.args.group c.requires.node c.member-top.result c.member-top.ensures.member inside in
    rw (ap (λ s. s.item) c.shape.ensures, c.row_at.ensures.number) start

pub loop-below-preserved : goal.loop-below-preserved
loop-below-preserved g c =
    let t = c.args.tree.now in
    let v = c.args.node in
    let d = g.R.Rank.KEYS in
    let key = g.R.Rank.key in
    let formed = c.nodes-nodes.ensures.formed in
    let so_far = c.loop-below.invariant in
    let n = c.loop-below.below in
    let after : v < n = past_it _ _ c.loop-below.auto.below in
    let l : n < length t = below_count _ _ _ c.loop-below-test.true c.nodes-nodes.ensures.count in
    let old = c.loop-below.chosen in
    let first = c.first_below.ensures.first in
    elim c.match-first_below.branch [
      | in-Some w ↦
          let row = w.in-Some.row in
          let next = next_some d key t formed v c.args.group c.requires.node n old c.loop-below.rows
          so_far after l c.first_below.result first row w.in-Some.is w.in-Some.ensures.inside in
          rw (w.chosen-is, w.rows-is, ap (λ s. s.item) w.shape-in-Some.ensures, w.row_at-in-Some.ensures.number) next
      | in_default w ↦
          rw (w.chosen-is, w.rows-is)
          (next_none d key t formed v c.args.group c.requires.node n old c.loop-below.rows
          so_far after l c.first_below.result first w.in_default.is)
    ]

pub returns : goal.returns
returns g c =
    let all = ended_after _ _ _ _ c.loop-below.auto.below-end c.loop-below-test.false c.requires.node c.nodes-nodes.ensures.count in
    chosen_all g.R.Rank.KEYS g.R.Rank.key c.args.tree.now c.nodes-nodes.ensures.formed
    c.args.node c.args.group c.requires.node
    c.loop-below.below c.loop-below.chosen c.loop-below.rows c.loop-below.invariant all

pub first_below-requires-clause-rows : goal.first_below-requires-clause-rows
first_below-requires-clause-rows g c row is =
    let t = c.args.tree.now in
    let v = c.args.node in
    let n = c.loop-below.below in
    let formed = c.nodes-nodes.ensures.formed in
    let after : v < n = past_it _ _ c.loop-below.auto.below in
    let l : n < length t = below_count _ _ _ c.loop-below-test.true c.nodes-nodes.ensures.count in
    let low = formed.shaped.parents_first n (past_none _ _ c.loop-below.auto.below) l in
    (chosen_under g.R.Rank.KEYS g.R.Rank.key t formed v c.args.group c.requires.node n
    c.loop-below.chosen c.loop-below.rows c.loop-below.invariant
    (parent t n) row low (then_less _ _ _ low l) is).1

pub first_below-requires-clause-formed : goal.first_below-requires-clause-formed
first_below-requires-clause-formed g c = c.nodes-nodes.ensures.formed

pub first_below-requires-clause-below : goal.first_below-requires-clause-below
first_below-requires-clause-below g c = past_none _ _ c.loop-below.auto.below

pub first_below-requires-clause-node : goal.first_below-requires-clause-node
first_below-requires-clause-node g c = below_count _ _ _ c.loop-below-test.true c.nodes-nodes.ensures.count

pub member-top-requires-clause-place : goal.member-top-requires-clause-place
member-top-requires-clause-place g c = c.nodes-nodes.ensures.formed.inhabited c.args.node c.args.group c.requires.node c.requires.group

pub bounds-rows-shape : goal.bounds-rows-shape
bounds-rows-shape g c =
    subst (λ s. s.item < 16) (sym c.shape.ensures) (c.nodes-nodes.ensures.formed.shaped.items c.args.node c.requires.node)

pub bounds-chosen-below : goal.bounds-chosen-below
bounds-chosen-below g c =
    within_few _ _ 16 (below_count _ _ _ c.loop-below-test.true c.nodes-nodes.ensures.count) c.nodes-nodes.ensures.formed.shaped.few_nodes

pub bounds-rows-shape-in-Some : goal.bounds-rows-shape-in-Some
bounds-rows-shape-in-Some g c =
    let l : c.loop-below.below < length c.args.tree.now = below_count _ _ _ c.loop-below-test.true c.nodes-nodes.ensures.count in
    subst (λ s. s.item < 16) (sym c.shape-in-Some.ensures) (c.nodes-nodes.ensures.formed.shaped.items c.loop-below.below l)

pub row_at-requires-in-Some-clause-node : goal.row_at-requires-in-Some-clause-node
row_at-requires-in-Some-clause-node g c = below_count _ _ _ c.loop-below-test.true c.nodes-nodes.ensures.count

pub row_at-requires-in-Some-clause-row : goal.row_at-requires-in-Some-clause-row
row_at-requires-in-Some-clause-row g c = c.in-Some.ensures.inside

pub overflow_cast-chosen-in-Some : goal.overflow_cast-chosen-in-Some
overflow_cast-chosen-in-Some g c =
    place_fits _ _ (below_count _ _ _ c.loop-below-test.true c.nodes-nodes.ensures.count) c.nodes-nodes.ensures.formed.shaped.few_nodes

pub offset_bounds-rows-shape-in-Some : goal.offset_bounds-rows-shape-in-Some
offset_bounds-rows-shape-in-Some g c = place_fits_4 _ 16 (bounds-rows-shape-in-Some g c) (no_more 16)
