use Rattle.std.proofs.Common.{◌≡◌, ◌+◌, ◌*◌, ◌<◌, ◌≤◌, ℕ, List, length, get_or, replicate, take, refl, sym, ap, subst, ◌∙◌, arith}
use Rattle.std.proofs.Math.ListN.{set}
use Rattle.std.proofs.lemmas.List.{get_or-replicate, length-set}
use Rattle.tdp_model.specs.KeyTuple.{slot_of}
use Rattle.tdp_core.specs.TreeView.{item, best}
use Rattle.tree_dp.proofs.FirstWalk.{least_with, key_of_rows, no_slots, root_lives, walk_begins, walk_goes_on, reached_kept, slots_go_on, walk_ends}
use Rattle.tdp_core.proofs.LoopCounts.{at_list, below_count, ended_some, within_few}
use Rattle.tree_dp.proofs.first_answer.best_rows.Goals as goal

-- the steps of a walk, three for each node but the first
walk_steps : (n start s below after : ℕ) → s + 3 ≤ start + 3 * n → below ≤ s + 2 → after ≡ below + 1 → after + 3 ≤ start + 3 * (n + 1)
walk_steps n start s below after h two one = omega (arith, h, two, one)

walk_end : (n m start first s : ℕ) → first ≡ start + 1 → s + 3 ≤ first + 3 * n → n ≡ m → s + 2 ≤ start + 3 * m
walk_end n m start first s one h e = omega (arith, one, h, e)

pub bounds-rows-shape : goal.bounds-rows-shape
bounds-rows-shape g c =
    let formed = c.nodes-nodes.ensures.formed in
    subst (λ s. s.item < 16) (sym c.shape.ensures) (formed.shaped.items 0 (omega (arith, formed.shaped.some_node)))

pub loop-node-init : goal.loop-node-init
loop-node-init g c =
    let d = g.R.Rank.KEYS in
    let key = g.R.Rank.key in
    let t = c.args.tree.now in
    let formed = c.nodes-nodes.ensures.formed in
    let row = c.args.row in
    let live = root_lives d key t formed row c.requires.row in
    let none : List ℕ = replicate 16 0 in
    let inside : 0 < length t = omega (arith, formed.shaped.some_node) in
    let room : 0 < length none = omega arith in
    record {
      chosen_long = refl;
      rows_long = length-set none c.shape.result.now.item c.row_at.result.row;
      reached = reached_kept d key t formed live none 0 row inside room (λ q below. absurd (omega arith)) c.requires.row;
      least = walk_begins d key t formed none row room c.requires.row;
      slots = λ i l.
          ap (λ p. get_or (set none p c.row_at.result.row) i 0) (ap (λ s. s.item) c.shape.ensures)
          ∙ ap (λ n. get_or (set none (item t 0) n) i 0) c.row_at.ensures.number
          ∙ slots_go_on d key t formed live none 0 row inside room c.requires.tie_free none refl (λ j h. get_or-replicate 16 j 0 0 h ∙ sym (no_slots d key t j)) i l;
      counted = omega (arith, c.row_at.ensures.counted);
    }

pub first_row-below-requires-clause-above : goal.first_row-below-requires-clause-above
first_row-below-requires-clause-above g c = c.loop-node.invariant.reached

pub bounds-rows-shape-in-loop-node : goal.bounds-rows-shape-in-loop-node
bounds-rows-shape-in-loop-node g c =
    let inside : c.loop-node.node < length c.args.tree.now = subst (λ n. c.loop-node.node < n) c.nodes-nodes.ensures.count c.loop-node-test.true in
    subst (λ s. s.item < 16) (sym c.shape-in-loop-node.ensures) (c.nodes-nodes.ensures.formed.shaped.items c.loop-node.node inside)

pub loop-node-preserved : goal.loop-node-preserved
loop-node-preserved g c =
    let d = g.R.Rank.KEYS in
    let key = g.R.Rank.key in
    let t = c.args.tree.now in
    let formed = c.nodes-nodes.ensures.formed in
    let live = root_lives d key t formed c.args.row c.requires.row in
    let q = c.loop-node.node in
    let chosen = c.loop-node.chosen in
    let row = c.first_row-below.result in
    let inside : q < length t = below_count _ _ _ c.loop-node-test.true c.nodes-nodes.ensures.count in
    let room : q < length chosen = at_list _ _ _ (within_few _ _ 16 inside formed.shaped.few_nodes) c.loop-node.invariant.chosen_long in
    record {
      chosen_long = length-set chosen q row ∙ c.loop-node.invariant.chosen_long;
      rows_long = length-set c.loop-node.rows c.shape-in-loop-node.result.now.item c.row_at-in-loop-node.result.row ∙ c.loop-node.invariant.rows_long;
      reached = reached_kept d key t formed live chosen q row inside room c.loop-node.invariant.reached c.first_row-below.ensures.row;
      least = walk_goes_on d key t formed live chosen q row inside room c.loop-node.invariant.reached c.first_row-below.ensures.first ∙ c.loop-node.invariant.least;
      slots = λ i l.
          ap (λ p. get_or (set c.loop-node.rows p c.row_at-in-loop-node.result.row) i 0) (ap (λ s. s.item) c.shape-in-loop-node.ensures)
          ∙ ap (λ n. get_or (set c.loop-node.rows (item t q) n) i 0) c.row_at-in-loop-node.ensures.number
          ∙ slots_go_on d key t formed live chosen q row inside room c.requires.tie_free c.loop-node.rows c.loop-node.invariant.rows_long c.loop-node.invariant.slots i l;
      counted = walk_steps c.loop-node.node c.row_at.new.steps c.loop-node.steps c.first_row-below.new.steps c.row_at-in-loop-node.new.steps
          c.loop-node.invariant.counted c.first_row-below.ensures.cost c.row_at-in-loop-node.ensures.counted;
    }

pub returns : goal.returns
returns g c =
    let d = g.R.Rank.KEYS in
    let key = g.R.Rank.key in
    let t = c.args.tree.now in
    let formed = c.nodes-nodes.ensures.formed in
    let live = root_lives d key t formed c.args.row c.requires.row in
    let chosen = c.loop-node.chosen in
    let all : c.loop-node.node ≡ length t = ended_some _ _ _ c.loop-node.auto.node-end c.loop-node-test.false c.nodes-nodes.ensures.count formed.shaped.some_node in
    let long : length chosen ≡ 16 = c.loop-node.invariant.chosen_long in
    let best_row = best t d key 0 c.args.row in
    let least : least_with d key t (take (length t) chosen) ≡ best_row = ap (λ n. least_with d key t (take n chosen)) (sym all) ∙ c.loop-node.invariant.least in
    let slots : (i : ℕ) → i < 16 → get_or c.loop-node.rows i 0 ≡ slot_of d 16 i (key_of_rows d key t (take (length t) chosen)) =
    λ i l. c.loop-node.invariant.slots i l ∙ ap (λ n. slot_of d 16 i (key_of_rows d key t (take n chosen))) all
    in
    record {
      rows = walk_ends d key t formed live chosen (subst (λ n. length t ≤ n) (sym long) formed.shaped.few_nodes) best_row least c.loop-node.rows c.loop-node.invariant.rows_long slots;
      cost = walk_end c.loop-node.node (length t) c.args.steps.now c.row_at.new.steps c.loop-node.steps c.row_at.ensures.counted c.loop-node.invariant.counted all;
    }

pub row_at-requires-in-loop-node-clause-row : goal.row_at-requires-in-loop-node-clause-row
row_at-requires-in-loop-node-clause-row g c = c.first_row-below.ensures.row

pub row_at-requires-in-loop-node-clause-node : goal.row_at-requires-in-loop-node-clause-node
row_at-requires-in-loop-node-clause-node g c = below_count _ _ _ c.loop-node-test.true c.nodes-nodes.ensures.count

pub first_row-below-requires-clause-node : goal.first_row-below-requires-clause-node
first_row-below-requires-clause-node g c = below_count _ _ _ c.loop-node-test.true c.nodes-nodes.ensures.count
