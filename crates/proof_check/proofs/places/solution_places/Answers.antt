use Rattle.std.proofs.Common.{◌≡◌, ◌<◌, ◌≤◌, ℕ, length, get_or, refl, sym, ap, subst, ◌∙◌, arith}
use Rattle.std.proofs.Math.ListN.{length-set}
use Rattle.std.proofs.lemmas.Bool.{false≢true}
use Rattle.std.specs.Option.{MatchOption}
use Rattle.tdp_core.specs.RawView.{raw_len, shape_parent}
use Rattle.proof_model.specs.Problem.{IsSolutionAt}
use Rattle.proof_model.specs.QueryProblem.{problem_in}
use Rattle.proof_check.specs.Places.{ArePlacesOf}
use Rattle.proof_check.specs.Subtrees.{ArePlacedBefore, HasLinkOf, raw_below}
use Rattle.proof_check.proofs.Placing.{placed_more, placed_none, placed_skip}
use Rattle.proof_check.proofs.PlacedSolutions.{found, in_nodes, must_link, size_of, whole}
use Rattle.proof_check.proofs.Subtrees.{below_up, parent_low, parents_first_lem}
use Rattle.proof_check.proofs.Counts.{above_root, below_count, ended_at, no_more, not_both, place_fits, place_fits_4, some_of, within_few}
use Rattle.proof_check.proofs.places.solution_places.Goals as goal
use Rattle.proof_check.proofs.places.solution_places.Goals.{else-at-node-via-then-at-node+else-not-is_linked}
use Rattle.proof_check.proofs.places.solution_places.Goals.{else-at-node-via-else-at-node}

up_within : (p q i n m : ℕ) → p ≡ q → q ≤ i → i < n → n ≤ m → p < m
up_within p q i n m e low l few = omega (arith, e, low, l, few)

pub returns-then-rows-size : goal.returns-then-rows-size
returns-then-rows-size g c = λ query tables join has s.
    c.if-rows-size.true
    (size_of query tables join g.R.Rank.KEYS g.R.Rank.key c.args.raw.now c.nodes-nodes.ensures.formed.shaped has c.args.node
    c.args.rows.now s ∙ sym (c.size.ensures c.args.node c.requires c.subtree-below.ensures))

pub loop-at-init : goal.loop-at-init
loop-at-init g c = record {
  long = refl;
  placed = placed_none c.args.raw.now c.nodes-nodes.ensures.formed.shaped c.args.node c.args.rows.now c.requires;
}

pub returns-in_err-place : goal.returns-in_err-place
returns-in_err-place g c = λ query tables join has.
    let shaped = c.nodes-nodes.ensures.formed.shaped in
    let inside : c.loop-at.at < length c.args.raw.now.shapes = below_count _ _ _ c.loop-at-test.true c.nodes-nodes.ensures.count in
    subst (λ r. MatchOption r (IsSolutionAt (problem_in query tables join) c.args.node c.args.rows.now → ⊥)
    (ArePlacesOf query tables join c.args.raw.now c.args.node c.args.rows.now)) (sym c.from_residual.ensures)
    (λ s.
    let row = found query tables join g.R.Rank.KEYS g.R.Rank.key c.args.raw.now shaped has c.args.node c.args.rows.now s c.loop-at.at
    inside (some_of _ _ (c.subtree-below.ensures c.loop-at.at inside) c.if-below-at-eq0.false) in
    c.in_err-place.ensures.absent
    (has.ascending c.loop-at.at (in_nodes query tables join g.R.Rank.KEYS g.R.Rank.key c.args.raw.now shaped has c.loop-at.at inside))
    row.0 row.1
    (row.2 ∙ ap (λ i. get_or c.args.rows.now i 0) (sym (c.item_place.ensures.place c.args.node c.requires c.subtree-below.ensures))))

pub is_linked-requires-clause-above : goal.is_linked-requires-clause-above
is_linked-requires-clause-above g c =
    let shaped = c.nodes-nodes.ensures.formed.shaped in
    let inside : c.loop-at.at < length c.args.raw.now.shapes = below_count _ _ _ c.loop-at-test.true c.nodes-nodes.ensures.count in
    let up = ap (λ s. s.parent) c.shape.ensures in
    let low = parents_first_lem c.args.raw.now shaped c.loop-at.at (above_root _ _ c.if-at-node.true) inside in
    let below = c.subtree-below.ensures c.loop-at.at inside in
    subst (λ p. get_or c.loop-at.places p 0 < raw_len c.args.raw.now (shape_parent c.args.raw.now.shapes c.loop-at.at)) (sym up)
    (c.loop-at.invariant.placed.within (shape_parent c.args.raw.now.shapes c.loop-at.at) low
    (below_up c.args.raw.now shaped c.args.node c.loop-at.at c.if-at-node.true inside (some_of _ _ below c.if-below-at-eq0.false)))

pub returns-then-not-is_linked : goal.returns-then-not-is_linked
returns-then-not-is_linked g c = λ query tables join has s.
    let shaped = c.nodes-nodes.ensures.formed.shaped in
    let inside : c.loop-at.at < length c.args.raw.now.shapes = below_count _ _ _ c.loop-at-test.true c.nodes-nodes.ensures.count in
    let up = ap (λ s. s.parent) c.shape.ensures in
    let low = parents_first_lem c.args.raw.now shaped c.loop-at.at (above_root _ _ c.if-at-node.true) inside in
    let below = c.subtree-below.ensures c.loop-at.at inside in
    let some : 0 < raw_below c.args.raw.now c.args.node c.loop-at.at = some_of _ _ below c.if-below-at-eq0.false in
    let upper = below_up c.args.raw.now shaped c.args.node c.loop-at.at c.if-at-node.true inside some in
    let link : HasLinkOf c.args.raw.now c.loop-at.at
    (get_or c.loop-at.places (shape_parent c.args.raw.now.shapes c.loop-at.at) 0) c.in_ok-place.place =
    must_link query tables join g.R.Rank.KEYS g.R.Rank.key c.args.raw.now shaped has c.args.node c.args.rows.now s c.loop-at.at
    (get_or c.loop-at.places (shape_parent c.args.raw.now.shapes c.loop-at.at) 0) c.in_ok-place.place c.if-at-node.true inside some
    (c.loop-at.invariant.placed.within (shape_parent c.args.raw.now.shapes c.loop-at.at) low upper)
    (c.loop-at.invariant.placed.numbers (shape_parent c.args.raw.now.shapes c.loop-at.at) low upper)
    c.in_ok-place.ensures.within
    (c.in_ok-place.ensures.number
    ∙ ap (λ i. get_or c.args.rows.now i 0) (c.item_place.ensures.place c.args.node c.requires c.subtree-below.ensures)) in
    false≢true (c.if-not-is_linked.ensures.1
    (subst (λ p. HasLinkOf c.args.raw.now c.loop-at.at (get_or c.loop-at.places p 0) c.in_ok-place.place) (sym up) link))

pub returns : goal.returns
returns g c = λ query tables join has.
    let end = ended_at _ _ _ _ c.loop-at.auto.at-end c.loop-at-test.false c.requires c.nodes-nodes.ensures.count in
    whole query tables join g.R.Rank.KEYS g.R.Rank.key c.args.raw.now c.nodes-nodes.ensures.formed.shaped has c.args.node
    c.args.rows.now c.loop-at.places c.requires
    (c.if-rows-size.false ∙ c.size.ensures c.args.node c.requires c.subtree-below.ensures)
    (subst (ArePlacedBefore c.args.raw.now c.args.node c.args.rows.now c.loop-at.places) end c.loop-at.invariant.placed)

pub item_place-requires-clause-node : goal.item_place-requires-clause-node
item_place-requires-clause-node g c = below_count _ _ _ c.loop-at-test.true c.nodes-nodes.ensures.count

pub item_place-requires-clause-below : goal.item_place-requires-clause-below
item_place-requires-clause-below g c = (c.args.node, c.requires, c.subtree-below.ensures)

pub bounds-rows-item_place : goal.bounds-rows-item_place
bounds-rows-item_place g c =
    let below = c.subtree-below.ensures c.loop-at.at (below_count _ _ _ c.loop-at-test.true c.nodes-nodes.ensures.count) in
    let within = c.item_place.ensures.within c.args.node c.requires c.subtree-below.ensures (some_of _ _ below c.if-below-at-eq0.false) in
    below_count _ _ _ within (sym (c.if-rows-size.false ∙ (c.size.ensures c.args.node c.requires c.subtree-below.ensures)))

pub bounds-places-shape : goal.bounds-places-shape
bounds-places-shape g c =
    let shaped = c.nodes-nodes.ensures.formed.shaped in
    let inside : c.loop-at.at < length c.args.raw.now.shapes = below_count _ _ _ c.loop-at-test.true c.nodes-nodes.ensures.count in
    up_within _ _ _ _ 16 (ap (λ s. s.parent) c.shape.ensures) (parent_low c.args.raw.now shaped c.loop-at.at inside) inside
    shaped.few_nodes

pub bounds-places-at : goal.bounds-places-at
bounds-places-at g c =
    within_few _ _ 16 (below_count _ _ _ c.loop-at-test.true c.nodes-nodes.ensures.count) c.nodes-nodes.ensures.formed.shaped.few_nodes

pub overflow_cast-places : goal.overflow_cast-places
overflow_cast-places g c =
    place_fits _ _ (below_count _ _ _ c.loop-at-test.true c.nodes-nodes.ensures.count) c.nodes-nodes.ensures.formed.shaped.few_nodes

pub offset_bounds-places-at : goal.offset_bounds-places-at
offset_bounds-places-at g c =
    place_fits_4 _ _ (below_count _ _ _ c.loop-at-test.true c.nodes-nodes.ensures.count) c.nodes-nodes.ensures.formed.shaped.few_nodes

pub offset_bounds-places-shape : goal.offset_bounds-places-shape
offset_bounds-places-shape g c = place_fits_4 _ 16 (bounds-places-shape g c) (no_more 16)

pub is_linked-requires-clause-below_root : goal.is_linked-requires-clause-below_root
is_linked-requires-clause-below_root g c = above_root _ _ c.if-at-node.true

pub is_linked-requires-clause-node : goal.is_linked-requires-clause-node
is_linked-requires-clause-node g c = below_count _ _ _ c.loop-at-test.true c.nodes-nodes.ensures.count

pub is_linked-requires-clause-place : goal.is_linked-requires-clause-place
is_linked-requires-clause-place g c = c.in_ok-place.ensures.within

pub loop-at-preserved-then-below-at-eq0 : goal.loop-at-preserved-then-below-at-eq0
loop-at-preserved-then-below-at-eq0 g c =
    let inside : c.loop-at.at < length c.args.raw.now.shapes = below_count _ _ _ c.loop-at-test.true c.nodes-nodes.ensures.count in
    record {
      long = c.loop-at.invariant.long;
      placed = placed_skip c.args.raw.now c.nodes-nodes.ensures.formed.shaped c.args.node c.args.rows.now c.loop-at.places c.loop-at.at
          (sym (c.subtree-below.ensures c.loop-at.at inside) ∙ c.if-below-at-eq0.true) c.loop-at.invariant.placed;
    }

pub loop-at-preserved : goal.loop-at-preserved
loop-at-preserved g c =
    let raw = c.args.raw.now in let at = c.loop-at.at in let places = c.loop-at.places in
    let place = c.in_ok-place.place in
    let inside : at < length raw.shapes = below_count _ _ _ c.loop-at-test.true c.nodes-nodes.ensures.count in
    let up = ap (λ s. s.parent) c.shape.ensures in
    let some : 0 < raw_below raw c.args.node at = some_of _ _ (c.subtree-below.ensures at inside) c.if-below-at-eq0.false in
    let row = c.in_ok-place.ensures.number
    ∙ ap (λ i. get_or c.args.rows.now i 0) (c.item_place.ensures.place c.args.node c.requires c.subtree-below.ensures) in
    record {
      long = length-set places at place ∙ c.loop-at.invariant.long;
      placed = placed_more raw c.nodes-nodes.ensures.formed.shaped c.args.node c.args.rows.now places at place
          c.loop-at.invariant.long c.loop-at.auto.at inside c.loop-at.invariant.placed some c.in_ok-place.ensures.within row
          (λ far. elim c.else-at-node.branch [
            | else-at-node-via-then-at-node+else-not-is_linked w ↦
                subst (λ p. HasLinkOf raw at (get_or places p 0) place) up (w.if-not-is_linked.ensures.0 refl)
            | else-at-node-via-else-at-node w ↦ absurd (not_both _ _ w.if-at-node.false far)
          ]);
    }
