use Rattle.std.proofs.Common.{◌+◌, ◌*◌, ◌<◌, ◌≤◌, ◌++◌, ℕ, List, length, take, drop, refl, sym, ap, subst, ◌∙◌, arith}
use Rattle.std.specs.List.Sorted.{IsPermutation}
use Rattle.std.proofs.lemmas.List.{get_or_default}
use Rattle.std.proofs.lemmas.Result.{IfOk-from_err}
use Rattle.std.proofs.lemmas.List.Sorted.{length_permutation}
use Rattle.tree_dp.specs.Orders.{key_at, IsHeapOver}
use Rattle.tdp_core.proofs.LoopCounts.{at_list}
use Rattle.tree_dp.proofs.RowHeaps.{key_read, heap_over}
use Rattle.tree_dp.proofs.Copies.{after_slice, first_of}
use Rattle.tree_dp.proofs.order.order_group.Goals as goal

pub bounds-best-index : goal.bounds-best-index
bounds-best-index g c =
    let copy = c.extend_from_slice.new.self in
    let heap = c.heapify_by.new.items in
    let after = after_slice copy.items c.deref_mut.result.now heap _ copy.len copy.ok.0 c.deref_mut.ensures.value c.heapify_by.ensures.permutation refl in
    let copied = c.deref_mut.ensures.value ∙ c.in_ok-extend_from_slice.ensures.items ∙ ap (λ xs. xs ++ c.args.group.now) c.clear.ensures.items in
    let moved = subst (λ xs. IsPermutation xs heap) copied c.heapify_by.ensures.permutation in
    first_of (λ r. r < length c.args.best.now) c.args.group.now heap _ c.index.result.now c.requires.rows moved after c.requires.inhabited c.index.ensures

pub offset_bounds-best-index : goal.offset_bounds-best-index
offset_bounds-best-index g c = omega (arith, bounds-best-index g c)

pub returns-in_err-extend_from_slice : goal.returns-in_err-extend_from_slice
returns-in_err-extend_from_slice g c =
    record {
      same_rows = IfOk-from_err c.from_residual.result _ c.from_residual.ensures.0;
      heap = IfOk-from_err c.from_residual.result _ c.from_residual.ensures.0;
      least = IfOk-from_err c.from_residual.result _ c.from_residual.ensures.0;
      cost = omega arith;
    }

pub returns : goal.returns
returns g c =
    let copy = c.extend_from_slice.new.self in
    let heap = c.heapify_by.new.items in
    let whole = take copy.len (heap ++ drop (length heap) copy.items) in
    let after = after_slice copy.items c.deref_mut.result.now heap whole copy.len copy.ok.0 c.deref_mut.ensures.value c.heapify_by.ensures.permutation refl in
    let row = c.index.result.now in
    let copied = c.deref_mut.ensures.value ∙ c.in_ok-extend_from_slice.ensures.items ∙ ap (λ xs. xs ++ c.args.group.now) c.clear.ensures.items in
    let moved = subst (λ xs. IsPermutation xs heap) copied c.heapify_by.ensures.permutation in
    let below = first_of (λ r. r < length c.args.best.now) c.args.group.now heap whole row c.requires.rows moved after c.requires.inhabited c.index.ensures in
    let some : 0 < length whole = at_list _ _ _ c.requires.inhabited (ap length after ∙ length_permutation _ _ moved) in
    record {
      same_rows = subst (IsPermutation c.args.group.now) (sym after) moved;
      heap = subst (IsHeapOver g.R.Rank.KEYS g.R.Rank.key c.args.best.now) (sym after)
          (heap_over g.R.Rank.KEYS g.R.Rank.key c.args.best.now heap c.heapify_by.ensures.heap_order);
      least = key_read g.R.Rank.KEYS g.R.Rank.key c.args.best.now row c.index-best-index.result below c.index-best-index.is
          ∙ ap (key_at g.R.Rank.KEYS g.R.Rank.key c.args.best.now) (c.index.ensures ∙ get_or_default whole 0 row 0 some);
      cost = subst (λ (xs : List ℕ). c.heapify_by.new.steps ≤ c.args.steps.now + 2 * length xs) copied c.heapify_by.ensures.cost;
    }
