-- Ranks of 16 slots have each key that rows of nodes can add up to.
use Rattle.std.proofs.Common.{ℕ, ◌-◌, ◌^◌, List, length, arith}
use Rattle.rank_key.specs.KeyLists.{slot_below}
use Rattle.rank_key.proofs.HeldKeys.{fixed_key, wide_held}
use Rattle.tdp_core.specs.declared.parts.NodeShape.{NodeShape}
use Rattle.tdp_core.specs.RawView.{AreShapes, AreShapesHeld, shape_item}
use Rattle.tdp_core.proofs.KeyRanges.{most_in_slot}

pub wide_shapes_held : (n : ℕ) (shapes : List NodeShape) → AreShapes shapes → AreShapesHeld n (fixed_key n 16) shapes
wide_shapes_held n shapes shaped = record {
  most = 2 ^ 32 - 1;
  most_fits = omega arith;
  slots = λ r i l. omega (arith, slot_below n r.sums r.slots (2 ^ 32) r.slots_fit (omega arith) i l);
  keys = λ k within. wide_held n k
      (λ i l. omega (arith, within.1 i l, most_in_slot (length shapes) (shape_item shapes) shaped.items_apart (2 ^ 32 - 1) i));
}
