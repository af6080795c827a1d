use Rattle.std.proofs.Common.{◌≡◌, length, map, take}
use Rattle.bound_query.specs.Weights.{part_of}
use Rattle.node_build.proofs.shapes.parts_of.Given as goal

abbrev pub invariant-loop-key : goal.invariant-loop-key
invariant-loop-key l = record {
  width : length l.parts ≡ 8;
  parts : take l.key l.parts ≡ map (part_of l.tables l.query.query.items l.item l.row) (take l.key l.query.query.order);
}
