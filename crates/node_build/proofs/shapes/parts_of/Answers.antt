use Rattle.std.proofs.Common.{[], false, ◌<◌, ◌∙◌, SFits, length, arith, rules}
use mir.Syntax.{w128}
use Rattle.std.proofs.lemmas.List.{length-set}
use Rattle.bound_query.specs.Weights.{part_of}
use Rattle.node_build.proofs.Ranks.{kept, places_more}
use Rattle.node_build.proofs.shapes.parts_of.Goals as goal

pub loop-key-preserved : goal.loop-key-preserved
loop-key-preserved c =
    let query = c.args.query.now.query in
    let fits : SFits w128 c.part.result = search rules in
    let before = c.loop-key.invariant in
    let room : c.loop-key.key < length c.loop-key.parts = omega arith in
    let inside : c.loop-key.key < length query.order = omega arith in
    record {
      width = length-set c.loop-key.parts c.loop-key.key _ ∙ before.width;
      parts = places_more (part_of c.args.tables.now query.items c.args.item c.args.row) c.loop-key.parts query.order c.loop-key.key (record { terms = []; descending = false }) _ room inside
          (kept c.part.result fits ∙ c.part.ensures) before.parts;
    }
