use Rattle.std.proofs.Common.{pos, get_or, ◌∙◌, arith, rules}
use Rattle.std.specs.Prelude.{FitsSigned}
use Rattle.std.specs.Int.{w128}
use Rattle.std.proofs.lemmas.Int.{to_z-of_z}
use Rattle.rank_key.proofs.Places.{copy_turn, copy_end}
use Rattle.rank_key.proofs.fixed_rank.copy_sums.Goals as goal

pub loop-place-preserved : goal.loop-place-preserved
loop-place-preserved c =
    let fits : FitsSigned w128 (get_or c.args.from.now c.loop-place.place (pos 0)) = search rules in
    let turn = copy_turn c.loop-place.place c.loop-place.to c.args.to.now c.args.from.now in
    turn _ (pos 0) c.loop-place.invariant c.requires.len c.loop-place-test.true (c.new.ensures ∙ simp to_z-of_z)

pub returns : goal.returns
returns c =
    copy_end c.loop-place.place c.loop-place.to c.args.to.now c.args.from.now c.loop-place.invariant (omega arith)
