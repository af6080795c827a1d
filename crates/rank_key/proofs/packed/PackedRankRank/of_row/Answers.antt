use Rattle.std.proofs.Common.{◌^◌, ◌+ℤ◌, ◌*ℤ◌, get_or, pos, refl, rules}
use Rattle.rank_key.specs.Packed.{unit_of}
use Rattle.rank_key.proofs.Adding.{read, read_fits}
use Rattle.rank_key.proofs.RowNumbers.{sum_in_place_fits, row_in_place_fits, both_in_place_fit, key_of_both}
use Rattle.rank_key.proofs.packed.PackedRankRank.of_row.Goals as goal

pub overflow_mul-number : goal.overflow_mul-number
overflow_mul-number c =
    sum_in_place_fits c.args.row c.args.sums.now c.args.slot c.requires.slot c.requires.held.0.number c.requires.held.0.fits c.requires.held.1
    c.first_sum.result (pos c.args.row) (unit_of c.args.slot) c.first_sum.ensures refl refl (search rules)

pub overflow_mul-number-2 : goal.overflow_mul-number-2
overflow_mul-number-2 c =
    row_in_place_fits c.args.row c.args.sums.now c.args.slot c.requires.slot c.requires.held.0.number c.requires.held.0.fits c.requires.held.1
    (get_or c.args.sums.now 0 (pos 0)) c.from.result c.slot_unit.result refl c.from.ensures c.slot_unit.ensures (search rules)

pub overflow_add-number : goal.overflow_add-number
overflow_add-number c =
    both_in_place_fit c.args.row c.args.sums.now c.args.slot c.requires.slot c.requires.held.0.number c.requires.held.0.fits c.requires.held.1
    c.first_sum.result c.from.result c.slot_unit.result c.first_sum.ensures c.from.ensures c.slot_unit.ensures (search rules)

pub invariant_of-result : goal.invariant_of-result
invariant_of-result c = record { fits = read_fits c.new.result (read (read c.first_sum.result *ℤ pos (2 ^ 84)) +ℤ read (read c.from.result *ℤ read c.slot_unit.result)) c.new.ensures }

pub returns : goal.returns
returns c =
    key_of_both c.args.row c.args.sums.now c.args.slot c.requires.slot c.requires.held.0.number c.requires.held.0.fits c.requires.held.1
    c.first_sum.result c.from.result c.slot_unit.result c.first_sum.ensures c.from.ensures c.slot_unit.ensures (search rules) c.new.result c.new.ensures
