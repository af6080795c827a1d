use Rattle.std.proofs.Common.{◌^◌, ◌<◌, [], arith}
use Rattle.rank_key.proofs.RowKeys.{row_held}
use Rattle.engine_tests.proofs.cursors.answers_of.Goals as goal

pub of_row-rank-requires-clause-held : goal.of_row-rank-requires-clause-held
of_row-rank-requires-clause-held g c =
    let number = c.loop-number.number in
    let low : number < 2 ^ 16 = omega (arith, c.loop-number-test.true, c.from-number-end.ensures, c.ranges.count.fits) in
    row_held g.R.Rank.key g.met.R.Rank.holds [] 0 number (λ i. omega (arith, g.met.R.Rank.some_limit)) (omega arith)
    (omega (arith, c.requires.slots)) (omega (arith, low, g.met.R.Rank.rows_held))
