use Rattle.std.proofs.Common.{◌^◌, ◌<◌, [], ◌∷◌, pos, sym, subst, ◌∙◌, arith, rules}
use Rattle.std.specs.Int.{w128}
use Rattle.std.proofs.lemmas.Int.{ints, to_z-of_z}
use Rattle.rank_key.specs.Keys.{IsHeld, row_key}
use Rattle.rank_key.proofs.RowKeys.{row_held}
use Rattle.engine_tests.proofs.Held.{one_sum}
use Rattle.engine_tests.proofs.heaps.entry.Goals as goal

pub of_row-requires-clause-held : goal.of_row-requires-clause-held
of_row-requires-clause-held g c =
    let sum = c.args.made.0 in
    let row = c.from-2.result in
    let few : sum < 2 ^ 32 = search rules in
    let low : row < 2 ^ 16 = search rules in
    let read = to_z-of_z w128 c.from.result (search rules) ∙ c.from.ensures in
    subst (λ z. IsHeld g.R.Rank.KEYS g.R.Rank.key (row_key g.R.Rank.KEYS (z ∷ []) 0 row)) (sym read)
    (row_held g.R.Rank.key g.met.R.Rank.holds (pos sum ∷ []) 0 row (one_sum (pos sum) g.R.Rank.LIMIT (omega (arith, ints, few, c.requires.limit)))
    (omega arith) (omega (arith, c.requires.slots)) (omega (arith, low, g.met.R.Rank.rows_held)))
