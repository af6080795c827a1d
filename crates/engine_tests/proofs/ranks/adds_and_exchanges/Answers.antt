use Rattle.std.proofs.Common.{arith, lit<, rules}
use Rattle.engine_tests.proofs.Held.{own_row_fits, row_in, two_rows_held}
use Rattle.engine_tests.proofs.ranks.adds_and_exchanges.Goals as goal

pub of_row-five-requires-clause-held : goal.of_row-five-requires-clause-held
of_row-five-requires-clause-held g c = row_in g.R.Rank.key g.met.R.Rank.holds g.met.R.Rank.rows_held c.requires.slots c.requires.limit _ 0 3 (search rules) (omega arith) (omega arith)

pub of_row-less_seven-requires-clause-held : goal.of_row-less_seven-requires-clause-held
of_row-less_seven-requires-clause-held g c = row_in g.R.Rank.key g.met.R.Rank.holds g.met.R.Rank.rows_held c.requires.slots c.requires.limit _ 1 4 (search rules) (omega arith) (omega arith)

pub of_row-nine-requires-clause-held : goal.of_row-nine-requires-clause-held
of_row-nine-requires-clause-held g c = row_in g.R.Rank.key g.met.R.Rank.holds g.met.R.Rank.rows_held c.requires.slots c.requires.limit _ 1 1 (search rules) (omega arith) (omega arith)

pub of_row-requires-clause-held : goal.of_row-requires-clause-held
of_row-requires-clause-held g c = row_in g.R.Rank.key g.met.R.Rank.holds g.met.R.Rank.rows_held c.requires.slots c.requires.limit _ 0 3 (search rules) (omega arith) (omega arith)

pub of_row-requires-2-clause-held : goal.of_row-requires-2-clause-held
of_row-requires-2-clause-held g c = row_in g.R.Rank.key g.met.R.Rank.holds g.met.R.Rank.rows_held c.requires.slots c.requires.limit _ 0 4 (search rules) (omega arith) (omega arith)

pub of_row-requires-3-clause-held : goal.of_row-requires-3-clause-held
of_row-requires-3-clause-held g c = row_in g.R.Rank.key g.met.R.Rank.holds g.met.R.Rank.rows_held c.requires.slots c.requires.limit _ 0 9 (search rules) (omega arith) (omega arith)

pub join-first-requires : goal.join-first-requires
join-first-requires g c =
    let held = two_rows_held g.R.Rank.key g.met.R.Rank.holds g.met.R.Rank.rows_held c.requires.slots c.requires.limit in
    rw (c.of_row-five.ensures, c.of_row-less_seven.ensures) (held _ _ 0 3 1 4 (search rules) (search rules) (lit< tt) (lit< tt) (lit< tt) (lit< tt))

pub join-second-requires : goal.join-second-requires
join-second-requires g c =
    let held = two_rows_held g.R.Rank.key g.met.R.Rank.holds g.met.R.Rank.rows_held c.requires.slots c.requires.limit in
    rw (c.of_row-five.ensures, c.of_row-nine.ensures) (held _ _ 0 3 1 1 (search rules) (search rules) (lit< tt) (lit< tt) (lit< tt) (lit< tt))

pub swap-exchanged-requires : goal.swap-exchanged-requires
swap-exchanged-requires g c =
    let held = two_rows_held g.R.Rank.key g.met.R.Rank.holds g.met.R.Rank.rows_held c.requires.slots c.requires.limit in
    let own = own_row_fits g.R.Rank.key g.met.R.Rank.holds g.met.R.Rank.rows_held c.requires.slots c.requires.limit in
    record {
      rest = g.R.Rank.key c.of_row-five.result;
      whole = c.join-first.ensures.sum;
      rest_fits = own c.of_row-five.result _ 0 3 c.of_row-five.ensures (search rules) (lit< tt);
      swapped_fits = rw (c.of_row-five.ensures, c.of_row-nine.ensures) (held _ _ 0 3 1 1 (search rules) (search rules) (lit< tt) (lit< tt) (lit< tt) (lit< tt));
    }
