use Rattle.std.proofs.Common.{◌<◌, ◌^◌, sym, arith}
use Rattle.std.specs.Str.Parse.{digits_value, without_leading_plus}
use Rattle.cmd_words.proofs.Digits.{number_taken, number_refused}
use Rattle.cmd_words.proofs.texts.number_in.Goals as goal

pub returns-in-Ok : goal.returns-in-Ok
returns-in-Ok c = record {
  value =
      let read = c.in-Ok.ensures.value.0 in
      number_taken c.args.low c.args.high c.in-Ok.number c.args.text.now (sym c.if-not-begins_plainly.ensures) read.0.0 read.1 c.if-low-number.true c.if-number-high.true;
  low = c.if-low-number.true;
  high = c.if-number-high.true;
}

pub returns-in_default-3 : goal.returns-in_default-3
returns-in_default-3 c = record {
  value =
      number_refused c.args.low c.args.high c.args.text.now (λ plain numeral above below.
      let fits : digits_value 10 (without_leading_plus c.args.text.now) < 2 ^ 32 = omega (arith, below, c.ranges.high.fits) in
      c.in_default.ensures.value.0 (numeral, fits));
  low = tt;
  high = tt;
}
