use Rattle.std.proofs.Common.{◌≡◌, ◌<◌, ◌^◌, drop}
use Rattle.query_parse.specs.Parse.{decimal_from, decimal}
use Rattle.query_parse.proofs.parsing.number.Given as goal

abbrev pub invariant-loop-digit : goal.invariant-loop-digit
invariant-loop-digit l = record {
  within : l.value < 2 ^ 64;
  value : decimal_from l.value (drop l.digit-index l.digits) ≡ decimal l.digits;
}
