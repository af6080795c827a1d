use Rattle.std.proofs.Common.{◌≡◌, ◌≤◌, ◌<◌, ◌+◌, ◌^◌, drop, decimal, false}
use Rattle.std.specs.Fmt.{digits_onto}
use Rattle.text_lines.proofs.digits.write_digits.Given as goal

abbrev pub invariant-digits : goal.invariant-digits
invariant-digits l = record {
  within : l.at ≤ 20;
  some : l.at < 20 → 0 < l.rest;
  small : l.rest < 10 ^ l.at;
  digits : digits_onto (44 + l.at) 10 false l.rest (drop l.at l.digits) ≡ decimal l.fn.number;
}

abbrev pub decreases-digits : goal.decreases-digits
decreases-digits l = l.at
