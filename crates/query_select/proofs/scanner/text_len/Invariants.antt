use Rattle.std.proofs.Common.{◌≡◌, ◌<◌, drop}
use Rattle.std.specs.Prelude.{IfSome}
use Rattle.query_select.specs.Tokens.{closing}
use Rattle.query_select.proofs.Strings.{closing_from}
use Rattle.query_select.proofs.scanner.text_len.Given as goal

abbrev pub invariant-loop-i : goal.invariant-loop-i
invariant-loop-i l = record {
  value : closing_from l.end l.half l.i (drop l.i l.bytes) ≡ closing l.bytes;
  within : IfSome l.end (λ n. n < l.i);
}
