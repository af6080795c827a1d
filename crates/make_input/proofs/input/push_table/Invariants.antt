use Rattle.std.proofs.Common.{◌≡◌, ◌*◌, ◌++◌}
use Rattle.std.specs.String.{string_bytes}
use Rattle.make_input.specs.Input.{draw, rows_text}
use Rattle.make_input.proofs.input.push_table.Given as goal

abbrev pub invariant-loop-row : goal.invariant-loop-row
invariant-loop-row l = record {
  text : string_bytes l.text ≡ l.header ++ rows_text l.modulus l._row l.initial.draws.last;
  state : l.draws.last ≡ draw l.initial.draws.last (2 * l._row);
}
