use Rattle.std.proofs.Common.{sym, ◌∙◌}
use Rattle.std.specs.Str.{bytes_eq}
use Rattle.std.specs.String.{string_bytes}
use Rattle.command_input.proofs.Seeking.{found_here, found_later, found_none}
use Rattle.command_input.proofs.table_uses.entry_of.Goals as goal

pub returns-then-eq : goal.returns-then-eq
returns-then-eq c =
    found_here (λ e. bytes_eq (string_bytes e.table) c.args.table.now) c.args.named.now c.loop-entry.entry-index c.entry-item.result c.loop-entry-test.true
    c.entry-item.is (rw c.as_bytes.ensures.value at (sym c.eq.ensures ∙ c.if-eq.true)) c.loop-entry.invariant

pub loop-entry-preserved : goal.loop-entry-preserved
loop-entry-preserved c =
    found_later (λ e. bytes_eq (string_bytes e.table) c.args.table.now) c.args.named.now c.loop-entry.entry-index c.entry-item.result c.loop-entry-test.true
    c.entry-item.is (rw c.as_bytes.ensures.value at (sym c.eq.ensures ∙ c.if-eq.false)) c.loop-entry.invariant

pub returns : goal.returns
returns c =
    found_none (λ e. bytes_eq (string_bytes e.table) c.args.table.now) c.args.named.now c.loop-entry.entry-index c.loop-entry-test.false c.loop-entry.invariant
