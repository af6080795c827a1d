use Rattle.std.proofs.Common.{◌<◌, ◌∙◌, arith, length, refl, sym}
use Rattle.std.specs.Str.{bytes_eq}
use Rattle.std.specs.String.{string_bytes}
use Rattle.cmd_words.specs.NamedPairs.{named_pair}
use Rattle.command_input.proofs.FirstUses.{entry_known, entry_new, number_new}
use Rattle.command_input.proofs.Seeking.{any_here, any_later, any_none, place_here, place_later}
use Rattle.command_input.proofs.table_uses.number_of.Goals as goal

pub returns-then-eq : goal.returns-then-eq
returns-then-eq c = record {
  firsts =
      entry_known (λ e. named_pair e.now) c.args.firsts.now.items c.args.entry
      (any_here (λ e. bytes_eq (string_bytes e.now.table) (string_bytes c.args.entry.now.table)) c.args.firsts.now.items c.loop-place.place c.index.result.now
      (omega (arith, c.loop-place-test.true, c.len-number.ensures, c.args.firsts.now.ok.0))
      c.index.ensures (rw (c.as_str.ensures.value, c.as_str-in-loop-place.ensures.value) at (sym c.eq.ensures ∙ c.if-eq.true)) c.loop-place.invariant.0);
  number =
      place_here (λ e. bytes_eq (string_bytes e.now.table) (string_bytes c.args.entry.now.table)) c.args.firsts.now.items c.loop-place.place c.index.result.now
      (omega (arith, c.loop-place-test.true, c.len-number.ensures, c.args.firsts.now.ok.0))
      c.index.ensures (rw (c.as_str.ensures.value, c.as_str-in-loop-place.ensures.value) at (sym c.eq.ensures ∙ c.if-eq.true)) c.loop-place.invariant.1;
}

pub returns : goal.returns
returns c = record {
  firsts =
      entry_new (λ e. named_pair e.now) c.args.firsts.now.items c.args.entry c.push.new.self.items
      (any_none (λ e. bytes_eq (string_bytes e.now.table) (string_bytes c.args.entry.now.table)) c.args.firsts.now.items c.loop-place.place
      (omega (arith, c.loop-place-test.false, c.len-number.ensures, c.args.firsts.now.ok.0)) c.loop-place.invariant.0)
      c.in_ok-push.ensures.items;
  number =
      number_new (λ e. named_pair e.now) c.args.firsts.now.items c.args.entry c.push.new.self.items c.len-number.result
      (any_none (λ e. bytes_eq (string_bytes e.now.table) (string_bytes c.args.entry.now.table)) c.args.firsts.now.items c.loop-place.place
      (omega (arith, c.loop-place-test.false, c.len-number.ensures, c.args.firsts.now.ok.0)) c.loop-place.invariant.0)
      c.in_ok-push.ensures.items (omega (arith, c.len-number.ensures, c.args.firsts.now.ok.0));
}

pub loop-place-init : goal.loop-place-init
loop-place-init c = (refl, omega arith)

pub loop-place-preserved : goal.loop-place-preserved
loop-place-preserved c =
    let inside : c.loop-place.place < length c.args.firsts.now.items = omega (arith, c.loop-place-test.true, c.len-number.ensures, c.args.firsts.now.ok.0) in
    let other = rw (c.as_str.ensures.value, c.as_str-in-loop-place.ensures.value) at (sym c.eq.ensures ∙ c.if-eq.false) in (
      any_later (λ e. bytes_eq (string_bytes e.now.table) (string_bytes c.args.entry.now.table)) c.args.firsts.now.items c.loop-place.place c.index.result.now
          inside c.index.ensures other c.loop-place.invariant.0,
      place_later (λ e. bytes_eq (string_bytes e.now.table) (string_bytes c.args.entry.now.table)) c.args.firsts.now.items c.loop-place.place c.index.result.now
          inside c.index.ensures other c.loop-place.invariant.1,
    )

pub overflow_cast-result : goal.overflow_cast-result
overflow_cast-result c = omega (arith, c.loop-place-test.true, c.len-number.ensures, c.args.firsts.now.ok.0, c.requires)
