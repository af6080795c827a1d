use Rattle.std.proofs.Common.{◌∙◌, ℕ, List, sym, ap, arith}
use Rattle.std.proofs.lemmas.Iterator.Adapters.{position_from-zero}
use Rattle.std.specs.Str.{bytes_eq}
use Rattle.std.specs.String.{string_bytes}
use Rattle.cmd_words.specs.declared.pairs.Named.{Named}
use Rattle.command_input.proofs.TableNumbers.{place_after, place_end, place_found}
use Rattle.command_input.proofs.table_uses.place_of.Goals as goal

pub loop-place-init : goal.loop-place-init
loop-place-init c = sym (position_from-zero (λ (e : Named). bytes_eq (string_bytes e.table) c.args.table.now) c.args.named.now)

pub returns-then-eq : goal.returns-then-eq
returns-then-eq c =
    let here = rw c.as_bytes.ensures.value at (sym c.eq.ensures ∙ c.if-eq.true) in
    place_found c.args.table.now c.args.named.now c.loop-place.place c.index-named-place.result (omega arith) here c.loop-place.invariant

pub returns : goal.returns
returns c = place_end c.args.table.now c.args.named.now c.loop-place.place (omega arith) c.loop-place.invariant

pub loop-place-preserved : goal.loop-place-preserved
loop-place-preserved c =
    let here = rw c.as_bytes.ensures.value at (sym c.eq.ensures ∙ c.if-eq.false) in
    place_after c.args.table.now c.args.named.now c.loop-place.place c.index-named-place.result (omega arith) here c.loop-place.invariant
