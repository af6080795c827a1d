use Rattle.std.proofs.Common.{◌∙◌, sym, ap, ℕ, List}
use Rattle.std.specs.Str.{bytes_eq}
use Rattle.rankings.proofs.Searching.{any_end, any_hit, any_miss}
use Rattle.session_script.proofs.open_names.is_open.Goals as goal

pub returns-then-eq : goal.returns-then-eq
returns-then-eq c =
    let name = c.args.name.now in
    any_hit (λ x. bytes_eq x name) c.args.names.now c.loop-other.other-index c.loop-other.invariant c.other-item.result c.loop-other-test.true
    (ap (λ x. bytes_eq x name) (sym c.other-item.is) ∙ ap (λ (x : List ℕ). bytes_eq x name) (sym c.bytes.ensures.value) ∙ ap (bytes_eq c.bytes.result.now) (sym c.bytes-in-loop-other.ensures.value) ∙ sym c.eq.ensures ∙ c.if-eq.true)

pub loop-other-preserved : goal.loop-other-preserved
loop-other-preserved c =
    let name = c.args.name.now in
    any_miss (λ x. bytes_eq x name) c.args.names.now c.loop-other.other-index c.loop-other.invariant c.other-item.result c.loop-other-test.true
    (ap (λ x. bytes_eq x name) (sym c.other-item.is) ∙ ap (λ (x : List ℕ). bytes_eq x name) (sym c.bytes.ensures.value) ∙ ap (bytes_eq c.bytes.result.now) (sym c.bytes-in-loop-other.ensures.value) ∙ sym c.eq.ensures ∙ c.if-eq.false)

pub returns : goal.returns
returns c = any_end (λ x. bytes_eq x c.args.name.now) c.args.names.now c.loop-other.other-index c.loop-other.invariant c.loop-other-test.false
