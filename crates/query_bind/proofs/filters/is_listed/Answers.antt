use Rattle.std.proofs.Common.{◌≡◌, ◌==◌, ◌&&◌, ◌∙◌, Bool, ℕ, List, true, false, sym, ap}
use Rattle.std.specs.Str.{bytes_eq}
use Rattle.std.proofs.Math.Bool.{and-false}
use Rattle.std.proofs.lemmas.Bool.{and_from, false_from_ne_true}
use Rattle.std.proofs.lemmas.Bool.Decides.{Decides-eqb}
use Rattle.bound_query.specs.declared.filters.Constant.{Constant}
use Rattle.rankings.proofs.Searching.{any_end, any_hit, any_miss}
use Rattle.query_bind.proofs.filters.is_listed.Goals.{else-constant-place-via-then-constant-place+else-eq, else-constant-place-via-else-constant-place}
use Rattle.query_bind.proofs.filters.is_listed.Goals as goal

-- whether this is the constant
abbrev test : ℕ → List ℕ → Constant → Bool
test place bytes k = (k.place == place) && bytes_eq k.bytes bytes

pub returns-then-eq : goal.returns-then-eq
returns-then-eq c =
    let place = c.args.place in
    let bytes = c.args.bytes.now in
    let x = c.constant-item.result in
    let own : bytes_eq x.bytes bytes ≡ true = ap (λ (t : List ℕ). bytes_eq t bytes) (sym c.bytes.ensures) ∙ sym c.eq.ensures ∙ c.if-eq.true in
    let hit : test place bytes x ≡ true = and_from (x.place == place) (bytes_eq x.bytes bytes) ((Decides-eqb x.place place).1 c.if-constant-place.true) own in
    any_hit (test place bytes) c.args.constants.now c.loop-constant.constant-index c.loop-constant.invariant x c.loop-constant-test.true
    (ap (test place bytes) (sym c.constant-item.is) ∙ hit)

pub loop-constant-preserved : goal.loop-constant-preserved
loop-constant-preserved c =
    let place = c.args.place in
    let bytes = c.args.bytes.now in
    let x = c.constant-item.result in
    let miss : test place bytes x ≡ false = elim c.else-constant-place.branch [
      | else-constant-place-via-then-constant-place+else-eq w ↦
          let other : bytes_eq x.bytes bytes ≡ false = ap (λ (t : List ℕ). bytes_eq t bytes) (sym w.bytes.ensures) ∙ sym w.eq.ensures ∙ w.if-eq.false in
          ap (λ (b : Bool). (x.place == place) && b) other ∙ and-false (x.place == place)
      | else-constant-place-via-else-constant-place w ↦
          let apart : (x.place == place) ≡ false = false_from_ne_true (x.place == place) (λ h. w.if-constant-place.false ((Decides-eqb x.place place).0 h)) in
          ap (λ (b : Bool). b && bytes_eq x.bytes bytes) apart
    ] in
    any_miss (test place bytes) c.args.constants.now c.loop-constant.constant-index c.loop-constant.invariant x c.loop-constant-test.true
    (ap (test place bytes) (sym c.constant-item.is) ∙ miss)

pub returns : goal.returns
returns c =
    any_end (test c.args.place c.args.bytes.now) c.args.constants.now c.loop-constant.constant-index c.loop-constant.invariant c.loop-constant-test.false
