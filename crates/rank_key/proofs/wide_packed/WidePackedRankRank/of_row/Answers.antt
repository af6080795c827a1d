use Rattle.std.proofs.Common.{◌≡◌, ◌<◌, ◌≤◌, ◌*◌, ◌∙◌, sym, ap, arith}
use Rattle.rank_key.specs.Packed.{packed_key}
use Rattle.rank_key.specs.WidePacked.{front_of}
use Rattle.rank_key.proofs.WideAdding.{same_numbers}
use Rattle.rank_key.proofs.WideRows.{front_of_row, rest_of_row}
use Rattle.rank_key.proofs.wide_packed.WidePackedRankRank.of_row.Goals.{then-slot-lt4, else-slot-lt4}
use Rattle.rank_key.proofs.wide_packed.WidePackedRankRank.of_row.Goals as goal

pub of_row-requires-clause-held : goal.of_row-requires-clause-held
of_row-requires-clause-held c =
    let held = c.requires.held in
    let row = c.args.row in let slot = c.args.slot in let own = c.if-slot-lt4.in_front in
    let here : slot < 4 → own ≡ row = λ low. elim c.if-slot-lt4.branch [ then-slot-lt4 w ↦ w.in_front-is | else-slot-lt4 w ↦ absurd (omega (arith, low, w.if-slot-lt4.false)) ] in
    let past : 4 ≤ slot → own ≡ 0 = λ high. elim c.if-slot-lt4.branch [ then-slot-lt4 w ↦ absurd (omega (arith, high, w.if-slot-lt4.true)) | else-slot-lt4 w ↦ w.in_front-is ] in
    (held.0.front, ap front_of held.1 ∙ sym (front_of_row row own c.args.sums.now slot c.requires.slot here past))

pub returns : goal.returns
returns c =
    let held = c.requires.held in
    let row = c.args.row in let slot = c.args.slot in let own = c.if-slot-lt4.in_front in
    let here : slot < 4 → own ≡ row = λ low. elim c.if-slot-lt4.branch [ then-slot-lt4 w ↦ w.in_front-is | else-slot-lt4 w ↦ absurd (omega (arith, low, w.if-slot-lt4.false)) ] in
    let past : 4 ≤ slot → own ≡ 0 = λ high. elim c.if-slot-lt4.branch [ then-slot-lt4 w ↦ absurd (omega (arith, high, w.if-slot-lt4.true)) | else-slot-lt4 w ↦ w.in_front-is ] in
    let front = c.of_row.ensures ∙ front_of_row row own c.args.sums.now slot c.requires.slot here past ∙ sym (ap front_of held.1) in
    let rest = ap (λ r. r * c.rest_unit.result) c.from.ensures ∙ ap (λ u. row * u) c.rest_unit.ensures
    ∙ sym (rest_of_row (packed_key held.0.front.number) held.0.rest row c.args.sums.now held.0.rest_fits slot c.requires.slot held.1) in
    same_numbers (packed_key c.of_row.result.number) (packed_key held.0.front.number) (c.from.result * c.rest_unit.result) held.0.rest front rest ∙ held.1
