use Rattle.std.proofs.Common.{◌≡◌, ◌<◌, ◌∙◌, inl, inr, length, get_or, Some, ℕ, sym, ap, arith}
use Rattle.std.proofs.lemmas.Bool.{eqb-true}
use Rattle.table_store.proofs.Own.{own_from, own_none, own_plain, own_value}
use Rattle.table_store.proofs.Weights.{some_bytes}
use Rattle.table_store.proofs.number.own_number.Goals as goal

pub returns-then-is_empty : goal.returns-then-is_empty
returns-then-is_empty c =
    let field = c.args.field.now in
    sym (own_none field (λ n e.
    let plain = own_plain field n e in
    elim c.then-is_empty.either [
      | inl empty ↦ omega (arith, plain.1, eqb-true (length field) 0 (sym c.is_empty.ensures ∙ empty))
      | inr long ↦ omega (arith, plain.2, long.1)
    ]))

pub returns-then-field-gt1 : goal.returns-then-field-gt1
returns-then-field-gt1 c =
    let field = c.args.field.now in
    sym (own_none field (λ n e. omega (arith, (own_plain field n e).3 c.if-field-eq48.true, c.if-field-gt1.true)))

pub returns-in_err-number : goal.returns-in_err-number
returns-in_err-number c =
    let field = c.args.field.now in
    c.from_residual.ensures ∙ sym (own_none field (λ n e. c.in_err-number.ensures (own_plain field n e).0))

pub returns-then-number : goal.returns-then-number
returns-then-number c =
    let field = c.args.field.now in
    sym (own_none field (λ n e. omega (arith, own_value field n e, c.in_ok-number.ensures.1, c.if-number.true)))

pub returns : goal.returns
returns c =
    let field = c.args.field.now in
    let value = c.in_ok-number.ensures in
    let some : 0 < length field = some_bytes (length field) c.is_empty.ensures c.if-is_empty.false in
    let lead : get_or field 0 0 ≡ 48 → length field ≡ 1 = λ zero. elim c.else-field-eq48.either [
      | inl short ↦ omega (arith, some, short.1)
      | inr other ↦ absurd (other zero)
    ] in
    ap (λ (n : ℕ). Some n) value.1 ∙ sym (own_from field value.0 some lead (omega (arith, value.1, c.if-number.false)))
