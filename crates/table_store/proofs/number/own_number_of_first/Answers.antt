use Rattle.std.proofs.Common.{◌≡◌, ◌∙◌, inl, inr, length, get_or, take, Some, ℕ, sym, ap, arith}
use Rattle.std.proofs.lemmas.List.{get_or-take, length-take-le}
use Rattle.table_store.proofs.Eights.{is_read, no_digits}
use Rattle.table_store.proofs.Own.{own_from, own_none, own_plain}
use Rattle.table_store.proofs.number.own_number_of_first.Goals as goal

pub returns-then-not-are_digits : goal.returns-then-not-are_digits
returns-then-not-are_digits c =
    let bytes = c.args.bytes.now in
    let none = no_digits bytes c.args.len _ c.told-bytes c.fits-bytes c.from_le_bytes.ensures c.requires.few c.are_digits.result c.are_digits.ensures c.if-not-are_digits.true in
    sym (own_none (take c.args.len bytes) (λ n e. none (own_plain _ n e).0))

pub returns-then-len-gt1 : goal.returns-then-len-gt1
returns-then-len-gt1 c =
    let bytes = c.args.bytes.now in
    let lead : get_or (take c.args.len bytes) 0 0 ≡ 48 = get_or-take c.args.len bytes 0 0 c.requires.some ∙ c.if-bytes-eq48.true in
    let long : length (take c.args.len bytes) ≡ c.args.len = length-take-le c.args.len bytes (omega arith) in
    sym (own_none (take c.args.len bytes) (λ n e. omega (arith, (own_plain _ n e).3 lead, long, c.if-len-gt1.true)))

pub overflow_cast-result : goal.overflow_cast-result
overflow_cast-result c =
    let r = is_read c.args.bytes.now c.args.len _ c.told-bytes c.fits-bytes c.from_le_bytes.ensures c.requires.few c.are_digits.result c.are_digits.ensures c.if-not-are_digits.false c.value_of_eight.result c.value_of_eight.ensures in
    omega (arith, r.small, r.is)

pub returns : goal.returns
returns c =
    let bytes = c.args.bytes.now in
    let field = take c.args.len bytes in
    let r = is_read bytes c.args.len _ c.told-bytes c.fits-bytes c.from_le_bytes.ensures c.requires.few c.are_digits.result c.are_digits.ensures c.if-not-are_digits.false c.value_of_eight.result c.value_of_eight.ensures in
    let long : length field ≡ c.args.len = length-take-le c.args.len bytes (omega arith) in
    let first = get_or-take c.args.len bytes 0 0 c.requires.some in
    let lead : get_or field 0 0 ≡ 48 → length field ≡ 1 = λ zero. elim c.else-bytes-eq48.either [
      | inl short ↦ omega (arith, long, short.1, c.requires.some)
      | inr other ↦ absurd (other (sym first ∙ zero))
    ] in
    ap (λ (n : ℕ). Some n) r.is ∙ sym (own_from field r.digits (omega (arith, long, c.requires.some)) lead (omega (arith, r.small)))
