use Rattle.std.proofs.Common.{◌≡◌, ◌∷◌, [], eqb, ap, sym, ◌∙◌, take, drop, length, false, ◌+◌, ◌-◌, List, ℕ, refl}
use Rattle.std.proofs.Common.{arith}
use Rattle.std.proofs.lemmas.List.{drop_all}
use Rattle.std.specs.Str.Lines.{lines, strip_carriage_return}
use Rattle.text_lines.proofs.Cuts.{first_of_lines, last_line, rest_from}
use Rattle.text_lines.proofs.lines.first_line.Goals as goal

pub returns-in-Some-clause-value : goal.returns-in-Some-clause-value
returns-in-Some-clause-value c =
    let bytes = c.args.bytes.now in
    let end = c.in-Some.end in
    rw (c.without_return.ensures)
    (first_of_lines bytes end (sym c.line_end.ensures ∙ c.in-Some.is) ∙ ap
    (λ (bs : List ℕ). strip_carriage_return (take end bytes) ∷ lines bs) (sym (rest_from bytes (end + 1))))

pub returns-clause-value : goal.returns-clause-value
returns-clause-value c =
    let bytes = c.args.bytes.now in
    let some : eqb (length bytes) 0 ≡ false = sym c.is_empty.ensures ∙ c.if-is_empty.false in
    let none_left : take (length bytes - length bytes) (drop (length bytes) bytes) ≡ [] = rest_from bytes
    (length bytes) ∙ drop_all (length bytes) bytes (omega arith) in
    last_line bytes (sym c.line_end.ensures ∙ c.in_default.is) ∙ rw (some, none_left) refl
