use Rattle.std.proofs.Common.{◌≡◌, ◌≤◌, ◌-◌, ◌∙◌, List, ℕ, length, take, drop, ap, arith}
use Rattle.std.proofs.lemmas.List.{length-drop, length-take-le, take-take, take_all}
use Rattle.table_store.specs.Values.{own_number}
use Rattle.table_store.proofs.number.own_number_at.Goals as goal

-- the first n of the first eight, of a rest that is taken whole
first_of : (xs chunk : List ℕ) (all n count : ℕ) → chunk ≡ take 8 (take all xs) → length xs ≤ all → count ≡ n → n ≤ 8 → take count chunk ≡ take n xs
first_of xs chunk all n count same whole is few = (λ i. take (is i) ((same ∙ ap (take 8) (take_all all xs whole)) i)) ∙ take-take n 8 xs few

pub returns : goal.returns
returns c =
    let bytes = c.args.bytes.now in
    let rest = drop c.args.start bytes in
    let left = length-drop c.args.start bytes in
    let n = c.args.end - c.args.start in
    let long : length (take n rest) ≡ n = length-take-le n rest (omega (arith, left)) in
    let first = first_of rest c.in-Some.word.now (length bytes - c.args.start) n (length (take n rest)) c.in-Some.ensures.cases.same (omega (arith, left)) long (omega (arith, long, c.if-field-gt8.false)) in
    c.own_number_of_first.ensures ∙ ap own_number first
