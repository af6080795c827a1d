use Rattle.std.proofs.Common.{◌≡◌, ◌++◌, [], ℕ, replicate, subst, rules}
use Rattle.answer_print.specs.WrittenRecords.{HasFields}
use Rattle.union_all.proofs.header_fields.push_empty.Goals as goal

pub returns : goal.returns
returns c = λ fields has.
    let all : c.loop-field._field ≡ c.args.count = search rules in
    subst (λ (n : ℕ). HasFields (fields ++ replicate n []) c.loop-field.records.begun) all (c.loop-field.invariant fields has)
