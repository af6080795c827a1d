use Rattle.std.proofs.Common.{◌<◌, ◌≤◌, ◌∙◌, sym, ap, length, Some, ℤ, arith, rules}
use Rattle.std.specs.Int.{w128}
use Rattle.std.specs.Int.RustNames.{FitsSigned}
use Rattle.std.specs.Result.{result_ok}
use Rattle.std.specs.Str.Parse.{without_leading_sign}
use Rattle.std.proofs.lemmas.Int.{to_z-of_z}
use Rattle.table_store.proofs.Weights.{some_bytes, weight_parsed, weight_text}
use Rattle.table_store.proofs.weight.parse_weight.Goals as goal

pub returns-in_default : goal.returns-in_default
returns-in_default c = sym (weight_text c.args.field.now c.in_default.ensures.cases.0)

pub returns-in_default-parse : goal.returns-in_default-parse
returns-in_default-parse c =
    let some : 0 < length c.args.field.now = some_bytes (length c.args.field.now) c.is_empty.ensures c.if-is_empty.false in
    let few : length (without_leading_sign c.args.field.now) ≤ 39 = omega (arith, ap length c.digits_of.ensures) in
    let parsed = rw c.in-Ok.ensures.cases.0 at c.parse.ensures.value.0 in
    sym (weight_parsed c.args.field.now c.parse.result some parsed few ∙ ap result_ok c.in_default-parse.is)

pub returns : goal.returns
returns c =
    let some : 0 < length c.args.field.now = some_bytes (length c.args.field.now) c.is_empty.ensures c.if-is_empty.false in
    let few : length (without_leading_sign c.args.field.now) ≤ 39 = omega (arith, ap length c.digits_of.ensures) in
    let parsed = rw c.in-Ok.ensures.cases.0 at c.parse.ensures.value.0 in
    let fits : FitsSigned w128 c.in-Ok-parse.weight = search rules in
    ap (λ (z : ℤ). Some z) (to_z-of_z w128 c.in-Ok-parse.weight fits)
    ∙ sym (weight_parsed c.args.field.now c.parse.result some parsed few ∙ ap result_ok c.in-Ok-parse.is)
