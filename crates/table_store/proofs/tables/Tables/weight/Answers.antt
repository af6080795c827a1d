use Rattle.std.proofs.Common.{◌-◌, ◌∙◌, Some, ℤ, sym, ap, arith}
use Rattle.std.specs.Int.{w128}
use Rattle.std.proofs.lemmas.Int.{to_z_pos}
use Rattle.anyk_model.specs.Table.{field_at, table_at}
use Rattle.table_store.proofs.Weights.{own_weight}
use Rattle.table_store.proofs.tables.Tables.weight.Goals as goal

pub returns-in-Some : goal.returns-in-Some
returns-in-Some c =
    let field = field_at (table_at c.args.self.now c.args.table) (c.args.row - 1) c.args.col in
    let number = c.in-Some.number in
    let own = own_weight field number (sym c.own_number.ensures ∙ c.in-Some.is) in
    ap (λ (z : ℤ). Some z) (to_z_pos w128 number (omega (arith, own.0))) ∙ sym own.1
