use Rattle.std.proofs.Common.{◌≡◌, ◌+◌, ◌∙◌, Vec, Global, ℕ, List, suc, length, ap, arith}
use Rattle.std.proofs.lemmas.List.{length-append, length-map}
use Rattle.csv.specs.Records.{fields_of}
use Rattle.anyk_model.specs.Table.{Table}
use Rattle.csv_tables.specs.PlainTables.{table_view, with_row}
use Rattle.csv_tables.specs.declared.plain_table.PlainTable.TheInside.{Inside}
use Rattle.table_store.specs.StoredTables.{cut_rows}
use Rattle.table_store.specs.Values.{lists_of}
use Rattle.table_store.proofs.Cuts.{cut_rows_length, cut_rows_push}
use Rattle.csv_tables.proofs.plain_table.PlainTable.push_row.Goals as goal

-- a row of the table's width is as long as the names are
width_of : (t : Inside) (table : Table) (row : List (List ℕ)) → table_view t ≡ table → length row ≡ length table.names → length row ≡ length t.names.items
width_of t table row is wide =
    omega (arith, wide, ap (λ (u : Table). length u.names) is, length-map t.names.items (λ (v : Vec ℕ Global). v.items))

pub overflow_add-self : goal.overflow_add-self
overflow_add-self c =
    let inside = c.self.inside in
    let rows = cut_rows_length (length inside.names.items) inside.count inside.fields in
    omega (arith, c.requires.few, rows, ap (λ (t : Table). length t.rows) (c.self.view_is ∙ c.make_room.ensures))

pub returns-clause-added : goal.returns-clause-added
returns-clause-added c =
    let inside = c.self.inside in
    let row = fields_of c.args.row.now in
    let width = length inside.names.items in
    let is : table_view inside ≡ c.args.self.now = c.self.view_is ∙ c.make_room.ensures in
    let next : inside.count + 1 ≡ suc inside.count = omega arith in
    let rows = (λ i. cut_rows width (next i) (c.in_ok-push_record.ensures.added i))
    ∙ cut_rows_push width inside.count inside.fields row c.self.invariant.size (width_of inside c.args.self.now row is c.requires.width) in
    (λ i. record { names = lists_of inside.names.items; rows = rows i }) ∙ ap (λ (t : Table). with_row t row) is

pub invariant_of-self-2 : goal.invariant_of-self-2
invariant_of-self-2 c =
    let inside = c.self.inside in
    let row = fields_of c.args.row.now in
    let wide = width_of inside c.args.self.now row (c.self.view_is ∙ c.make_room.ensures) c.requires.width in
    let longer : length c.push_record.new.self ≡ length inside.fields + length row = ap length c.in_ok-push_record.ensures.added ∙ length-append inside.fields row in
    record { size = omega (arith, longer, wide, c.self.invariant.size) }
