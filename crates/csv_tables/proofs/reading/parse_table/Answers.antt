use Rattle.std.proofs.Common.{◌≡◌, subst, IfErr, IfOk, OnOk, None}
use Rattle.anyk_model.specs.Table.{flaw_of, table_of}
use Rattle.csv_tables.specs.Faults.{IsTableFault}
use Rattle.csv_tables.proofs.reading.parse_table.Goals as goal

pub returns : goal.returns
returns c =
    let r = c.read_table.result in
    let e = c.new-records.ensures in
    let read = c.read_table.ensures in
    record {
      sound = subst (λ l. OnOk r (flaw_of l ≡ None)) e read.sound;
      table = subst (λ l. IfOk r (λ t. t ≡ table_of l)) e read.table;
      fault = subst (λ l. IfErr r (IsTableFault (flaw_of l))) e read.fault;
    }
