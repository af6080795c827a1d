use Rattle.std.proofs.Common.{length, ap, arith}
use Rattle.csv.proofs.RecordFacts.{cut-length}
use Rattle.table_store.proofs.fields.FieldList.len.Goals as goal

pub returns : goal.returns
returns c =
    let inside = c.self.inside in
    omega (arith, c.len.ensures, inside.ends.ok.0, ap length c.self.view_is, cut-length 0 inside.ends.items inside.bytes.items)
