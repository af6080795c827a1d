use Rattle.std.proofs.Common.{◌∷◌, ◌++◌, [], ◌∙◌, ap, sym, subst}
use Rattle.std.proofs.lemmas.Result.{IfOk-from_err}
use Rattle.anyk_model.specs.Table.{Table, flaw_of, records_of}
use Rattle.table_store.specs.Tables.{IsSound}
use Rattle.table_store.proofs.Stands.{on_err}
use Rattle.csv_tables.proofs.Refusals.{memory_tells, none_on_ok, same_tells}
use Rattle.csv_tables.proofs.Rows.{sound_table}
use Rattle.csv_tables.proofs.reading.Tables.read.Goals as goal

pub add-requires-clause-few : goal.add-requires-clause-few
add-requires-clause-few c = c.requires.few

pub add-requires-clause-sound : goal.add-requires-clause-sound
add-requires-clause-sound c =
    subst IsSound (sym c.in_ok-table.ensures.table) (sound_table (records_of c.args.bytes.now) c.in_ok-table.ensures.sound)

pub returns-in_err-table : goal.returns-in_err-table
returns-in_err-table c =
    let r = c.from_residual.result in
    let e = c.from_residual.ensures in
    record {
      number = IfOk-from_err r _ e.0;
      added = none_on_ok r _ e.0;
      sound = none_on_ok r _ e.0;
      fault = same_tells r c.in_err-table.field-0.0 (flaw_of (records_of c.args.bytes.now)) e.1 c.in_err-table.ensures.fault;
      err = on_err r (λ _. c.args.self.now);
    }

pub returns-in_err-add : goal.returns-in_err-add
returns-in_err-add c =
    let r = c.from_residual-in_err-add.result in
    let e = c.from_residual-in_err-add.ensures in
    record {
      number = IfOk-from_err r _ e.0;
      added = none_on_ok r _ e.0;
      sound = none_on_ok r _ e.0;
      fault = memory_tells r (flaw_of (records_of c.args.bytes.now)) e.1;
      err = on_err r c.in_err-add.ensures.err;
    }

pub returns : goal.returns
returns c = record {
  number = c.in_ok-add.ensures.number;
  added = c.in_ok-add.ensures.added ∙ ap (λ (t : Table). c.args.self.now ++ t ∷ []) c.in_ok-table.ensures.table;
  sound = c.in_ok-table.ensures.sound;
  fault = tt;
  err = tt;
}
