use Rattle.std.proofs.Common.{◌≡◌, ◌∙◌, ap, sym, subst, IfErr, IfOk, OnOk, None, length}
use Rattle.std.proofs.lemmas.Result.{IfOk-from_err}
use Rattle.std.specs.Option.{option_or}
use Rattle.anyk_model.specs.Table.{flaw_of, rows_flaw, table_of}
use Rattle.csv_tables.specs.Faults.{IsTableFault}
use Rattle.table_store.specs.Values.{lists_of}
use Rattle.csv_tables.proofs.Refusals.{none_on_ok, same_tells}
use Rattle.csv_tables.proofs.reading.read_table.Goals as goal

pub returns-in_err-names : goal.returns-in_err-names
returns-in_err-names c =
    let r = c.from_residual.result in
    let e = c.from_residual.ensures in
    record {
      sound = none_on_ok r _ e.0;
      table = IfOk-from_err r _ e.0;
      fault = same_tells r c.in_err-names.field-0.0 (flaw_of c.args.records.now) e.1 c.in_err-names.ensures.fault;
    }

pub returns : goal.returns
returns c =
    let r = c.read_rows.result in
    let read = c.read_rows.ensures in
    let names = lists_of c.in_ok-names.names.items in
    let left = c.read_names.new.records in
    let split = c.in_ok-names.ensures.names in
    let flaw : flaw_of c.args.records.now ≡ rows_flaw (length names) 1 left =
    ap flaw_of split ∙ ap (λ o. option_or o (rows_flaw (length names) 1 left)) c.in_ok-names.ensures.sound in
    record {
      sound = subst (λ f. OnOk r (f ≡ None)) (sym flaw) read.sound;
      table = subst (λ l. IfOk r (λ t. t ≡ table_of l)) (sym split) read.table;
      fault = subst (λ f. IfErr r (IsTableFault f)) (sym flaw) read.fault;
    }
