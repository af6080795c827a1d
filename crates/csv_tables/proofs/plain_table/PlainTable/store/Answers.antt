use Rattle.std.proofs.Common.{◌∙◌, length, ap, sym}
use Rattle.std.proofs.lemmas.Result.{IfOk-from_err}
use Rattle.anyk_model.specs.Table.{Fields, Table}
use Rattle.table_store.specs.StoredTables.{cut_rows}
use Rattle.table_store.specs.Values.{lists_of, with_fields, with_rows}
use Rattle.table_store.proofs.Cuts.{with_rows_cut}
use Rattle.table_store.proofs.Stands.{on_err}
use Rattle.csv_tables.proofs.Refusals.{none_on_ok}
use Rattle.csv_tables.proofs.plain_table.PlainTable.store.Goals as goal

pub returns : goal.returns
returns c =
    let inside = c.self.inside in
    record {
      shown = ap (λ (f : Fields). record { names = lists_of inside.names.items; rows = cut_rows (length inside.names.items) inside.count f }) c.into_list-fields.ensures
          ∙ c.self.view_is;
      stored = record { stand = c.in_ok-cells.ensures.numbers; size = ap length c.into_list-fields.ensures ∙ c.self.invariant.size };
      texts = c.in_ok-cells.ensures.texts ∙ ap (with_fields c.args.texts.now) c.into_list-fields.ensures
          ∙ sym (with_rows_cut c.args.texts.now (length inside.names.items) inside.count inside.fields c.self.invariant.size)
          ∙ ap (λ (t : Table). with_rows c.args.texts.now t.rows) c.self.view_is;
      err = tt;
    }

pub returns-in_err-cells : goal.returns-in_err-cells
returns-in_err-cells c =
    let r = c.from_residual.result in
    let e = c.from_residual.ensures.0 in
    record {
      shown = IfOk-from_err r _ e;
      stored = IfOk-from_err r _ e;
      texts = none_on_ok r _ e;
      err = on_err r c.in_err-cells.ensures.err;
    }
