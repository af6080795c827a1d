use Rattle.std.proofs.Common.{◌≡◌, ◌∙◌, ◌∷◌, [], Global, Vec, arith, length, sym, ap, subst, Result, Ok, Err, OnOk, IfOk, IfErr, ℕ, None}
use Rattle.std.proofs.lemmas.List.{length-map}
use Rattle.std.specs.Result.{result_and}
use Rattle.anyk_model.specs.Table.{rows_flaw, table_of}
use Rattle.csv_tables.specs.Faults.{IsTableFault}
use Rattle.table_store.specs.Values.{lists_of}
use Rattle.csv_tables.proofs.reading.read_rows.Goals as goal

-- what holds of a value after a call holds of what is handed on after it
handed : {T U E : Type 0} (s : Result T E) (r : Result U E) (x : T) (P : T → Type 0) → s ≡ result_and r (Ok x) → OnOk r (P x) → IfOk s P
handed s (Ok _) x P e h = subst (λ o. IfOk o P) (sym e) h
handed s (Err _) x P e h = subst (λ o. IfOk o P) (sym e) tt

-- and what holds of an error of the call
handed_err : {T U E : Type 0} (s : Result T E) (r : Result U E) (x : T) (P : E → Type 0) → s ≡ result_and r (Ok x) → IfErr r P → IfErr s P
handed_err s (Ok _) x P e h = subst (λ o. IfErr o P) (sym e) tt
handed_err s (Err _) x P e h = subst (λ o. IfErr o P) (sym e) h

pub add_rows-read-requires-clause-width : goal.add_rows-read-requires-clause-width
add_rows-read-requires-clause-width c =
    omega (arith, c.len-width.ensures, c.args.names.ok.0, length-map c.args.names.items (λ (v : Vec ℕ Global). v.items), ap (λ t. length t.names) c.new-table.ensures)

pub add_rows-read-requires-clause-no_rows : goal.add_rows-read-requires-clause-no_rows
add_rows-read-requires-clause-no_rows c = c.new-table.ensures ∙ sym (ap (λ t. record { names = t.names; rows = [] }) c.new-table.ensures)

pub returns : goal.returns
returns c =
    let names = lists_of c.args.names.items in
    let records = c.args.records.now in
    let made = c.add_rows-read.ensures in
    let width : c.len-width.result ≡ length names = omega (arith, c.len-width.ensures, c.args.names.ok.0, length-map c.args.names.items (λ (v : Vec ℕ Global). v.items)) in
    let e = c.and.ensures in
    let flaw = ap (λ w. rows_flaw w 1 records) width in
    record {
      sound = handed c.and.result c.add_rows-read.result c.add_rows-read.new.table (λ _. rows_flaw (length names) 1 records ≡ None) e (subst (λ f. OnOk c.add_rows-read.result (f ≡ None)) flaw made.sound);
      table = handed c.and.result c.add_rows-read.result c.add_rows-read.new.table (λ t. t ≡ table_of (names ∷ records)) e
          (subst (λ t. OnOk c.add_rows-read.result (c.add_rows-read.new.table ≡ table_of (t.names ∷ records))) c.new-table.ensures made.table);
      fault = handed_err c.and.result c.add_rows-read.result c.add_rows-read.new.table (IsTableFault (rows_flaw (length names) 1 records)) e (subst (λ f. IfErr c.add_rows-read.result (IsTableFault f)) flaw made.fault);
    }
