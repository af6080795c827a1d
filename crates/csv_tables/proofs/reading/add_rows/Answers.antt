use Rattle.std.proofs.Common.{◌≡◌, ◌+◌, ◌∷◌, [], ◌∙◌, ℕ, length, sym, ap, inl, inr, None, true, false, rules}
use Rattle.csv.specs.Records.{fields_of}
use Rattle.anyk_model.specs.Table.{row_flaw, rows_flaw, table_of}
use Rattle.csv_tables.specs.declared.fault.TableFault.TheVariants as fault
use Rattle.csv_tables.specs.Faults.{refusal}
use Rattle.csv_tables.proofs.Refusals.{memory_tells, none_on_ok, refusal_none, same_tells}
use Rattle.csv_tables.proofs.Rows.{reads_all, reads_more, reads_none, turn_fault}
use Rattle.csv_tables.proofs.reading.add_rows.Goals as goal

pub returns-in_err-next : goal.returns-in_err-next
returns-in_err-next c =
    let r = c.from_residual.result in
    let e = c.from_residual.ensures in
    record { sound = none_on_ok r _ e.0; table = none_on_ok r _ e.0; fault = memory_tells r (rows_flaw c.args.width 1 c.args.records.now) e.1 }

pub returns-then-not-branch : goal.returns-then-not-branch
returns-then-not-branch c =
    let names = c.args.table.now.names in
    let missed : c.in_ok-next.field-0 ≡ false = search rules in
    let none : c.rows.records ≡ [] = rw missed at c.in_ok-next.ensures in
    let r = c.rows.invariant in
    let all = reads_all none r in
    record {
      sound = ap (λ (w : ℕ). rows_flaw w 1 c.args.records.now) c.requires.width ∙ ap (rows_flaw (length names) 1) (sym all) ∙ r.sound;
      table = r.shows ∙ ap (λ l. table_of (names ∷ l)) all;
      fault = tt;
    }

pub returns-in_err-check_row : goal.returns-in_err-check_row
returns-in_err-check_row c =
    let names = c.args.table.now.names in
    let fields = fields_of c.next.new.row in
    let r = c.from_residual-in_err-check_row.result in
    let e = c.from_residual-in_err-check_row.ensures in
    let found : c.in_ok-next.field-0 ≡ true = search rules in
    let next : c.rows.records ≡ fields ∷ c.next.new.self = rw found at c.in_ok-next.ensures in
    let width = c.requires.width in
    let tells = turn_fault names c.args.records.now c.rows.records c.next.new.self c.rows.count c.rows.table fields c.rows.invariant next
    c.in_err-check_row.field-0.0
    (sym c.in_err-check_row.was ∙ c.check_row.ensures ∙ ap (λ (w : ℕ). refusal (row_flaw w (c.rows.count + 1) fields)) width) in
    record {
      sound = none_on_ok r _ e.0;
      table = none_on_ok r _ e.0;
      fault = same_tells r c.in_err-check_row.field-0.0 (rows_flaw c.args.width 1 c.args.records.now) e.1 (rw width (inr tells));
    }

pub returns-in_err-push_row : goal.returns-in_err-push_row
returns-in_err-push_row c =
    let r = c.from_residual-in_err-push_row.result in
    let e = c.from_residual-in_err-push_row.ensures in
    record { sound = none_on_ok r _ e.0; table = none_on_ok r _ e.0; fault = memory_tells r (rows_flaw c.args.width 1 c.args.records.now) e.1 }

pub rows-preserved : goal.rows-preserved
rows-preserved c =
    let names = c.args.table.now.names in
    let fields = fields_of c.next.new.row in
    let passed = refusal_none (row_flaw c.args.width (c.rows.count + 1) fields) (sym c.in_ok-check_row.was ∙ c.check_row.ensures) in
    let none : row_flaw (length names) (c.rows.count + 1) fields ≡ None = ap (λ (w : ℕ). row_flaw w (c.rows.count + 1) fields) (sym c.requires.width) ∙ passed in
    let found : c.in_ok-next.field-0 ≡ true = search rules in
    let next : c.rows.records ≡ fields ∷ c.next.new.self = rw found at c.in_ok-next.ensures in
    reads_more names c.args.records.now c.rows.records c.next.new.self c.rows.count c.rows.table fields c.rows.invariant next none
    c.push_row.new.self c.in_ok-push_row.ensures.added

pub rows-init : goal.rows-init
rows-init c = reads_none c.args.table.now.names c.args.records.now c.args.table.now c.requires.no_rows

pub returns : goal.returns
returns c = record { sound = tt; table = tt; fault = inl (λ _. fault.NoMemory) }
