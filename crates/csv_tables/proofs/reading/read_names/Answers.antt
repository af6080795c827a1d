use Rattle.std.proofs.Common.{◌≡◌, ◌≤◌, ◌<◌, ◌∙◌, inr, ap, sym, subst, [], false, option_map, rules}
use Rattle.std.proofs.lemmas.Result.{IfOk-from_err}
use Rattle.anyk_model.specs.Table.{flaw_of}
use Rattle.csv_tables.specs.Faults.{fault_of}
use Rattle.csv.specs.Records.{fields_of}
use Rattle.csv_tables.proofs.Headers.{are_first, no_flaw, not_wide, repeats, too_wide}
use Rattle.csv_tables.proofs.Refusals.{memory_tells, same_tells}
use Rattle.csv_tables.proofs.reading.read_names.Goals as goal

pub returns-in_err-next : goal.returns-in_err-next
returns-in_err-next c =
    let r = c.from_residual.result in
    let e = c.from_residual.ensures in
    record { names = IfOk-from_err r _ e.0; sound = IfOk-from_err r _ e.0; fault = memory_tells r (flaw_of c.args.records.now) e.1 }

pub returns-then-not-branch : goal.returns-then-not-branch
returns-then-not-branch c =
    let missed : c.in_ok-next.field-0 ≡ false = search rules in
    let none : c.args.records.now ≡ [] = rw missed at c.in_ok-next.ensures in
    record { names = tt; sound = tt; fault = inr (ap (λ l. option_map fault_of (flaw_of l)) none) }

pub returns-in_err-names : goal.returns-in_err-names
returns-in_err-names c =
    let r = c.from_residual-in_err-names.result in
    let e = c.from_residual-in_err-names.ensures in
    record { names = IfOk-from_err r _ e.0; sound = IfOk-from_err r _ e.0; fault = memory_tells r (flaw_of c.args.records.now) e.1 }

pub check_names-requires : goal.check_names-requires
check_names-requires c =
    not_wide (fields_of c.next.new.row) c.next.new.self c.args.records.now (rw c.if-not-branch.false at c.in_ok-next.ensures) c.in_ok-names.names.items c.deref.result.now c.deref.ensures.value c.in_ok-names.ensures
    (subst (λ n. n ≤ 64) c.len.ensures c.if-len-gt-MAX_COLUMNS.false)

pub returns-then-len-gt-MAX_COLUMNS : goal.returns-then-len-gt-MAX_COLUMNS
returns-then-len-gt-MAX_COLUMNS c =
    let first = rw c.if-not-branch.false at c.in_ok-next.ensures in
    record {
      names = tt;
      sound = tt;
      fault = too_wide (fields_of c.next.new.row) c.next.new.self c.args.records.now first (subst (λ n. 64 < n) c.len.ensures c.if-len-gt-MAX_COLUMNS.true);
    }

pub returns-in_err-check_names : goal.returns-in_err-check_names
returns-in_err-check_names c =
    let r = c.from_residual-in_err-check_names.result in
    let e = c.from_residual-in_err-check_names.ensures in
    let fault = c.in_err-check_names.field-0.0 in
    let tells = repeats (fields_of c.next.new.row) c.next.new.self c.args.records.now (rw c.if-not-branch.false at c.in_ok-next.ensures) c.in_ok-names.names.items c.deref.result.now c.deref.ensures.value c.in_ok-names.ensures
    fault (sym c.in_err-check_names.was ∙ c.check_names.ensures) in
    record { names = IfOk-from_err r _ e.0; sound = IfOk-from_err r _ e.0; fault = same_tells r fault (flaw_of c.args.records.now) e.1 tells }

pub returns : goal.returns
returns c =
    let first = rw c.if-not-branch.false at c.in_ok-next.ensures in
    let names = c.in_ok-names.names.items in
    let copies = c.deref.result.now in
    record {
      names = are_first (fields_of c.next.new.row) c.next.new.self c.args.records.now first names copies c.deref.ensures.value c.in_ok-names.ensures;
      sound = no_flaw (fields_of c.next.new.row) c.next.new.self c.args.records.now first names copies c.deref.ensures.value c.in_ok-names.ensures
          (sym c.in_ok-check_names.was ∙ c.check_names.ensures);
      fault = tt;
    }
