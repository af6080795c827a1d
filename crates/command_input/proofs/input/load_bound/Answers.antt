use Rattle.std.proofs.Common.{◌<◌, ◌∙◌, ℕ, List, [], IfErr, length, ap, subst, sym}
use Rattle.std.specs.List.{AllByRecursion}
use Rattle.std.proofs.lemmas.Result.{IfOk-from_err}
use Rattle.cmd_words.specs.NamedPairs.{named_pair}
use Rattle.rankings.specs.Order.{IsMember}
use Rattle.refusals.specs.RefusalReasons.{reason_of}
use Rattle.verdict.specs.Loading.{all_items, unknown_table, with_steps}
use Rattle.verdict.specs.Stages.{Is}
use Rattle.session_script.specs.Script.{unless}
use Rattle.verdict.specs.Words.{IsNamed, names_table, table_file_names}
use Rattle.command_input.specs.InputFiles.{sought_view}
use Rattle.verdict.specs.StageResults.{Staged, TellsOne, shelved}
use Rattle.verdict.specs.Verdict.{IsBoundInput, IsSelected}
use Rattle.command_input.specs.FilesRead.{IsSelectedTurn}
use Rattle.command_input.specs.BoundInputs.{bound_result_view}
use Rattle.command_input.proofs.Handing.{handed_with}
use Rattle.command_input.proofs.FirstUses.{few_firsts, numbers_known}
use Rattle.command_input.proofs.Telling.{bound_tells, pure_tells, wider_told}
use Rattle.command_input.proofs.Selected.{tables_read, tables_refused, unknown_refused}
use Rattle.command_input.proofs.input.load_bound.Goals as goal

pub returns-in_err-uses : goal.returns-in_err-uses
returns-in_err-uses g c = record {
  staged =
      λ beside.
      handed_with (λ r. Staged (λ files. IsSelected (sought_view c.args.sought.now) files c.args.selects.now beside) (λ files. IsSelectedTurn (sought_view c.args.sought.now) files c.args.selects.now) (shelved g.F.Shelf c.args.shelf.now) (shelved g.F.Shelf c.args.shelf.now) (bound_result_view beside r)) c.from_residual.result c.in_err-uses.field-0.0 c.from_residual.ensures.1
      (unknown_refused (sought_view c.args.sought.now) c.args.selects.now beside _ _ c.in_err-uses.ensures.known);
  tells =
      let sought = sought_view c.args.sought.now in
      handed_with (λ r. IfErr r (λ refusal. TellsOne (IsNamed sought) (reason_of refusal))) c.from_residual.result c.in_err-uses.field-0.0 c.from_residual.ensures.1
      (pure_tells (IsNamed sought) (Is (unless (unknown_table sought.named (all_items c.args.selects.now)) c.args.selects.now)) (reason_of c.in_err-uses.field-0.0) c.in_err-uses.ensures.known);
  whole = IfOk-from_err c.from_residual.result _ c.from_residual.ensures.0;
  branches = IfOk-from_err c.from_residual.result _ c.from_residual.ensures.0;
  unnamed = λ _. IfOk-from_err c.from_residual.result _ c.from_residual.ensures.0;
}

pub read_tables-requires : goal.read_tables-requires
read_tables-requires g c =
    rw c.deref.ensures.value
    (few_firsts (λ e. named_pair e.now) (sought_view c.args.sought.now).named (all_items c.args.selects.now) c.in_ok-uses.uses.firsts.items _ c.in_ok-uses.ensures.used c.requires.items)

pub returns-in_err-tables : goal.returns-in_err-tables
returns-in_err-tables g c = record {
  staged =
      λ beside.
      let sought = sought_view c.args.sought.now in
      let used = c.in_ok-uses.ensures.used in
      let read = (rw c.deref.ensures.value at c.in_err-tables.ensures.staged) sought.named used.entries in
      handed_with (λ r. Staged (λ files. IsSelected sought files c.args.selects.now beside) (λ files. IsSelectedTurn sought files c.args.selects.now) (shelved g.F.Shelf c.args.shelf.now) (shelved g.F.Shelf c.read_tables.new.shelf) (bound_result_view beside r)) c.from_residual-in_err-tables.result c.in_err-tables.field-0.0 c.from_residual-in_err-tables.ensures.1
      (tables_refused sought c.args.selects.now beside _ _ _ c.in_ok-uses.ensures.known (rw used.tables at read));
  tells =
      let sought = sought_view c.args.sought.now in
      let used = c.in_ok-uses.ensures.used in
      let IsFile : List ℕ → Type 0 = λ file. IsMember file (table_file_names sought.named) in
      handed_with (λ r. IfErr r (λ refusal. TellsOne (IsNamed sought) (reason_of refusal))) c.from_residual-in_err-tables.result c.in_err-tables.field-0.0 c.from_residual-in_err-tables.ensures.1
      (wider_told IsFile (IsNamed sought) (λ file member. names_table member) (reason_of c.in_err-tables.field-0.0)
      ((rw c.deref.ensures.value at c.in_err-tables.ensures.tells) sought.named used.entries));
  whole = IfOk-from_err c.from_residual-in_err-tables.result _ c.from_residual-in_err-tables.ensures.0;
  branches = IfOk-from_err c.from_residual-in_err-tables.result _ c.from_residual-in_err-tables.ensures.0;
  unnamed = λ _. IfOk-from_err c.from_residual-in_err-tables.result _ c.from_residual-in_err-tables.ensures.0;
}

pub bound_to-requires-clause-numbers : goal.bound_to-requires-clause-numbers
bound_to-requires-clause-numbers g c = c.deref-2.ensures.value ∙ c.in_ok-uses.ensures.used.numbers

pub bound_to-requires-clause-known : goal.bound_to-requires-clause-known
bound_to-requires-clause-known g c =
    subst (AllByRecursion (λ t. t < length c.in_ok-tables.tables)) (sym c.deref-2.ensures.value)
    (numbers_known (λ e. named_pair e.now) (sought_view c.args.sought.now).named (all_items c.args.selects.now) c.in_ok-uses.uses.firsts.items _ c.in_ok-uses.ensures.used
    _ (c.in_ok-tables.ensures.count ∙ ap length c.deref.ensures.value))

pub returns : goal.returns
returns g c = record {
  staged =
      λ beside.
      let sought = sought_view c.args.sought.now in
      let used = c.in_ok-uses.ensures.used in
      let read = (rw c.deref.ensures.value at c.in_ok-tables.ensures.staged) sought.named used.entries in
      tables_read sought c.args.selects.now beside _ _ c.in_ok-tables.tables _ c.in_ok-uses.ensures.known (rw used.tables at read) (c.bound_to.ensures.bound beside);
  tells = bound_tells (IsNamed (sought_view c.args.sought.now)) (IsBoundInput (sought_view c.args.sought.now) c.args.selects.now c.in_ok-tables.tables (with_steps [])) (with_steps []) c.bound_to.result (c.bound_to.ensures.bound (with_steps []));
  whole = c.bound_to.ensures.whole;
  branches = c.bound_to.ensures.branches;
  unnamed = c.bound_to.ensures.unnamed;
}
