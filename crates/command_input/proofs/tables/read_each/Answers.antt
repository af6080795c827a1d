use Rattle.std.proofs.Common.{◌≡◌, ◌≤◌, ℕ, List, length, map, arith, subst, sym}
use Rattle.std.proofs.lemmas.List.{length-map}
use Rattle.cmd_words.specs.NamedPairs.{named_pair}
use Rattle.rankings.specs.Order.{IsMember}
use Rattle.refusals.specs.RefusalReasons.{reason_of}
use Rattle.verdict.specs.Words.{table_file_names}
use Rattle.command_input.specs.Entries.{IsEntryOf}
use Rattle.command_input.proofs.Handing.{handed_on}
use Rattle.command_input.proofs.FirstUses.{mapped_all, mapped_at, mapped_inside}
use Rattle.command_input.proofs.Reading.{reached_end, reached_more, reached_refused}
use Rattle.command_input.proofs.Telling.{entry_named, wider_told}
use Rattle.command_input.proofs.tables.read_each.Goals as goal

pub returns-in_err-read_entry : goal.returns-in_err-read_entry
returns-in_err-read_entry g c =
    let e = handed_on c.from_residual.result c.in_err-read_entry.field-0.0 c.from_residual.ensures.1 in
    rw e (record {
      staged = λ named known.
          let i = c.loop-entry.entry-index in
          let x = c.entry-item.result in
          let xs = c.args.entries.now in
          let inside = c.loop-entry-test.true in
          let is = c.entry-item.is in
          let is_entry = mapped_all (IsEntryOf named) (λ e. named_pair e.now) xs i x inside is known in
          reached_refused named (map (λ e. named_pair e.now) xs) i (named_pair x.now) (mapped_inside (λ e. named_pair e.now) xs i inside) (mapped_at (λ e. named_pair e.now) xs i x inside is) is_entry
          c.loop-entry.tables _ _ _ _ (c.loop-entry.invariant.1 named known) (c.in_err-read_entry.ensures.staged named is_entry);
      tells = λ named known.
          let x = c.entry-item.result in
          let is_entry = mapped_all (IsEntryOf named) (λ e. named_pair e.now) c.args.entries.now c.loop-entry.entry-index x c.loop-entry-test.true c.entry-item.is known in
          let IsFile : List ℕ → Type 0 = λ file. IsMember file (table_file_names named) in
          wider_told (λ file. file ≡ (named_pair x.now).1) IsFile (λ file same. subst IsFile (sym same) (entry_named named (named_pair x.now) is_entry))
          (reason_of c.in_err-read_entry.field-0.0) c.in_err-read_entry.ensures.tells;
      count = tt;
    })

pub loop-entry-preserved : goal.loop-entry-preserved
loop-entry-preserved g c =
    let length_is = c.in_ok-read_entry.ensures.longer in
    let so_far = c.loop-entry.invariant.0 in (
      omega (arith, length_is, so_far),
      λ named known.
          let i = c.loop-entry.entry-index in
          let x = c.entry-item.result in
          let xs = c.args.entries.now in
          let inside = c.loop-entry-test.true in
          let is = c.entry-item.is in
          let is_entry = mapped_all (IsEntryOf named) (λ e. named_pair e.now) xs i x inside is known in
          reached_more named (map (λ e. named_pair e.now) xs) i (named_pair x.now) (mapped_inside (λ e. named_pair e.now) xs i inside) (mapped_at (λ e. named_pair e.now) xs i x inside is) is_entry
          c.loop-entry.tables _ _ _ c.read_entry.new.tables (c.loop-entry.invariant.1 named known) (c.in_ok-read_entry.ensures.staged named is_entry),
    )

pub returns : goal.returns
returns g c = record {
  staged =
      λ named known.
      let xs = c.args.entries.now in
      let same = length-map xs (λ e. named_pair e.now) in
      let end : length (map (λ e. named_pair e.now) xs) ≤ c.loop-entry.entry-index = omega (arith, c.loop-entry-test.false, same) in
      reached_end named (map (λ e. named_pair e.now) xs) c.loop-entry.entry-index c.loop-entry.tables _ _ end (c.loop-entry.invariant.1 named known);
  tells = λ named known. tt;
  count = omega arith;
}
