use Rattle.std.proofs.Common.{◌≡◌, ℕ, List, Ok, length, map}
use Rattle.std.specs.List.{AllByRecursion}
use Rattle.cmd_words.specs.NamedPairs.{named_pair}
use Rattle.rankings.specs.Order.{IsMember}
use Rattle.verdict.specs.Loading.{files_read}
use Rattle.verdict.specs.StageResults.{Staged, shelved}
use Rattle.command_input.specs.Entries.{IsEntryOf, tables_of}
use Rattle.command_input.proofs.Reading.{IsReached}
use Rattle.command_input.proofs.tables.read_each.Given as goal

abbrev pub invariant-loop-entry : goal.invariant-loop-entry
invariant-loop-entry g l =
    (length l.tables ≡ l.entry-index)
    × ((named : List (List ℕ × List ℕ)) → AllByRecursion (IsEntryOf named) (map (λ e. named_pair e.now) l.entries)
    → Staged (IsReached named (map (λ e. named_pair e.now) l.entries) l.entry-index)
    (λ files file. IsMember file (files_read files named (tables_of (map (λ e. named_pair e.now) l.entries))))
    (shelved g.F.Shelf l.initial.shelf) (shelved g.F.Shelf l.shelf) (Ok l.tables))
