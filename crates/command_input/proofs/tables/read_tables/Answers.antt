use Rattle.std.proofs.Common.{◌≡◌, ◌∙◌, ℕ, List, Ok, ap, length}
use Rattle.std.specs.Result.{result_and}
use Rattle.anyk_model.specs.Table.{Table}
use Rattle.rankings.specs.Order.{IsMember}
use Rattle.verdict.specs.Words.{table_file_names}
use Rattle.command_input.specs.StageViews.{said_as, tables_result_view}
use Rattle.command_input.proofs.Reading.{handed_count, handed_tables}
use Rattle.command_input.proofs.Telling.{handed_tells}
use Rattle.command_input.proofs.tables.read_tables.Goals as goal

pub returns : goal.returns
returns g c = record {
  staged =
      λ named known.
      let read = c.read_each-read.result in
      let shown : tables_result_view c.and.result ≡ said_as c.read_each-read.new.tables read =
      ap tables_result_view c.and.ensures ∙ ap (λ (t : List Table). tables_result_view (result_and read (Ok t))) c.into_tables.ensures ∙ handed_tables read c.read_each-read.new.tables in
      rw shown (c.read_each-read.ensures.staged named known);
  tells =
      λ named known.
      rw c.and.ensures (handed_tells (λ (file : List ℕ). IsMember file (table_file_names named)) c.read_each-read.result c.into_tables.result
      (c.read_each-read.ensures.tells named known));
  count = rw (c.and.ensures, c.into_tables.ensures) (handed_count c.read_each-read.result c.read_each-read.new.tables (length c.args.entries.now) c.read_each-read.ensures.count);
}
