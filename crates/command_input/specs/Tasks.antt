-- The commands, as their verdicts name them.
use Rattle.cmd_words.specs.ArgumentMeaning.{WordsSaid, words_view}
use Rattle.std.specs.Prelude.{string_bytes}
use Rattle.verdict.specs.Words.{Command, Words, run, plan, session, load, prove, verify}
use Rattle.command_input.specs.declared.task.Task.{Task}
use Rattle.command_input.specs.declared.task.Task.TheVariants.{Run, Plan, Session, Load, Prove, Verify}

-- all but the engine, which does not change the output
abbrev pub words_of : WordsSaid → Words
words_of said = record {
  ranks = said.ranks;
  rows = said.rows;
  best_of = said.best_of;
  query = said.query;
  tables = said.tables;
}

-- a command
abbrev pub command_of : Task → Command
command_of (Run words) = run (words_of (words_view words))
command_of (Plan words) = plan (words_of (words_view words))
command_of (Session script words) = session (string_bytes script) (words_of (words_view words))
command_of (Load engine made) = load made.number made.rows
command_of (Prove words) = prove (words_of (words_view words))
command_of (Verify proof words) = verify (string_bytes proof) (words_of (words_view words))
