-- What the arguments of a command say, from the texts that `clap` gives for them.
use Rattle.std.specs.Prelude.{ℕ, ◌&&◌, Bool, false, List, Option, Some, None, codes, if◌then◌else◌, map, option_map, option_and_then, is_some}
use Rattle.std.specs.Str.{bytes_eq}
use Rattle.std.specs.String.{string_bytes}
use Rattle.clap.specs.Walk.{Row, all_of, first_of}
use Rattle.cmd_words.specs.Numbers.{number_in}
use Rattle.cmd_words.specs.Pairs.{pairs_of, are_pairs}
use Rattle.cmd_words.specs.NamedPairs.{named_pair, are_distinct}
use Rattle.cmd_words.specs.declared.texts.OptionTexts.{OptionTexts as TextsRead}
use Rattle.cmd_words.specs.declared.command.Engine.{Engine}
use Rattle.cmd_words.specs.declared.command.Engine.TheVariants.{Part, Rec}
use Rattle.cmd_words.specs.declared.command.Words.{Words}

-- what the arguments of a command over files say; only `session` has a script, only `verify` a
-- certificate, and only `run` and `session` may name an item of which each row's best answer is
-- asked for
pub record WordsSaid : Type 0 where
  pub engine : Engine
  pub ranks : Bool
  pub rows : Bool
  pub script : Option (List ℕ)
  pub proof : Option (List ℕ)
  pub best_of : Option (List ℕ)
  pub query : List ℕ
  pub tables : List (List ℕ × List ℕ)

-- the texts of these commands' arguments
pub record OptionTexts : Type 0 where
  pub engine : Option (List ℕ)
  pub ranks : Option (List ℕ)
  pub rows : Option (List ℕ)
  pub script : Option (List ℕ)
  pub proof : Option (List ℕ)
  pub best_of : Option (List ℕ)
  pub query : Option (List ℕ)
  pub tables : Option (List (List ℕ))

abbrev pub texts_of : List Row → OptionTexts
texts_of rows = record {
  engine = first_of (codes "engine") rows;
  ranks = first_of (codes "ranks") rows;
  rows = first_of (codes "rows") rows;
  script = first_of (codes "script") rows;
  proof = first_of (codes "proof") rows;
  best_of = first_of (codes "best-of") rows;
  query = first_of (codes "query") rows;
  tables = all_of (codes "tables") rows;
}

-- `run` has no script and no certificate
abbrev pub run_texts : OptionTexts → OptionTexts
run_texts texts = record texts { script = None; proof = None }

-- `session` has no certificate
abbrev pub session_texts : OptionTexts → OptionTexts
session_texts texts = record texts { proof = None }

-- a command without options: the engine is `part`, and the flags are not set
abbrev pub no_options : OptionTexts → OptionTexts
no_options texts =
    record texts {
      engine = Some (codes "part");
      ranks = None;
      rows = None;
      script = None;
      proof = None;
      best_of = None;
    }

-- `plan` has no options
abbrev pub plan_texts : OptionTexts → OptionTexts
plan_texts texts = no_options texts

-- `prove` has the engine alone
abbrev pub prove_texts : OptionTexts → OptionTexts
prove_texts texts = record (no_options texts) { engine = texts.engine }

-- `verify` has the flags and a certificate
abbrev pub verify_texts : OptionTexts → OptionTexts
verify_texts texts = record
    (no_options texts) { ranks = texts.ranks; rows = texts.rows; proof = texts.proof }

abbrev pub engine_of : Option (List ℕ) → Option Engine
engine_of None = None
engine_of (Some text) = if bytes_eq text (codes "part") then Some Part else
    (if bytes_eq text (codes "rec") then Some Rec else None)

-- the flag is set
abbrev pub is_set : Option (List ℕ) → Bool
is_set None = false
is_set (Some text) = bytes_eq text (codes "true")

-- the tables and their files, if each argument is TABLE=FILE and no two name the same table
abbrev pub tables_of : Option (List (List ℕ)) → Option (List (List ℕ × List ℕ))
tables_of None = None
tables_of (Some words) = if are_pairs words && are_distinct (pairs_of words) then Some
    (pairs_of words) else None

abbrev pub said : Bool → Bool → Option (List ℕ) → Option (List ℕ) → Option (List ℕ) → Option Engine
    → Option (List ℕ) → Option (List (List ℕ × List ℕ)) → Option WordsSaid
said ranks rows script proof best_of (Some engine) (Some query) (Some tables) =
    Some (record {
      engine = engine;
      ranks = ranks;
      rows = rows;
      script = script;
      proof = proof;
      best_of = best_of;
      query = query;
      tables = tables;
    })
said ranks rows script proof best_of (Some engine) (Some query) None = None
said ranks rows script proof best_of (Some engine) None tables = None
said ranks rows script proof best_of None query tables = None

-- what the texts say, and none if they say nothing
abbrev pub said_by : OptionTexts → Option WordsSaid
said_by texts =
    said (is_set texts.ranks) (is_set texts.rows) texts.script texts.proof texts.best_of
    (engine_of texts.engine) texts.query
    (tables_of texts.tables)

-- `session` has a script
abbrev pub session_by : OptionTexts → Option WordsSaid
session_by texts = if is_some texts.script then said_by texts else None

-- `verify` has a certificate
abbrev pub verify_by : OptionTexts → Option WordsSaid
verify_by texts = if is_some texts.proof then said_by texts else None

-- what `load` says: the engine, the number and the rows
abbrev pub load_said : Option Engine → Option ℕ → Option ℕ → Option (Engine × ℕ × ℕ)
load_said (Some engine) (Some number) (Some rows) = Some (engine, number, rows)
load_said (Some engine) (Some number) None = None
load_said (Some engine) None rows = None
load_said None number rows = None

-- the same from the texts of its options
abbrev pub load_by_texts : Option (List ℕ) → Option (List ℕ) → Option (List ℕ)
    → Option (Engine × ℕ × ℕ)
load_by_texts engine number rows = load_said (engine_of engine)
    (option_and_then (number_in 0 2147483647) number) (option_and_then (number_in 1 100000) rows)

abbrev pub load_by : List Row → Option (Engine × ℕ × ℕ)
load_by rows = load_by_texts (first_of (codes "engine") rows) (first_of (codes "number") rows)
    (first_of (codes "rows") rows)

abbrev pub arguments_view : TextsRead → OptionTexts
arguments_view texts = record {
  engine = option_map (λ s. s.now) texts.engine;
  ranks = option_map (λ s. s.now) texts.ranks;
  rows = option_map (λ s. s.now) texts.rows;
  script = option_map (λ s. s.now) texts.script;
  proof = option_map (λ s. s.now) texts.proof;
  best_of = option_map (λ s. s.now) texts.best_of;
  query = option_map (λ s. s.now) texts.query;
  tables = option_map (λ s. map (λ v. v.now) s.now) texts.tables;
}

abbrev pub words_view : Words → WordsSaid
words_view words = record {
  engine = words.engine;
  ranks = words.ranks;
  rows = words.rows;
  script = option_map string_bytes words.script;
  proof = option_map string_bytes words.proof;
  best_of = option_map string_bytes words.best_of;
  query = string_bytes words.query;
  tables = map named_pair words.tables.items;
}
