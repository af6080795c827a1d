-- The kind of engine that is asked for.
use Rattle.std.specs.Prelude.{ℕ, Option, Some, None}
use Rattle.cmd_words.specs.declared.command.Engine.{Engine}
use Rattle.cmd_words.specs.declared.command.Engine.TheVariants as name
use Rattle.engine_choice.specs.declared.kind.EngineKind.{EngineKind}
use Rattle.engine_choice.specs.declared.kind.EngineKind.TheVariants as kind

-- the kind with this name on the command line
abbrev pub kind_named : Engine → EngineKind
kind_named name.Part = kind.Part
kind_named name.Rec = kind.Rec

-- the one with this name, or none of the two if the best answers of an item's rows are asked for
abbrev pub kind_asked : Engine → Option ℕ → Option EngineKind
kind_asked engine None = Some (kind_named engine)
kind_asked engine (Some _) = None
