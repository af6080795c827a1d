-- What `clap` sees of an option or argument that a command takes.
use Rattle.std.specs.Prelude.{ℕ, List, [], ◌∷◌, Some, true, map}
use Rattle.clap.specs.Walk.{Rule}
use Rattle.clap.specs.Simple.{App, new_app, new_rule, with_rule}
use Rattle.cmd_words.specs.declared.arguments.ArgumentForm.{ArgumentForm}
use Rattle.cmd_words.specs.declared.arguments.ArgumentForm.TheVariants as form
use Rattle.cmd_words.specs.declared.arguments.Taken.{Taken as TakenRead}
use Rattle.cmd_words.specs.declared.arguments.Taking.{Taking}

-- the same, of this name and form
abbrev pub formed : ArgumentForm → List ℕ → Rule → Rule
formed form.Option name rule = record rule { long = Some name }
formed (form.Defaulted value) name rule =
    record rule { long = Some name; defaults = value.now ∷ [] }
formed form.Required name rule = record rule { long = Some name; required = true }
formed form.Place name rule = record rule { required = true }

abbrev pub rule_taken : TakenRead → Rule
rule_taken taken = formed taken.form taken.name.now
    (record (new_rule taken.name.now) { action = Some taken.action })

-- a command with these options and arguments after its own
abbrev pub with_rules : App → List Rule → App
with_rules app [] = app
with_rules app (rule ∷ rules) = with_rules (with_rule app rule) rules

-- the command that takes this
abbrev pub app_taking : Taking → App
app_taking taking = with_rules (new_app taking.name.now) (map rule_taken taking.takes.now)
