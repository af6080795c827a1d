-- What a command reads, as the definitions of its input see it.
use Rattle.std.specs.Prelude.{ℕ, List, [], Result, Ok, map, option_map}
use Rattle.cmd_words.specs.NamedPairs.{named_pair}
use Rattle.command_input.specs.declared.input_files.SideFile.{SideFile as AsideText}
use Rattle.command_input.specs.declared.input_files.SideFile.TheVariants.{Nothing, Script, Certificate}
use Rattle.command_input.specs.declared.input_files.InputFiles.{InputFiles as SoughtText}
use Rattle.refusals.specs.Reason.{Reason}
use Rattle.verdict.specs.Loading.{SideInput, proof_said, steps_said, with_proof, with_steps}
use Rattle.verdict.specs.Stages.{then_by}
use Rattle.verdict.specs.Words.{SideFile, InputFiles, nothing, script, certificate}

-- the file of the script or of the certificate, by the bytes of its name
abbrev pub aside_view : AsideText → SideFile
aside_view Nothing = nothing
aside_view (Script name) = script name.now
aside_view (Certificate name) = certificate name.now

-- what the bytes of the file say, if there is one
abbrev pub beside_said : SideFile → List ℕ → Result SideInput Reason
beside_said nothing bytes = Ok (with_steps [])
beside_said (script name) bytes = then_by (steps_said bytes) (λ steps. Ok (with_steps steps))
beside_said (certificate name) bytes = then_by (proof_said bytes) (λ proof. Ok (with_proof proof))

-- the names of files, tables and items by their bytes
abbrev pub sought_view : SoughtText → InputFiles
sought_view sought = record {
  query = sought.query.now;
  several = sought.several;
  aside = aside_view sought.aside;
  named = map named_pair sought.named.now;
  best_of = option_map (λ alias. alias.now) sought.best_of;
}
