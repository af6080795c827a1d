-- What the arguments of the command line ask for.
use Rattle.std.specs.Prelude.{◌≡◌, ℕ, List, Option, Some, None}
use Rattle.refusals.specs.Reason as reason
use Rattle.refusals.specs.Reason.{Reason}
use Rattle.cmd_words.specs.declared.fault.WordsFault.{WordsFault}
use Rattle.cmd_words.specs.declared.fault.WordsFault.TheVariants as fault
use Rattle.cmd_words.specs.Commands.{CommandSaid, parsed_command, run_said, session_said, plan_said, prove_said, verify_said, load_said}
use Rattle.command_input.specs.Tasks.{words_of}
use Rattle.verdict.specs.Words.{Words, Asked, no_command, a_command, run, plan, session, load, prove, verify}

-- `clap` accepts the arguments of a session only if a script is among them
abbrev pub asked_session : Option (List ℕ) → Words → Asked
asked_session None words = no_command
asked_session (Some script) words = a_command (session script words)

-- and those of `verify` only if a certificate is among them
abbrev pub asked_verify : Option (List ℕ) → Words → Asked
asked_verify None words = no_command
asked_verify (Some proof) words = a_command (verify proof words)

abbrev pub command_asked : Option CommandSaid → Asked
command_asked None = no_command
command_asked (Some (run_said said)) = a_command (run (words_of said))
command_asked (Some (session_said said)) = asked_session said.script (words_of said)
command_asked (Some (plan_said said)) = a_command (plan (words_of said))
command_asked (Some (prove_said said)) = a_command (prove (words_of said))
command_asked (Some (verify_said said)) = asked_verify said.proof (words_of said)
command_asked (Some (load_said engine number rows)) = a_command (load number rows)

-- what these arguments ask for
abbrev pub asked_in : List (List ℕ) → Asked
asked_in words = command_asked (parsed_command words)

-- why a call ends if its arguments are rejected
abbrev pub rejected_as : WordsFault → Reason
rejected_as fault.Usage = reason.Usage
rejected_as fault.NoMemory = reason.NoMemory

-- the arguments are not a command, or memory ran out
abbrev pub IsEarly : Asked → WordsFault → Type 0
IsEarly asked fault.Usage = asked ≡ no_command
IsEarly asked fault.NoMemory = Unit {0}
