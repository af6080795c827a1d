-- What holds for all inputs.
use Rattle.outer_io.specs.Files.{Files}
use Rattle.verdict.specs.AcceptedInput.{AcceptedInput}
use Rattle.verdict.specs.Output.{HasOutput}
use Rattle.verdict.specs.Stages.{AtMostOne}
use Rattle.verdict.specs.Verdict.{IsLoaded, IsVerdict}
use Rattle.verdict.specs.Words.{Asked, Command}

-- an input is loaded in at most one way
abbrev pub OneLoading : Type 0
OneLoading = (asked : Asked) (files : Files) → AtMostOne (IsLoaded asked files)

-- an input has at most one verdict
abbrev pub OneVerdict : Type 0
OneVerdict = (asked : Asked) (files : Files) → AtMostOne (IsVerdict asked files)

-- an accepted input has at most one output
abbrev pub OneOutput : Type 0
OneOutput = (command : Command) (found : AcceptedInput) → AtMostOne (HasOutput command found)
