-- What one step of a script does.
use Rattle.std.specs.Prelude.{ℕ, Bool, List, Option, Result, OnOk}
use Rattle.cursor_set.specs.CursorSet.{CursorSet}
use Rattle.outer_io.specs.declared.fault.PrintFault.{PrintFault}
use Rattle.outer_io.specs.Printing.{Printed}
use Rattle.outer_io.specs.SinkState.{SinkState}
use Rattle.session_script.specs.declared.step.Step.{Step}
use Rattle.output_model.specs.Session.{Places, places_after, step_text}
use Rattle.output_model.specs.SessionCalls.{calls_of_step, reach_of_step}
use Rattle.output_model.specs.SessionPieces.{step_pieces}
use Rattle.bound_query.specs.Steps.{whole_lines}
use Rattle.command_output.specs.declared.open_cursors.OpenCursor.{OpenCursor}
use Rattle.command_output.specs.OpenCursors.{HoldsCursors}
use Rattle.command_output.specs.SessionCosts.{Paid, SetPaced}

-- the state of a session between two steps
pub record State : Type 0 where
  pub set : CursorSet
  pub cursors : List (Option OpenCursor)
  pub sink : SinkState
  pub steps : ℕ

-- the step prints its text, moves the cursors, costs its calls, and keeps pace with what it prints
pub record IsTaken (share : List ℕ → ℕ → ℕ) (line : List ℕ → List ℕ → List ℕ) (ends : Bool)
    (members : List (List ℕ)) (places : Places) (step : Step) (old new : State)
    (result : Result (Unit {0}) PrintFault) : Type 0 where
  pub printed : Printed old.sink new.sink (step_text line members places step) result
  pub held : OnOk result (HoldsCursors new.set new.cursors (places_after members places step))
  pub paid : Paid share old.set new.set (reach_of_step ends members places step)
      (calls_of_step ends members places step) old.steps new.steps result
  pub paced : SetPaced share old.set (whole_lines (step_pieces line members places step))
      old.sink.written new.sink.written old.steps new.steps
