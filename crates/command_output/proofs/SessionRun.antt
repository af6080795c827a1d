-- A script that is run step by step.
use Rattle.std.proofs.Common.{◌≡◌, ◌+◌, ◌<◌, ◌≤◌, ℕ, List, [], ◌∷◌, ◌++◌, Bool, Some, None, Result, Ok, Err, OnOk, IfErr, length, drop, get_or, replicate, refl, ap, subst, sym, ◌∙◌, arith}
use Rattle.std.specs.Prelude.{slice_set, take}
use Rattle.std.specs.Io.KnownBytes.{Appends}
use Rattle.std.proofs.lemmas.List.{drop_more}
use Rattle.cursor_set.specs.CursorSet.{CursorSet}
use Rattle.outer_io.specs.declared.fault.PrintFault.{PrintFault}
use Rattle.outer_io.specs.declared.fault.PrintFault.TheVariants as fault
use Rattle.outer_io.specs.Printing.{Printed}
use Rattle.outer_io.specs.SinkState.{SinkState}
use Rattle.session_script.specs.declared.step.Step.{Step}
use Rattle.session_script.specs.declared.step.Step.TheVariants.{Open, Next, Fork, Rewind, Close}
use Rattle.session_script.specs.Script.{KeepsRules}
use Rattle.tdp_core.specs.AnswerView.{AnswerView}
use Rattle.output_model.specs.Session.{Places, next_text, no_cursors, places_after, step_text, steps_text}
use Rattle.output_model.specs.SessionPieces.{next_pieces, step_pieces, steps_pieces}
use Rattle.output_model.proofs.SessionPieces.{step_called, step_joined}
use Rattle.bound_query.specs.Steps.{whole_lines}
use Rattle.output_model.specs.SessionCalls.{calls_among, calls_of_step, calls_of_steps, reach_of_step, reach_of_steps}
use Rattle.command_output.specs.declared.listing.Listing.{Listing}
use Rattle.command_output.specs.declared.open_cursors.OpenCursor.{OpenCursor}
use Rattle.command_output.specs.SessionCosts.{KeepsSessionCost, Paid, SetPaced}
use Rattle.command_output.specs.SessionListing.{ends_in, line_in, members_in}
use Rattle.command_output.specs.OpenCursors.{HasCursor, HoldsCursors}
use Rattle.command_output.specs.SessionRules.{CanStep, PrintsNothing}
use Rattle.command_output.specs.TakenSteps.{IsTaken, State}
use Rattle.command_output.proofs.SessionCosts.{paid_places}
use Rattle.command_output.proofs.Follows.{both_ok}
use Rattle.command_output.proofs.Left.{left_whole, printed_nothing}
use Rattle.command_output.proofs.Moves.{Cursor, held_at, place_named}
use Rattle.command_output.proofs.Names.{can_follow}
use Rattle.command_output.proofs.Pieces.{HasPieces, paced_end, paced_still, paced_then, pieces_more, pieces_whole}
use Rattle.command_output.proofs.Reach.{HasPaid, next_paid, paid_all, paid_more, paid_start, paid_stopped}
use Rattle.command_output.proofs.SessionSteps.{HasTaken, can_step, next_after, next_in_pieces, next_told, none_held, taken_all, taken_more, taken_stopped}

-- ---- one step

-- a step that is not `next`
pub is_quiet : (step : Step) → ((name : List ℕ) (count : ℕ) → step ≡ Next name count → ⊥) → PrintsNothing step
is_quiet (Open name) other = tt
is_quiet (Next name count) other = other name count refl
is_quiet (Fork name new) other = tt
is_quiet (Rewind name) other = tt
is_quiet (Close name) other = tt

-- what holds of it, since it prints nothing and calls nothing
by_quiet : (P : List ℕ → ℕ → ℕ → Type 0) (line : List ℕ → List ℕ → List ℕ) (ends : Bool) (members : List (List ℕ)) (places : Places) (step : Step) → PrintsNothing step
    → P [] 0 0 → P (step_text line members places step) (reach_of_step ends members places step) (calls_of_step ends members places step)
by_quiet P line ends members places (Open name) quiet h = h
by_quiet P line ends members places (Next name count) quiet h = absurd quiet
by_quiet P line ends members places (Fork name new) quiet h = h
by_quiet P line ends members places (Rewind name) quiet h = h
by_quiet P line ends members places (Close name) quiet h = h

pub quiet_taken : (share : List ℕ → ℕ → ℕ) → ((s : List ℕ) (c d : ℕ) → c ≤ d → share s c ≤ share s d) → (line : List ℕ → List ℕ → List ℕ) (ends : Bool)
    (members : List (List ℕ)) (places : Places) (step : Step) (old new : CursorSet) (before after : List Cursor) (sink : SinkState) (steps : ℕ)
    (r : Result (Unit {0}) PrintFault) → PrintsNothing step → new ≡ record old { places = new.places } → IfErr r (λ e. e ≡ fault.NoMemory)
    → OnOk r (HoldsCursors new after (places_after members places step))
    → IsTaken share line ends members places step (record { set = old; cursors = before; sink = sink; steps = steps }) (record { set = new; cursors = after; sink = sink; steps = steps }) r
quiet_taken share rises line ends members places step old new before after sink steps r quiet only memory held =
    let P : List ℕ → ℕ → ℕ → Type 0 = λ text reach calls. Printed sink sink text r × Paid share old new reach calls steps steps r in
    let both = by_quiet P line ends members places step quiet (printed_nothing sink r memory, paid_places share rises old new steps r only) in
    record {
      printed = both.0;
      held = held;
      paid = both.1;
      paced = paced_still share rises old (whole_lines (step_pieces line members places step)) sink.written sink.written steps;
    }

-- the step `next`
pub next_taken : (share : List ℕ → ℕ → ℕ) (line : List ℕ → List ℕ → List ℕ) (ends : Bool) (members : List (List ℕ)) (places : Places) (number : ℕ) (name : List ℕ)
    (place count : ℕ) (old : State) (set : CursorSet) (cursor : OpenCursor) (sink : SinkState) (steps : ℕ) (r : Result (Unit {0}) PrintFault)
    → HoldsCursors old.set old.cursors places → HasCursor old.cursors number name place → cursor.name.now ≡ name
    → Printed old.sink sink (next_text (line name) (name ++ 10 ∷ []) (drop place members) count) r
    → OnOk r (cursor.place ≡ place + length (take count (drop place members))) → OnOk r (set.places ≡ slice_set old.set.places number (Some cursor.place))
    → Paid share old.set set (place + calls_among ends (length (drop place members)) count) (calls_among ends (length (drop place members)) count) old.steps steps r
    → SetPaced share old.set (whole_lines (next_pieces (line name) (name ++ 10 ∷ []) (drop place members) count)) old.sink.written sink.written old.steps steps
    → IsTaken share line ends members places (Next name count) old (record { set = set; cursors = slice_set old.cursors number (Some cursor); sink = sink; steps = steps }) r
next_taken share line ends members places number name place count old set cursor sink steps r held found own printed moved put paid paced =
    let at = place_named old.set set old.cursors places number name place held found in
    record {
      printed = next_told (λ text. Printed old.sink sink text r) line members places name place count at printed;
      held = both_ok r (λ to put.
          next_after (λ after. HoldsCursors set (slice_set old.cursors number (Some cursor)) after) members places name place cursor.place count at to
          (held_at old.set set old.cursors places number name place held found cursor own put)) moved put;
      paid = next_paid (λ reach calls. Paid share old.set set reach calls old.steps steps r) ends members places name place count at paid;
      paced = next_in_pieces (λ pieces. SetPaced share old.set (whole_lines pieces) old.sink.written sink.written old.steps steps) line members places name place count at paced;
    }

-- a step that is another one
pub taken_as : (share : List ℕ → ℕ → ℕ) (line : List ℕ → List ℕ → List ℕ) (ends : Bool) (members : List (List ℕ)) (places : Places) (step other : Step) (old new : State)
    (r : Result (Unit {0}) PrintFault) → step ≡ other → IsTaken share line ends members places other old new r → IsTaken share line ends members places step old new r
taken_as share line ends members places step other old new r is taken = subst (λ (s : Step). IsTaken share line ends members places s old new r) (sym is) taken

-- ---- one step after another

-- what a step does from each places that the cursors may have
abbrev pub Takes : (List ℕ → ℕ → ℕ) → Listing → List AnswerView → Step → State → State → Result (Unit {0}) PrintFault → Type 0
Takes share listing answers step old new result = (places : Places) → HoldsCursors old.set old.cursors places → CanStep places step
    → IsTaken share (line_in listing) (ends_in listing answers) (members_in listing answers) places step old new result

-- this many steps were taken, what the other steps print is left, the cost is known, and no more
-- calls were made than pieces were written
pub record HasRun (share : List ℕ → ℕ → ℕ) (listing : Listing) (answers : List AnswerView) (script : List Step) (i : ℕ) (first : CursorSet) (start : SinkState)
    (before : ℕ) (now : State) : Type 0 where
  pub places : Places
  pub taken : HasTaken (line_in listing) (members_in listing answers) script i places now.set now.cursors start now.sink
  pub calls : ℕ
  pub paid : HasPaid share (ends_in listing answers) (members_in listing answers) script i places first now.set calls before now.steps
  pub pieces : HasPieces (steps_pieces (line_in listing) (members_in listing answers) no_cursors script)
      (steps_pieces (line_in listing) (members_in listing answers) places (drop i script)) calls start.written now.sink.written

-- what the script prints, as a text and in pieces, and what it costs
abbrev pub text_in : Listing → List AnswerView → List Step → List ℕ
text_in listing answers script = steps_text (line_in listing) (members_in listing answers) no_cursors script

abbrev pub pieces_of : Listing → List AnswerView → List Step → List (List ℕ)
pieces_of listing answers script = steps_pieces (line_in listing) (members_in listing answers) no_cursors script

abbrev pub CostsWithin : (List ℕ → ℕ → ℕ) → Listing → List AnswerView → List Step → CursorSet → ℕ → ℕ → Type 0
CostsWithin share listing answers script first before now =
    KeepsSessionCost share first (reach_of_steps (ends_in listing answers) (members_in listing answers) no_cursors script)
    (calls_of_steps (ends_in listing answers) (members_in listing answers) no_cursors script) before now

module _ (share : List ℕ → ℕ → ℕ) (rises : (s : List ℕ) (c d : ℕ) → c ≤ d → share s c ≤ share s d) (listing : Listing) (answers : List AnswerView) (script : List Step) where
  pub run_start : (now : State) → now.cursors ≡ replicate 64 None → now.set.places ≡ replicate 64 None → KeepsRules [] script
      → HasRun share listing answers script 0 now.set now.sink now.steps now
  run_start now none same rules = record {
    places = no_cursors;
    taken = record {
      held = none_held now.set now.cursors none same;
      rules = can_follow (members_in listing answers) no_cursors [] script (λ name. refl) rules;
      left = left_whole (text_in listing answers script) now.sink;
    };
    calls = 0;
    paid = paid_start share rises (ends_in listing answers) (members_in listing answers) script now.set now.steps;
    pieces = pieces_whole (pieces_of listing answers script) now.sink.written;
  }

  module _ (i : ℕ) (step : Step) (inside : i < length script) (here : get_or script i step ≡ step) (first : CursorSet) (start : SinkState) (before : ℕ) (mid new : State)
      (run : HasRun share listing answers script i first start before mid) (same : mid.set.answers ≡ answers) where
    can : CanStep run.places step
    can = (can_step (line_in listing) (members_in listing answers) script i step inside here run.places run.taken.rules).0

    -- the next step, over the answers that the first one found
    one : (r : Result (Unit {0}) PrintFault) → Takes share listing mid.set.answers step mid new r
        → IsTaken share (line_in listing) (ends_in listing answers) (members_in listing answers) run.places step mid new r
    one r takes =
        let P : List AnswerView → Type 0 = λ a. IsTaken share (line_in listing) (ends_in listing a) (members_in listing a) run.places step mid new r in
        subst P same (takes run.places run.taken.held can)

    -- the pieces of the other steps, from the next one
    split : steps_pieces (line_in listing) (members_in listing answers) run.places (drop i script)
        ≡ step_pieces (line_in listing) (members_in listing answers) run.places step
        ++ steps_pieces (line_in listing) (members_in listing answers) (places_after (members_in listing answers) run.places step) (drop (i + 1) script)
    split = ap (steps_pieces (line_in listing) (members_in listing answers) run.places) (drop_more script i step inside ∙ ap (λ (s : Step). s ∷ drop (i + 1) script) here)

    pub run_more : Takes share listing mid.set.answers step mid new (Ok tt) → HasRun share listing answers script (i + 1) first start before new
    run_more takes =
        let took = one (Ok tt) takes in
        record {
          places = places_after (members_in listing answers) run.places step;
          taken = taken_more (line_in listing) (members_in listing answers) script i step inside here run.places mid.set new.set mid.cursors new.cursors start mid.sink new.sink
              run.taken took.held took.printed;
          calls = run.calls + calls_of_step (ends_in listing answers) (members_in listing answers) run.places step;
          paid = paid_more share rises (ends_in listing answers) (members_in listing answers) script i step inside here run.places first mid.set run.calls before mid.steps new.steps run.paid
              new.set took.paid.spent;
          pieces =
              let few = step_called (ends_in listing answers) (line_in listing) (members_in listing answers) run.places step in
              pieces_more (pieces_of listing answers script) (steps_pieces (line_in listing) (members_in listing answers) run.places (drop i script))
              (step_pieces (line_in listing) (members_in listing answers) run.places step)
              (steps_pieces (line_in listing) (members_in listing answers) (places_after (members_in listing answers) run.places step) (drop (i + 1) script))
              run.calls (run.calls + calls_of_step (ends_in listing answers) (members_in listing answers) run.places step)
              start.written mid.sink.written new.sink.written split (omega (arith, few)) run.pieces
              (subst (λ (text : List ℕ). Appends mid.sink.written new.sink.written text) (step_joined (line_in listing) (members_in listing answers) run.places step) took.printed.whole);
        }

    -- it was cut short
    pub run_stopped : (e : PrintFault) → Takes share listing mid.set.answers step mid new (Err e) → Printed start new.sink (text_in listing answers script) (Err e)
    run_stopped e takes =
        taken_stopped (line_in listing) (members_in listing answers) script i step inside here run.places mid.set mid.cursors start mid.sink new.sink e run.taken
        (one (Err e) takes).printed

    pub run_within : (r : Result (Unit {0}) PrintFault) → Takes share listing mid.set.answers step mid new r → CostsWithin share listing answers script first before new.steps
    run_within r takes =
        paid_stopped share rises (ends_in listing answers) (members_in listing answers) script i step inside here run.places first mid.set run.calls before mid.steps new.steps run.paid
        (one r takes).paid.within

    pub run_paced : (r : Result (Unit {0}) PrintFault) → Takes share listing mid.set.answers step mid new r
        → SetPaced share first (whole_lines (pieces_of listing answers script)) start.written new.sink.written before new.steps
    run_paced r takes =
        let took = one r takes in
        let part = took.printed.prefix in
        paced_then share rises run.pieces run.paid.paid (step_pieces (line_in listing) (members_in listing answers) run.places step)
        (steps_pieces (line_in listing) (members_in listing answers) (places_after (members_in listing answers) run.places step) (drop (i + 1) script))
        new.sink.written part.0 new.steps split part.1 took.paced

  -- all steps were taken
  module _ (i : ℕ) (first : CursorSet) (start : SinkState) (before : ℕ) (now : State) (run : HasRun share listing answers script i first start before now) where
    pub run_all : length script ≤ i → Printed start now.sink (text_in listing answers script) (Ok tt)
    run_all end = taken_all (line_in listing) (members_in listing answers) script i run.places now.set now.cursors start now.sink end run.taken

    pub run_pace : SetPaced share first (whole_lines (pieces_of listing answers script)) start.written now.sink.written before now.steps
    run_pace = paced_end share rises run.pieces run.paid.paid

    pub run_cost : CostsWithin share listing answers script first before now.steps
    run_cost = paid_all share rises (ends_in listing answers) (members_in listing answers) script i run.places first now.set run.calls before now.steps run.paid
