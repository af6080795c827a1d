use Rattle.std.proofs.Common.{◌≡◌, ◌+◌, ◌-◌, ◌≤◌, ◌++◌, Some, length, drop}
use Rattle.std.specs.Prelude.{codes, slice_set}
use Rattle.cursor_set.specs.CursorSet.{place_of}
use Rattle.outer_io.specs.SinkState.{state_of}
use Rattle.output_model.specs.Session.{next_text}
use Rattle.output_model.specs.SessionPieces.{next_pieces}
use Rattle.command_output.specs.SessionCosts.{Spent}
use Rattle.command_output.specs.SessionListing.{line_in, members_in}
use Rattle.command_output.proofs.Left.{HasLeft}
use Rattle.command_output.proofs.Pieces.{HasPieces}
use Rattle.command_output.proofs.next_step.print_next.Given as goal

abbrev pub invariant-loop-given : goal.invariant-loop-given
invariant-loop-given g l =
    let members = members_in l.listing l.initial.set.answers in
    let line = line_in l.listing l.name in
    let ending = l.name ++ codes "\n" in
    let start = l.initial.place in
    record {
      place : l.place ≡ start + l._given;
      within : l._given ≤ length (drop start members);
      answers : l.set.answers ≡ l.initial.set.answers;
      places : l.set.places ≡ slice_set l.initial.set.places l.id.number (Some l.place);
      here : place_of l.set l.id.number ≡ Some l.place;
      left : HasLeft (next_text line ending (drop start members) l.count) (next_text line ending (drop (start + l._given) members) (l.count - l._given))
          (state_of g.S.Sink l.initial.out) (state_of g.S.Sink l.out);
      pieces : HasPieces (next_pieces line ending (drop start members) l.count) (next_pieces line ending (drop (start + l._given) members) (l.count - l._given)) l._given
          (g.S.Sink.written l.initial.out) (g.S.Sink.written l.out);
      spent : Spent g.E.Ranked.share l.initial.set l.set (start + l._given) l._given l.initial.steps l.steps;
    }
