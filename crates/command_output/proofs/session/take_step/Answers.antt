use Rattle.std.proofs.Common.{◌∙◌, ℕ, List, Ok, ap, refl, sym}
use Rattle.std.proofs.lemmas.Result.{IfOk-from_err}
use Rattle.cursor_set.specs.CursorSet.{CursorSet}
use Rattle.outer_io.specs.declared.fault.PrintFault.TheVariants as fault
use Rattle.session_script.specs.declared.step.Step.TheVariants.{Next}
use Rattle.command_output.specs.SessionListing.{ends_in, line_in, members_in}
use Rattle.command_output.proofs.Moves.{same_place, unknown_closed}
use Rattle.command_output.proofs.SessionRun.{is_quiet, next_taken, quiet_taken, taken_as}
use Rattle.outer_io.proofs.HandedOn.{memory_refused}
use Rattle.command_output.proofs.session.take_step.Goals as goal

pub returns-in_default-cursor_of : goal.returns-in_default-cursor_of
returns-in_default-cursor_of g c =
    record {
      taken =
          λ places held can.
          unknown_closed c.args.set.now c.args.cursors.now places c.bytes-name.result.now c.told-cursors c.in_default-cursor_of.ensures.unknown held
          (rw (c.in-Next.is, ← c.bytes-name.ensures.value) at can);
      kept = refl;
    }

pub returns-in-Some : goal.returns-in-Some
returns-in-Some g c =
    record {
      taken =
          λ places held can.
          let told = c.print_next-printed.ensures in
          taken_as g.E.Ranked.share (line_in c.args.listing.now) (ends_in c.args.listing.now c.args.set.now.answers) (members_in c.args.listing.now c.args.set.now.answers) places
          c.args.step.now (Next c.bytes-name.result.now c.in-Next.count) _ _ c.print_next-printed.result
          (c.in-Next.is ∙ ap (λ (name : List ℕ). Next name c.in-Next.count) (sym c.bytes-name.ensures.value))
          (next_taken g.E.Ranked.share (line_in c.args.listing.now) (ends_in c.args.listing.now c.args.set.now.answers) (members_in c.args.listing.now c.args.set.now.answers) places c.in-Some.id.number c.bytes-name.result.now c.in-Some.place c.in-Next.count
          _ c.print_next-printed.new.set (record { name = c.bytes-name.result; place = c.print_next-printed.new.place }) _ c.print_next-printed.new.steps c.print_next-printed.result
          held c.in-Some.ensures.found refl told.printed told.moved told.places told.paid told.paced);
      kept = c.print_next-printed.ensures.kept;
    }

pub returns-in_ok-move_cursor-in_default : goal.returns-in_ok-move_cursor-in_default
returns-in_ok-move_cursor-in_default g c =
    record {
      taken =
          λ places held can.
          let quiet = is_quiet c.args.step.now c.in_default.not-Next in
          quiet_taken g.E.Ranked.share g.met.E.Ranked.share_rises _ _ _ places c.args.step.now c.args.set.now c.move_cursor.new.set c.args.cursors.now c.move_cursor.new.cursors _
          c.args.steps.now (Ok tt) quiet c.move_cursor.ensures.only tt (c.in_ok-move_cursor-in_default.ensures.held _ places held can quiet);
      kept = ap (λ (s : CursorSet). s.answers) c.move_cursor.ensures.only;
    }

pub returns-in_err-move_cursor-in_default : goal.returns-in_err-move_cursor-in_default
returns-in_err-move_cursor-in_default g c =
    record {
      taken =
          λ places held can.
          quiet_taken g.E.Ranked.share g.met.E.Ranked.share_rises _ _ _ places c.args.step.now c.args.set.now c.move_cursor.new.set c.args.cursors.now
          c.move_cursor.new.cursors _ c.args.steps.now _ (is_quiet c.args.step.now c.in_default.not-Next) c.move_cursor.ensures.only
          (memory_refused fault.NoMemory c.from_residual.result c.from_residual.ensures.1) (IfOk-from_err c.from_residual.result _ c.from_residual.ensures.0);
      kept = IfOk-from_err c.from_residual.result _ c.from_residual.ensures.0;
    }

pub print_next-printed-requires-clause-fits : goal.print_next-printed-requires-clause-fits
print_next-printed-requires-clause-fits g c = c.requires.fits

pub print_next-printed-requires-clause-rows : goal.print_next-printed-requires-clause-rows
print_next-printed-requires-clause-rows g c = c.requires.rows

pub print_next-printed-requires-clause-here : goal.print_next-printed-requires-clause-here
print_next-printed-requires-clause-here g c =
    same_place c.args.set.now.places c.args.cursors.now c.in-Some.id.number c.bytes-name.result.now c.in-Some.place c.requires.same c.in-Some.ensures.found
