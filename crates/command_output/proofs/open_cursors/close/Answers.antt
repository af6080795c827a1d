use Rattle.std.proofs.Common.{ap, refl, sym, ◌∙◌}
use Rattle.cursor_set.specs.CursorSet.{CursorSet}
use Rattle.command_output.proofs.Moves.{held_closed, no_place, only_places, place_held, unknown_closed}
use Rattle.command_output.proofs.open_cursors.close.Goals as goal

pub returns-in_default : goal.returns-in_default
returns-in_default g c =
    record {
      held =
          λ places held opened.
          unknown_closed c.args.set.now c.args.cursors.now places c.args.name.now c.told-cursors c.in_default.ensures.unknown held opened;
      only = refl;
    }

pub returns-in_default-close : goal.returns-in_default-close
returns-in_default-close g c =
    record {
      held =
          λ places held opened.
          no_place (sym c.in_default-close.ensures.refused.1
          ∙ place_held c.args.set.now c.args.set.now c.args.cursors.now places c.in-Some.id.number c.args.name.now _ held c.in-Some.ensures.found);
      only = only_places c.args.set.now c.close.new.self c.args.set.now.places c.in_default-close.ensures.refused.2;
    }

pub returns : goal.returns
returns g c =
    record {
      held =
          λ places held opened.
          held_closed c.args.set.now c.close.new.self c.args.cursors.now places c.in-Some.id.number c.args.name.now _ held c.in-Some.ensures.found
          (ap (λ (s : CursorSet). s.places) c.in-Ok.ensures.closed.1);
      only = only_places c.args.set.now c.close.new.self _ c.in-Ok.ensures.closed.1;
    }
