use Rattle.std.proofs.Common.{ap}
use Rattle.cursor_set.specs.CursorSet.{CursorSet}
use Rattle.command_output.proofs.Moves.{held_new, only_places}
use Rattle.command_output.proofs.open_cursors.open.Goals as goal

pub returns : goal.returns
returns g c =
    record {
      held =
          λ places held closed.
          held_new c.args.set.now c.open.new.self c.args.cursors.now places c.in-Ok.id.number held c.in-Ok.ensures.opened.0 (record { name = c.args.name; place = 0 }) closed
          (ap (λ (s : CursorSet). s.places) c.in-Ok.ensures.opened.1);
      only = only_places c.args.set.now c.open.new.self _ c.in-Ok.ensures.opened.1;
    }

pub returns-in_default : goal.returns-in_default
returns-in_default g c =
    record {
      held = λ places held closed. tt;
      only = only_places c.args.set.now c.open.new.self c.args.set.now.places c.in_default.ensures.refused.2;
    }
