use Rattle.std.proofs.Common.{ap, refl}
use Rattle.cursor_set.specs.CursorSet.{CursorSet}
use Rattle.command_output.proofs.Moves.{held_forked, only_places, unknown_closed}
use Rattle.command_output.proofs.open_cursors.fork.Goals as goal

pub returns-in_default : goal.returns-in_default
returns-in_default g c =
    record {
      held =
          λ places held opened closed.
          unknown_closed c.args.set.now c.args.cursors.now places c.args.name.now c.told-cursors c.in_default.ensures.unknown held opened;
      only = refl;
    }

pub returns : goal.returns
returns g c =
    record {
      held =
          λ places held opened closed.
          held_forked c.args.set.now c.fork.new.self c.args.cursors.now places c.in-Some.id.number c.args.name.now c.in-Some.place held c.in-Some.ensures.found c.in-Ok.copy.number
          (record { name = c.args.new; place = c.in-Some.place }) c.in-Ok.ensures.forked.1 closed refl (ap (λ (s : CursorSet). s.places) c.in-Ok.ensures.forked.2);
      only = only_places c.args.set.now c.fork.new.self _ c.in-Ok.ensures.forked.2;
    }

pub returns-in_default-fork : goal.returns-in_default-fork
returns-in_default-fork g c =
    record {
      held = λ places held opened closed. tt;
      only = only_places c.args.set.now c.fork.new.self c.args.set.now.places c.in_default-fork.ensures.refused.1;
    }
