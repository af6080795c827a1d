use Rattle.std.proofs.Common.{ap, refl, sym, ◌∙◌}
use Rattle.cursor_set.specs.CursorSet.{CursorSet}
use Rattle.command_output.proofs.Moves.{held_at, no_place, only_places, place_held, unknown_closed}
use Rattle.command_output.proofs.open_cursors.rewind.Goals as goal

pub returns-in_default : goal.returns-in_default
returns-in_default g c =
    record {
      held =
          λ places held opened.
          unknown_closed c.args.set.now c.args.cursors.now places c.args.name.now c.told-cursors c.in_default.ensures.unknown held opened;
      only = refl;
    }

pub returns-in_default-rewind : goal.returns-in_default-rewind
returns-in_default-rewind g c =
    record {
      held =
          λ places held opened.
          no_place (sym c.in_default-rewind.ensures.refused.1
          ∙ place_held c.args.set.now c.args.set.now c.args.cursors.now places c.in-Some.id.number c.args.name.now _ held c.in-Some.ensures.found);
      only = only_places c.args.set.now c.rewind.new.self c.args.set.now.places c.in_default-rewind.ensures.refused.2;
    }

pub returns : goal.returns
returns g c =
    record {
      held =
          λ places held opened.
          held_at c.args.set.now c.rewind.new.self c.args.cursors.now places c.in-Some.id.number c.args.name.now _ held c.in-Some.ensures.found
          (record { name = c.args.name; place = 0 }) refl (ap (λ (s : CursorSet). s.places) c.in-Ok.ensures.rewound.1);
      only = only_places c.args.set.now c.rewind.new.self _ c.in-Ok.ensures.rewound.1;
    }
