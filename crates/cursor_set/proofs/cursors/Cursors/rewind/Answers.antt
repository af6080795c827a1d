use Rattle.std.proofs.Common.{Some, None, refl, arith}
use Rattle.std.proofs.lemmas.List.{get_or-set_same}
use Rattle.cursor_set.proofs.Driving.{in_range}
use Rattle.cursor_set.proofs.CursorMoves.{at_most_same, not_open, places_set}
use Rattle.cursor_set.proofs.Placing.{open_here, changed_here}
use Rattle.cursor_set.proofs.cursors.Cursors.rewind.Goals as goal

pub returns-in_default : goal.returns-in_default
returns-in_default g c =
    record { rewound = tt; place = tt; refused = (refl, not_open _ _ c.args.id.number c.self.view_is c.in_default.not-Some, refl) }

pub invariant_of-self : goal.invariant_of-self
invariant_of-self g c =
    let found = c.self.inside.found.len in
    (c.self.invariant.0, places_set c.self.inside.places c.args.id.number found found 0 (at_most_same found) (omega arith) c.self.invariant.1)

pub returns : goal.returns
returns g c =
    let at = c.in-Some.is in
    record {
      rewound = (open_here _ _ c.self.view_is c.args.id.number _ at, changed_here _ _ c.self.view_is c.args.id.number (Some 0) (Some 0) refl);
      place = get_or-set_same c.self.inside.places c.args.id.number (Some 0) None (in_range c.self.inside.places c.args.id.number _ at);
      refused = tt;
    }
