use Rattle.std.proofs.Common.{◌≤◌, None, IfSome, refl}
use Rattle.std.proofs.lemmas.List.Elements.{All-set}
use Rattle.cursor_set.proofs.CursorMoves.{not_open}
use Rattle.cursor_set.proofs.Placing.{open_here, changed_here}
use Rattle.cursor_set.proofs.cursors.Cursors.close.Goals as goal

pub returns-in_default : goal.returns-in_default
returns-in_default g c =
    record { closed = tt; refused = (refl, not_open _ _ c.args.id.number c.self.view_is c.in_default.not-Some, refl) }

pub invariant_of-self : goal.invariant_of-self
invariant_of-self g c =
    (c.self.invariant.0, All-set (λ p. IfSome p (λ n. n ≤ c.self.inside.found.len)) c.self.inside.places c.args.id.number None tt c.self.invariant.1)

pub returns : goal.returns
returns g c =
    let at = c.in-Some.is in
    record {
      closed = (open_here _ _ c.self.view_is c.args.id.number _ at, changed_here _ _ c.self.view_is c.args.id.number None None refl);
      refused = tt;
    }
