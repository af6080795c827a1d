use Rattle.std.proofs.Common.{Some, None, is_none, refl, sym, ap, ◌∙◌, arith}
use Rattle.std.proofs.lemmas.List.{get_or-set_same}
use Rattle.std.proofs.lemmas.List.Quantifiers.{position-Some}
use Rattle.cursor_set.specs.CursorSet.{first_free}
use Rattle.cursor_set.proofs.CursorMoves.{at_most_same, places_set}
use Rattle.cursor_set.proofs.Placing.{changed_here}
use Rattle.cursor_set.proofs.cursors.Cursors.open.Goals as goal

pub returns-in_default : goal.returns-in_default
returns-in_default g c =
    record { opened = tt; place = tt; refused = (refl, ap first_free (sym c.self.view_is) ∙ sym c.in_default.ensures, refl) }

pub invariant_of-self : goal.invariant_of-self
invariant_of-self g c =
    let found = c.self.inside.found.len in
    (c.self.invariant.0, places_set c.self.inside.places c.in-Some.number found found 0 (at_most_same found) (omega arith) c.self.invariant.1)

pub returns : goal.returns
returns g c =
    let first = position-Some is_none c.self.inside.places c.in-Some.number None (sym c.in-Some.ensures) in
    record {
      opened = (ap first_free (sym c.self.view_is) ∙ sym c.in-Some.ensures, changed_here _ _ c.self.view_is c.in-Some.number (Some 0) (Some 0) refl);
      place = get_or-set_same c.self.inside.places c.in-Some.number (Some 0) None first.0;
      refused = tt;
    }

pub offset_bounds-self-inside-number : goal.offset_bounds-self-inside-number
offset_bounds-self-inside-number g c =
    let first = position-Some is_none c.self.inside.places c.in-Some.number None (sym c.in-Some.ensures) in
    omega (arith, first.0)

pub bounds-self-inside-number : goal.bounds-self-inside-number
bounds-self-inside-number g c =
    let first = position-Some is_none c.self.inside.places c.in-Some.number None (sym c.in-Some.ensures) in
    omega (arith, first.0)

pub invariant_of-result : goal.invariant_of-result
invariant_of-result g c =
    let first = position-Some is_none c.self.inside.places c.in-Some.number None (sym c.in-Some.ensures) in
    omega (arith, first.0)
