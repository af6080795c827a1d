use Rattle.std.proofs.Common.{None, is_none, refl, sym, ap, ◌∙◌, arith}
use Rattle.std.proofs.lemmas.List.{get_or-set_same}
use Rattle.std.proofs.lemmas.List.Quantifiers.{position-Some}
use Rattle.cursor_set.specs.CursorSet.{first_free}
use Rattle.cursor_set.proofs.CursorMoves.{at_most_same, not_open, place_within, places_set}
use Rattle.cursor_set.proofs.Placing.{place_here, open_here, changed_here}
use Rattle.cursor_set.proofs.cursors.Cursors.fork.Goals as goal

pub returns-in_default : goal.returns-in_default
returns-in_default g c =
    record { forked = tt; place = tt; refused = ((refl, not_open _ _ c.args.id.number c.self.view_is c.in_default.not-Some), refl) }

pub returns-in_default-free_number : goal.returns-in_default-free_number
returns-in_default-free_number g c =
    record {
      forked = tt;
      place = tt;
      refused = ((open_here _ _ c.self.view_is c.args.id.number _ c.in-Some.is, ap first_free (sym c.self.view_is) ∙ sym c.in_default-free_number.ensures), refl);
    }

pub invariant_of-self : goal.invariant_of-self
invariant_of-self g c =
    let found = c.self.inside.found.len in
    let within = place_within c.self.inside.places c.args.id.number found c.in-Some.place c.self.invariant.1 c.in-Some.is in
    (c.self.invariant.0, places_set c.self.inside.places c.in-Some-free_number.number found found c.in-Some.place (at_most_same found) within c.self.invariant.1)

pub returns : goal.returns
returns g c =
    let first = position-Some is_none c.self.inside.places c.in-Some-free_number.number None (sym c.in-Some-free_number.ensures) in
    record {
      forked = (
        open_here _ _ c.self.view_is c.args.id.number _ c.in-Some.is,
        ap first_free (sym c.self.view_is) ∙ sym c.in-Some-free_number.ensures,
        changed_here _ _ c.self.view_is c.in-Some-free_number.number _ _ (sym (place_here _ _ c.self.view_is c.args.id.number _ c.in-Some.is)),
      );
      place = get_or-set_same c.self.inside.places c.in-Some-free_number.number _ None first.0 ∙ sym (place_here _ _ c.self.view_is c.args.id.number _ c.in-Some.is);
      refused = tt;
    }

pub offset_bounds-self-inside-number : goal.offset_bounds-self-inside-number
offset_bounds-self-inside-number g c =
    let first = position-Some is_none c.self.inside.places c.in-Some-free_number.number None (sym c.in-Some-free_number.ensures) in
    omega (arith, first.0)

pub bounds-self-inside-number : goal.bounds-self-inside-number
bounds-self-inside-number g c =
    let first = position-Some is_none c.self.inside.places c.in-Some-free_number.number None (sym c.in-Some-free_number.ensures) in
    omega (arith, first.0)

pub invariant_of-result : goal.invariant_of-result
invariant_of-result g c =
    let first = position-Some is_none c.self.inside.places c.in-Some-free_number.number None (sym c.in-Some-free_number.ensures) in
    omega (arith, first.0)
