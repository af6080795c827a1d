use Rattle.std.proofs.Common.{◌≡◌, ◌-◌, ◌≤◌, ◌∙◌, false, true, ap, refl, subst, sym}
use Rattle.std.proofs.lemmas.Bool.{false≢true}
use Rattle.stream_store.specs.Entries.{Entries}
use Rattle.stream_store.proofs.Rooms.{le_le, le_same, none_on_ok, on_err, spare_enough, spare_grows, spare_there}
use Rattle.stream_store.proofs.store.Store.reserve.Goals as goal

pub invariant_of-self : goal.invariant_of-self
invariant_of-self g c =
    let inside = c.self.inside in
    let inv = c.self.invariant in
    let made = c.in_err-make_room.ensures in
    (made.filled, made.made, inv.2, le_le inside.room inside.made c.make_room.new.made inv.3 made.grows, made.small)

pub invariant_of-self-2 : goal.invariant_of-self-2
invariant_of-self-2 g c =
    let inside = c.self.inside in
    let inv = c.self.invariant in
    let made = c.in_ok-make_room.ensures in
    let within = le_le inside.len inside.made c.make_room.new.made (le_le inside.len inside.room inside.made inv.2 inv.3) made.grows in
    (made.filled, made.made, within, le_same c.make_room.new.made, made.small)

pub returns : goal.returns
returns g c =
    let inside = c.self.inside in
    let made = c.in_ok-make_room.ensures in
    let new = c.make_room.new.made in
    let spare = ap (λ (s : Entries g.row.T.Denot). s.spare) c.self.view_is in
    let more = le_le inside.room inside.made new c.self.invariant.3 made.grows in
    record {
      entries = made.entries ∙ ap (λ (s : Entries g.row.T.Denot). s.entries) c.self.view_is;
      ok = spare_there inside.len c.args.count new made.ok;
      err = tt;
      grows = subst (λ n. n ≤ new - inside.len) spare (spare_grows inside.len inside.room new more);
      succeeds = λ _. refl;
    }

pub returns-in_err-make_room : goal.returns-in_err-make_room
returns-in_err-make_room g c =
    let inside = c.self.inside in
    let inv = c.self.invariant in
    let made = c.in_err-make_room.ensures in
    let r = c.from_residual.result in
    let spare = ap (λ (s : Entries g.row.T.Denot). s.spare) c.self.view_is in
    record {
      entries = made.entries ∙ ap (λ (s : Entries g.row.T.Denot). s.entries) c.self.view_is;
      ok = none_on_ok r _ c.from_residual.ensures.0;
      err = on_err r ((λ i. record { entries = made.entries i; spare = inside.room - inside.len }) ∙ c.self.view_is);
      grows = subst (λ n. n ≤ inside.room - inside.len) spare (le_same (inside.room - inside.len));
      succeeds = λ few.
          let enough = spare_enough inside.len inside.room inside.made c.args.count inv.2 inv.3 (subst (λ n. c.args.count ≤ n) (sym spare) few) in
          let none : false ≡ true = made.succeeds enough in
          absurd (false≢true none);
    }
