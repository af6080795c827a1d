use Rattle.std.proofs.Common.{◌≡◌, ◌≤◌, None, ◌∷◌, ◌++◌, [], ◌∙◌, ap, length, refl, subst, sym}
use Rattle.stream_store.specs.Entries.{Entries}
use Rattle.stream_store.proofs.Rooms.{le_same}
use Rattle.stream_store.proofs.store.Store.push.Goals.{then-spare-eq0+in_default, else-spare-eq0}
use Rattle.stream_store.proofs.store.Store.push.Goals as goal

pub returns-in-Err : goal.returns-in-Err
returns-in-Err g c = record { id = tt; entries = tt; spare = tt; value = refl; err = c.in-Err.ensures.err; cost = c.tick.ensures }

pub returns : goal.returns
returns g c =
    let put = c.push_reserved.ensures in
    let kept : c.if-spare-eq0.self.entries ≡ c.args.self.now.entries = elim c.if-spare-eq0.branch [
      | then-spare-eq0+in_default w ↦ ap (λ (s : Entries g.row.T.Denot). s.entries) w.self-is ∙ w.reserve.ensures.entries
      | else-spare-eq0 w ↦ ap (λ (s : Entries g.row.T.Denot). s.entries) w.self-is
    ] in
    let room : c.args.self.now.spare ≤ c.if-spare-eq0.self.spare = elim c.if-spare-eq0.branch [
      | then-spare-eq0+in_default w ↦ subst (λ (s : Entries g.row.T.Denot). c.args.self.now.spare ≤ s.spare) (sym w.self-is) w.reserve.ensures.grows
      | else-spare-eq0 w ↦ subst (λ (s : Entries g.row.T.Denot). c.args.self.now.spare ≤ s.spare) (sym w.self-is) (le_same c.args.self.now.spare)
    ] in
    record {
      id = put.id ∙ ap length kept;
      entries = put.entries ∙ ap (λ l. l ++ record { value = c.args.value; next = None } ∷ []) kept;
      spare = subst (λ n. c.args.self.now.spare ≤ n) (sym put.spare) room;
      value = tt;
      err = tt;
      cost = put.cost;
    }
