use Rattle.std.proofs.Common.{◌≡◌, ◌<◌, ◌+◌, ◌-◌, ◌∙◌, sym, rules, length}
use Rattle.csv.proofs.RecordFacts.{prev-first, prev-next}
use Rattle.table_store.proofs.fields.start_of.Goals as goal
use Rattle.table_store.proofs.fields.start_of.Goals.{then-place-eq0, else-place-eq0}

pub returns : goal.returns
returns c = elim c.if-place-eq0.branch [
  | then-place-eq0 w ↦ rw (w.start-is, w.if-place-eq0.true) (sym (prev-first _))
  | else-place-eq0 w ↦
      let one : (c.args.place - 1) + 1 ≡ c.args.place = search rules in
      let lt : (c.args.place - 1) + 1 < length c.args.ends.now = rw one c.requires in
      let e = rw one at (prev-next 0 c.args.ends.now (c.args.place - 1) 0 lt) in
      w.start-is ∙ sym e
]
