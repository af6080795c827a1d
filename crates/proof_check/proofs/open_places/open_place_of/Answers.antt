use Rattle.std.proofs.Common.{inl, inr}
use Rattle.proof_check.proofs.open_places.open_place_of.Goals as goal

pub returns : goal.returns
returns g c = record {
  group = c.in_ok-group.ensures.1;
  within = c.in_ok-group.ensures.0;
  base = c.in_ok-base.ensures;
}

pub group_of-requires-clause-ready : goal.group_of-requires-clause-ready
group_of-requires-clause-ready g c = c.requires.ready

pub group_of-requires-clause-rows : goal.group_of-requires-clause-rows
group_of-requires-clause-rows g c = c.requires.rows

pub base_of-requires-clause-ready : goal.base_of-requires-clause-ready
base_of-requires-clause-ready g c = c.requires.ready

pub base_of-requires-clause-rows : goal.base_of-requires-clause-rows
base_of-requires-clause-rows g c = c.requires.rows

pub returns-in_err-group : goal.returns-in_err-group
returns-in_err-group g c = rw c.from_residual.ensures (inl c.in_err-group.ensures)

pub returns-in_err-base : goal.returns-in_err-base
returns-in_err-base g c = rw c.from_residual-in_err-base.ensures (inr c.in_err-base.ensures)
