use Rattle.std.proofs.Common.{◌-◌, ◌≡◌, ◌+◌, ◌^◌, ◌<◌, ◌≤◌, true, min}
use Rattle.cursor_set.proofs.Driving.{IsDriven, start_of}
use Rattle.cursor_set.proofs.laws.drive.Given as goal

abbrev pub invariant-loop-given : goal.invariant-loop-given
invariant-loop-given g l = record {
  given : l.given ≤ l.members;
  refused : l.refused ≤ l.refusals;
  room : l.refused < 2 ^ 64 - 1;
  driven : IsDriven l.fn.cursors l.cursors l.id.number l.given;
  counted : l.cursors.refused ≡ min (l.fn.cursors.refused + l.refused) (2 ^ 64 - 1);
  covered : start_of l.fn.cursors l.id.number + l.members ≤ l.fn.cursors.known → l.refused ≡ 0;
  after_end : l.fn.cursors.ended ≡ true → l.refused ≡ 0;
}

abbrev pub decreases-loop-given : goal.decreases-loop-given
decreases-loop-given g l = (l.members - l.given) + (2 ^ 64 - l.refused)
