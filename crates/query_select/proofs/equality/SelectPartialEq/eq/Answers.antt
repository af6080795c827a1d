use Rattle.query_select.specs.SameLaws.{same_iff}
use Rattle.query_select.proofs.equality.SelectPartialEq.eq.Goals as goal

pub returns-clause-but_for_offsets : goal.returns-clause-but_for_offsets
returns-clause-but_for_offsets c = same_iff c.args.self.now c.args.other.now c.have_same_parts.result c.have_same_parts.ensures
