use Rattle.union_all.proofs.Rankings.{rankings_left}
use Rattle.union_all.proofs.merge_laws.rankings_are_left.Goals as goal

pub returns : goal.returns
returns c = rankings_left
