use Rattle.rankings.proofs.Unique.{number_ranking_unique}
use Rattle.rankings.proofs.one_ranking_of_numbers.Goals as goal

pub returns : goal.returns
returns c = number_ranking_unique
