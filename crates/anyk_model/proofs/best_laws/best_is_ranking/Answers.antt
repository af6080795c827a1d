use Rattle.anyk_model.proofs.Least.{best_ranking}
use Rattle.anyk_model.proofs.best_laws.best_is_ranking.Goals as goal

pub returns : goal.returns
returns c = best_ranking
