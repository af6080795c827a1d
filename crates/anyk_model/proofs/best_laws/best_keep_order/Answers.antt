use Rattle.anyk_model.specs.Ranking.{Precedes, ranking_of}
use Rattle.anyk_model.proofs.Exists.{ranking_is}
use Rattle.anyk_model.proofs.Best.{best_ascending}
use Rattle.anyk_model.proofs.best_laws.best_keep_order.Goals as goal

pub returns : goal.returns
returns c = λ query tables item. best_ascending (Precedes query tables) item (ranking_of query tables) (ranking_is query tables).ascending
