use Rattle.anyk_model.proofs.Best.{best_first, first_best}
use Rattle.anyk_model.proofs.best_laws.best_are_first.Goals as goal

pub returns : goal.returns
returns c = λ item list rows. (best_first item rows list, first_best item rows list)
