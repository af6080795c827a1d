-- The answers as which keys are seen are those of the witnesses with these keys.
use Rattle.std.proofs.Common.{◌≡◌, ◌∙◌, [], ◌∷◌, ℕ, List, map, refl, ap}
use Rattle.tdp_model.specs.KeyTuple.{KeyOf}
use Rattle.tdp_core.specs.AnswerView.{answer_of, answers_of}
use Rattle.anyk_model.specs.Table.{Table}
use Rattle.anyk_model.specs.Query.{Query}
use Rattle.witness_key.specs.WitnessKey.{answers_of_ranking, witness_key}

-- the answers of the ranking of witnesses, by their keys
pub answers_agree : (d : ℕ) (query : Query) (tables : List Table) (ranking : List (List ℕ)) (ks : List (KeyOf d 16)) → ks ≡ map (witness_key d query tables) ranking
    → answers_of d ks ≡ answers_of_ranking d query tables ranking
answers_agree d query tables ranking ks same = ap (answers_of d) same ∙ by ranking
  where
    by : (list : List (List ℕ)) → answers_of d (map (witness_key d query tables) list) ≡ answers_of_ranking d query tables list
    by [] = refl
    by (rows ∷ list) = λ i. answer_of d (witness_key d query tables rows) ∷ by list i
