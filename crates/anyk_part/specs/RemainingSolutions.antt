-- The solutions that regions hold, as a list, and the ranking of their keys.
use Rattle.std.specs.Prelude.{ℕ, zero, suc, cond, nat_eq, List, [], ◌∷◌, ◌++◌, map}
use Rattle.rankings.specs.Order.{IsOrder, ranked}
use Rattle.tdp_model.specs.Heap.{under}
use Rattle.tdp_model.specs.Regions.{Region, place_of}
use Rattle.tdp_model.specs.TreeProblem.{gather}

-- the solutions that n members after `pre` complete
unfoldable pub completions : (List ℕ → List ℕ) → ℕ → List ℕ → List (List ℕ)
completions members zero pre = pre ∷ []
completions members (suc n) pre = gather (λ r. completions members n (pre ++ (r ∷ [])))
    (members pre)

-- the solutions of a region
unfoldable pub region_solutions : (List ℕ → List ℕ) → Region → List (List ℕ)
region_solutions members r =
    gather (λ x. cond (nat_eq (under r.place (place_of x (members r.chosen))) 1)
    (completions members r.left (r.chosen ++ (x ∷ []))) []) (members r.chosen)

-- the solutions of the regions
unfoldable pub held_solutions : (List ℕ → List ℕ) → List Region → List (List ℕ)
held_solutions members [] = []
held_solutions members (r ∷ rs) = region_solutions members r ++ held_solutions members rs

-- the ranking of their keys
abbrev pub ranking_of : {K : Type 0} (Below : K → K → Type 0) → IsOrder K Below → (List ℕ → List ℕ)
    → (List ℕ → K) → List Region → List K
ranking_of Below o members bound rs = ranked Below o (map bound (held_solutions members rs))
