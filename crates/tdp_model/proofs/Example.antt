-- Some tree is well formed and tie-free: two nodes of one row each, all keys 0.
use Rattle.std.proofs.Common.{◌≡◌, ℕ, zero, suc, ◌<◌, [], ◌∷◌, get_or, refl, ap, arith}
use Rattle.tdp_model.specs.KeyTuple.{key_add, key_none, slot_of}
use Rattle.tdp_model.specs.TreeProblem.{sum_from, kid_part, best_by_kids}
use Rattle.tdp_model.specs.Laws.{TieFreeTree}
use Rattle.tdp_model.proofs.KeyTuples.{slot_of_add, slot_of_none}

example_bests : (v r : ℕ) → v < 2 → key_none 1 2 ≡ best_by_kids (key_add 1 2) (key_none 1 2) 2 (λ q. 0) (λ v r. key_none 1 2) (λ q r. 0 ∷ []) (λ v r. key_none 1 2) v r
unfolding sum_from kid_part
example_bests zero r l = refl
example_bests (suc zero) r l = refl
example_bests (suc (suc v)) r l = absurd (omega arith)

pub example : TieFreeTree 1 2
example = record {
  nodes = 2;
  parent = λ q. 0;
  rank = λ v r. key_none 1 2;
  group = λ q r. 0 ∷ [];
  best = λ v r. key_none 1 2;
  rows = λ v. 1;
  item = λ v. v;
  number = λ v r. 0;
  slot = slot_of 1 2;
  formed = record {
    parents_first = λ q p l. p;
    rows = λ q r i l a h. first_row i h;
    distinct = λ q r l a i j h g e. omega arith;
    inhabited = λ q r l a. omega arith;
    heap = λ q r i l a p h. absurd (omega arith);
    bests = λ v r l row. example_bests v r l;
  };
  tie_free = record {
    slot_add = slot_of_add 1 2;
    slot_none = slot_of_none 1 2;
    slot_own = λ v r l. slot_of_none 1 2 v;
    slot_other = λ u v r l h n. slot_of_none 1 2 u;
    numbered_apart = λ q r i j l h g e. same_first i j h g;
  };
}
  where
    first_row : (i : ℕ) → i < 1 → get_or (0 ∷ []) i 0 < 1
    first_row zero h = omega arith
    first_row (suc i) h = absurd (omega arith)

    same_first : (i j : ℕ) → i < 1 → j < 1 → get_or {A = ℕ} (0 ∷ []) i 0 ≡ get_or {A = ℕ} (0 ∷ []) j 0
    same_first i j h g = let e : i ≡ j = omega arith in ap (λ z. get_or (0 ∷ []) z 0) e

pub example_nodes : example.nodes ≡ 2
unfolding example
example_nodes = refl
