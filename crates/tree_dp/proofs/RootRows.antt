-- The rows of the root, in its only group.
use Rattle.std.proofs.Common.{◌≡◌, ℕ, ◌<◌, ◌≤◌, ◌∙◌, List, [], ◌∷◌, length, append-nil, get_or, refl, subst, arith}
use Rattle.std.specs.List.{All, concat, range_with_len}
use Rattle.std.specs.List.Sorted.{IsPermutation}
use Rattle.std.proofs.lemmas.List.Elements.{All-get_or, All-from_get_or}
use Rattle.std.proofs.lemmas.List.FromFn.{length-range_with_len, get_or-range_with_len}
use Rattle.std.proofs.lemmas.List.Sorted.{All-permutation, IsPermutation-sym}
use Rattle.tdp_model.specs.KeyTuple.{KeyOf}
use Rattle.tdp_core.specs.TreeView.{NodeView, node_at, rows, members}
use Rattle.tdp_core.specs.WellFormed.{IsFormed}

module _ {R : Type 0} (d : ℕ) (key : R → KeyOf d 16) (t : List (NodeView R)) (formed : IsFormed d key t) where
  some_node : 0 < length t
  some_node = omega (arith, formed.shaped.some_node)

  alone : (gs : List (List ℕ)) → length gs ≤ 1 → concat gs ≡ get_or gs 0 []
  alone [] l = refl
  alone (g ∷ []) l = append-nil g
  alone (g ∷ (h ∷ gs)) l = absurd (omega (arith, l))

  -- each row of the root stands at a place
  pub row_placed : (r : ℕ) → r < rows t 0 → (i : ℕ) × (i < length (members t 0 0)) × (get_or (members t 0 0) i 0 ≡ r)
  row_placed r l =
      let ms = members t 0 0 in
      let P : ℕ → Type 0 = λ x. (i : ℕ) × (i < length ms) × (get_or ms i 0 ≡ x) in
      let all : All P ms = All-from_get_or P ms 0 (λ i h. (i, h, refl)) in
      let whole : IsPermutation (range_with_len 0 (rows t 0)) ms = subst (IsPermutation (range_with_len 0 (rows t 0))) (alone (node_at t 0).groups formed.one_root) (formed.grouped 0 some_node) in
      let each : All P (range_with_len 0 (rows t 0)) = All-permutation P ms (range_with_len 0 (rows t 0)) (IsPermutation-sym (range_with_len 0 (rows t 0)) ms whole) all in
      subst P (get_or-range_with_len 0 (rows t 0) r 0 l ∙ omega arith) (All-get_or P (range_with_len 0 (rows t 0)) r 0 (omega (arith, l, length-range_with_len 0 (rows t 0))) each)
