-- A list that is filled by the atoms of nodes, one node after another.
use Rattle.std.proofs.Common.{◌≡◌, ◌≢◌, ◌+◌, ◌<◌, ℕ, List, length, slice_index, set, sym, ap, ◌∙◌, inl, inr, arith}
use Rattle.std.proofs.lemmas.Bool.{cases_eq}
use Rattle.std.proofs.lemmas.List.{get_or-set_other, get_or-set_same}

-- the number of each atom, with that of one node more
pub one_more : (count : ℕ) (atom filled numbers : List ℕ) (node : ℕ) → ((j k : ℕ) → j < k → k < count → slice_index atom j ≢ slice_index atom k)
    → node < count → slice_index atom node < length filled
    → ((v : ℕ) → v < node → slice_index filled (slice_index atom v) ≡ slice_index numbers v)
    → (v : ℕ) → v < node + 1 → slice_index (set filled (slice_index atom node) (slice_index numbers node)) (slice_index atom v) ≡ slice_index numbers v
one_more count atom filled numbers node apart inside long before v l = elim (cases_eq v node) [
  | inl same ↦
      ap (λ u. slice_index (set filled (slice_index atom node) (slice_index numbers node)) (slice_index atom u)) same
      ∙ get_or-set_same filled (slice_index atom node) (slice_index numbers node) 0 long
      ∙ ap (slice_index numbers) (sym same)
  | inr other ↦
      let low : v < node = omega (arith, l, other) in
      get_or-set_other filled (slice_index atom node) (slice_index atom v) (slice_index numbers node) 0 (apart v node low inside) ∙ before v low
]
