-- What agrees along each link of a tree agrees wherever the tree is connected: values that a node
-- has at places.
use Rattle.std.proofs.Common.{◌≡◌, ℕ, zero, suc, ◌+◌, ◌<◌, ◌≤◌, List, length, slice_index, sym, ap, ◌∙◌, subst, inl, inr, arith}
use Rattle.std.proofs.lemmas.Bool.{cases_order}
use Rattle.hyper_graph.specs.Trees.{ParentsFirst}
use Rattle.hyper_graph.proofs.Paths.{IsRunning}

-- `At k p` says that node k has the place p
module _ {X : Type 0} (parents : List ℕ) (At : ℕ → ℕ → Type 0) (value : ℕ → ℕ → X) (first : ParentsFirst parents)
    (run : IsRunning parents (λ k. (p : ℕ) × At k p)) (alone : (k p q : ℕ) → At k p → At k q → p ≡ q)
    (links : (k p q : ℕ) → 0 < k → k < length parents → At k p → At (slice_index parents k) q → value k p ≡ value (slice_index parents k) q) where
  one_node : (j k p q : ℕ) → j ≡ k → At j p → At k q → value j p ≡ value k q
  one_node j k p q same a b =
      let here : At j q = subst (λ i. At i q) (sym same) b in
      subst (λ i. value j p ≡ value i q) same (ap (value j) (alone j p q a here))

  places_agree : (n j k p q : ℕ) → j + k ≤ n → j < length parents → k < length parents → At j p → At k q → value j p ≡ value k q
  places_agree zero j k p q s lj lk a b = one_node j k p q (omega arith) a b
  places_agree (suc n) j k p q s lj lk a b = elim (cases_order j k) [
    | inl same ↦ one_node j k p q same a b
    | inr (inl lt) ↦
        let above : 0 < k = omega arith in
        let earlier : slice_index parents k < k = first.earlier k above lk in
        let up = run j k lt lk (p, a) (q, b) in
        places_agree n j (slice_index parents k) p up.0 (omega arith) lj (omega arith) a up.1 ∙ sym (links k q up.0 above lk b up.1)
    | inr (inr gt) ↦
        let above : 0 < j = omega arith in
        let earlier : slice_index parents j < j = first.earlier j above lj in
        let up = run k j gt lj (q, b) (p, a) in
        links j p up.0 above lj a up.1 ∙ places_agree n (slice_index parents j) k up.0 q (omega arith) (omega arith) lk up.1 b
  ]

  -- any two nodes agree
  pub agree_anywhere : (j k p q : ℕ) → j < length parents → k < length parents → At j p → At k q → value j p ≡ value k q
  agree_anywhere j k p q = places_agree (j + k) j k p q (omega arith)
