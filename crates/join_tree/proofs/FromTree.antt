-- Where a join tree exists, ear removal ends with one atom.
use Rattle.std.proofs.Common.{◌≡◌, ◌≢◌, ℕ, zero, suc, ◌+◌, ◌<◌, ◌≤◌, ◌↔◌, ◌⊎◌, List, length, slice_index, refl, sym, ◌∙◌, ap, subst, inl, inr, arith}
use Rattle.std.proofs.lemmas.Bool.{cases_eq}
use Rattle.hyper_graph.specs.Ears.{Covers, IsEar}
use Rattle.hyper_graph.specs.Graph.{Hypergraph, HasVar}
use Rattle.hyper_graph.specs.JoinTrees.{IsJoinTree}
use Rattle.hyper_graph.proofs.Routes.{running_from_connected}
use Rattle.join_tree.specs.Removal.{IsLive}
use Rattle.join_tree.proofs.Exchange.{Without, Empties, Empties-same, remove_first}

-- the atoms of the first n nodes
abbrev pub IsFront : List ℕ → ℕ → ℕ → Type 0
IsFront atoms n a = (k : ℕ) × (k < n) × (slice_index atoms k ≡ a)

module _ (graph : Hypergraph) (atoms parents : List ℕ) (tree : IsJoinTree graph atoms parents) where
  last_covered : (n : ℕ) → suc n < length atoms → Covers (HasVar graph) (IsFront atoms (suc (suc n))) (slice_index atoms (suc n)) (slice_index atoms (slice_index parents (suc n)))
  last_covered n l =
      let in' : suc n < length parents = omega (arith, tree.nodes, tree.has_parents) in
      let earlier : slice_index parents (suc n) < suc n = tree.first.earlier (suc n) (omega arith) in' in
      record {
        live = (slice_index parents (suc n), omega arith, refl);
        other = tree.distinct (slice_index parents (suc n)) (suc n) earlier l;
        shared = λ v h (j, k, e) ne ve vh.
            let before : j ≢ suc n = λ s. ne (sym e ∙ ap (slice_index atoms) s) in
            running_from_connected parents (λ i. HasVar graph v (slice_index atoms i)) tree.first (tree.connected v) j (suc n) (omega arith) in'
            (subst (HasVar graph v) (sym e) vh) ve;
      }

  front_smaller : (n : ℕ) → suc n < length atoms → (a : ℕ) → Without (IsFront atoms (suc (suc n))) (slice_index atoms (suc n)) a ↔ IsFront atoms (suc n) a
  front_smaller n l a = (
    λ ((k, m, e), ne). let before : k ≢ suc n = λ s. ne (sym e ∙ ap (slice_index atoms) s) in (k, omega arith, e),
    λ (k, m, e). ((k, omega arith, e), λ s. tree.distinct k (suc n) m l (e ∙ s)),
  )

  front_empties : (n : ℕ) → n < length atoms → Empties (HasVar graph) n (IsFront atoms (suc n))
  front_empties zero l = (
    slice_index atoms 0,
    (0, omega arith, refl),
    λ b (k, m, e). let same : k ≡ 0 = omega arith in sym e ∙ ap (slice_index atoms) same,
  )
  front_empties (suc n) l = (
    slice_index atoms (suc n),
    slice_index atoms (slice_index parents (suc n)),
    (suc n, omega arith, refl),
    last_covered n l,
    Empties-same (HasVar graph) n (IsFront atoms (suc n)) (Without (IsFront atoms (suc (suc n))) (slice_index atoms (suc n)))
        (λ a. ((front_smaller n l a).1, (front_smaller n l a).0)) (front_empties n (omega arith)),
  )

  pub tree_empties : (n : ℕ) → graph.atoms ≡ suc n → Empties (HasVar graph) n (λ a. a < graph.atoms)
  tree_empties n e = Empties-same (HasVar graph) n (IsFront atoms (suc n)) (λ a. a < graph.atoms)
      (λ a. (
        λ (k, l, s). subst (λ z. z < graph.atoms) s (tree.within k (omega (arith, tree.nodes))),
        λ l. let f : (k : ℕ) × (k < length atoms) × (slice_index atoms k ≡ a) = tree.each a l in (f.0, omega (arith, tree.nodes, f.1), f.2),
      ))
      (front_empties n (omega (arith, tree.nodes)))

-- before the first removal every atom lives
pub all_live : (atoms : ℕ) (order : List ℕ) (a : ℕ) → (a < atoms) ↔ IsLive atoms order 0 a
all_live atoms order a = (λ h. (h, λ j i. absurd (omega arith)), λ h. h.0)

-- one more removal
pub live_smaller : (atoms : ℕ) (order : List ℕ) (k a : ℕ) → Without (IsLive atoms order k) (slice_index order k) a ↔ IsLive atoms order (suc k) a
live_smaller atoms order k a = (
  λ ((l, f), ne). (
    l,
    λ j h s. elim (cases_eq j k) [
      | inl same ↦ ne (sym s ∙ ap (slice_index order) same)
      | inr other ↦ f j (omega arith) s
    ],
  ),
  λ (l, f). ((l, λ j h. f j (omega arith)), λ s. f k (omega arith) (sym s)),
)

not_last : (Has : ℕ → ℕ → Type 0) (Live : ℕ → Type 0) (e f : ℕ) → Live e → Covers Has Live e f → Empties Has 0 Live → ⊥
not_last Has Live e f l c (a, la, only) = c.other (only f c.live ∙ sym (only e l))

one_less : (Has : ℕ → ℕ → Type 0) (atoms : ℕ) (order : List ℕ) (k f n r : ℕ) → IsLive atoms order k (slice_index order k) → Covers Has (IsLive atoms order k) (slice_index order k) f →
    r + k ≡ n → Empties Has r (IsLive atoms order k) → (q : ℕ) × (q + suc k ≡ n) × Empties Has q (IsLive atoms order (suc k))
one_less Has atoms order k f n zero l c e empties = absurd (not_last Has (IsLive atoms order k) (slice_index order k) f l c empties)
one_less Has atoms order k f n (suc r) l c e empties = (
  r,
  omega arith,
  Empties-same Has r (Without (IsLive atoms order k) (slice_index order k)) (IsLive atoms order (suc k)) (live_smaller atoms order k)
      (remove_first Has r (IsLive atoms order k) (slice_index order k) f l c empties),
)

-- after each removal the atoms that live can still be removed
pub run_empties : (Has : ℕ → ℕ → Type 0) (atoms : ℕ) (order : List ℕ) (removed n : ℕ) → ((k : ℕ) → k < removed → IsEar Has (IsLive atoms order k) (slice_index order k)) →
    Empties Has n (λ a. a < atoms) → (k : ℕ) → k ≤ removed → (r : ℕ) × (r + k ≡ n) × Empties Has r (IsLive atoms order k)
run_empties Has atoms order removed n ears empties zero l = (n, omega arith, Empties-same Has n (λ a. a < atoms) (IsLive atoms order 0) (all_live atoms order) empties)
run_empties Has atoms order removed n ears empties (suc k) l =
    let so_far : (r : ℕ) × (r + k ≡ n) × Empties Has r (IsLive atoms order k) = run_empties Has atoms order removed n ears empties k (omega arith) in
    let ear : IsEar Has (IsLive atoms order k) (slice_index order k) = ears k (omega arith) in
    one_less Has atoms order k ear.cover n so_far.0 ear.live ear.covers so_far.1 so_far.2

-- what is left has one atom, or an ear
pub left_or_ear : (Has : ℕ → ℕ → Type 0) (Live : ℕ → Type 0) (r : ℕ) → Empties Has r Live →
    ((a : ℕ) × Live a × ((b : ℕ) → Live b → b ≡ a)) ⊎ ((e f : ℕ) × Live e × Covers Has Live e f)
left_or_ear Has Live zero one = inl one
left_or_ear Has Live (suc r) (e, f, l, c, rest) = inr (e, f, l, c)
