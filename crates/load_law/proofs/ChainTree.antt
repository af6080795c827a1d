-- The chain of four atoms, each with a variable in common with the next, and its join tree.
use Rattle.std.proofs.Common.{◌≡◌, ◌≢◌, ◌⊎◌, ◌<◌, ◌≤◌, ◌^◌, ◌-◌, ◌+◌, ℕ, zero, suc, List, [], ◌∷◌, slice_index, refl, sym, subst, ◌∙◌, inl, inr, arith}
use Rattle.std.proofs.lemmas.Bool.{false≢true}
use Rattle.std.proofs.lemmas.List.Elements.{All-cons, All-nil}
use Rattle.hyper_graph.specs.Graph.{Hypergraph, HasVar, IsGraph}
use Rattle.hyper_graph.specs.JoinTrees.{IsJoinTree}
use Rattle.hyper_graph.proofs.Bits.{in_all_below}
use Rattle.hyper_graph.proofs.Graphs.{has_atom, has_within}
use Rattle.join_tree.specs.Removal.{HasOne, IsLive, IsRemoval, IsRun, IsStep, IsTreeOf}
use Rattle.join_tree.proofs.FromRemoval.{removal_done, tree_from_removal}

-- variable v is that of the atoms v and v + 1
abbrev pub chain_graph : Hypergraph
chain_graph = record { atoms = 4; vars = 3 ∷ 6 ∷ 12 ∷ [] }

-- the last atom is removed first, and each hangs below the one before it
abbrev pub chain_order : List ℕ
chain_order = 3 ∷ 2 ∷ 1 ∷ []

abbrev pub chain_above : List ℕ
chain_above = 0 ∷ 0 ∷ 1 ∷ 2 ∷ []

abbrev pub chain_atoms : List ℕ
chain_atoms = 0 ∷ 1 ∷ 2 ∷ 3 ∷ []

pub chain_is_graph : IsGraph chain_graph
chain_is_graph = record {
  some = omega arith;
  few = omega arith;
  within = All-cons (λ set. set < 2 ^ 4) 3 (6 ∷ 12 ∷ []) (omega arith) (All-cons (λ set. set < 2 ^ 4) 6 (12 ∷ []) (omega arith)
      (All-cons (λ set. set < 2 ^ 4) 12 [] (omega arith) (All-nil (λ set. set < 2 ^ 4))));
}

pub variable_below : (v a : ℕ) → HasVar chain_graph v a → v < 3
variable_below v a h = has_within chain_graph v a h

atom_of : (v a : ℕ) → v < 3 → a < 4 → HasVar chain_graph v a → (a ≡ v) ⊎ (a ≡ v + 1)
atom_of zero zero p q h = inl refl
atom_of zero (suc zero) p q h = inr refl
atom_of zero (suc (suc zero)) p q h = absurd (false≢true h)
atom_of zero (suc (suc (suc zero))) p q h = absurd (false≢true h)
atom_of (suc zero) zero p q h = absurd (false≢true h)
atom_of (suc zero) (suc zero) p q h = inl refl
atom_of (suc zero) (suc (suc zero)) p q h = inr refl
atom_of (suc zero) (suc (suc (suc zero))) p q h = absurd (false≢true h)
atom_of (suc (suc zero)) zero p q h = absurd (false≢true h)
atom_of (suc (suc zero)) (suc zero) p q h = absurd (false≢true h)
atom_of (suc (suc zero)) (suc (suc zero)) p q h = inl refl
atom_of (suc (suc zero)) (suc (suc (suc zero))) p q h = inr refl
atom_of (suc (suc (suc v))) a p q h = absurd (omega arith)
atom_of v (suc (suc (suc (suc a)))) p q h = absurd (omega arith)

pub chain_has : (v a : ℕ) → HasVar chain_graph v a → (a ≡ v) ⊎ (a ≡ v + 1)
chain_has v a h = atom_of v a (variable_below v a h) (has_atom chain_graph chain_is_graph v a h) h

has_first : (v : ℕ) → v < 3 → HasVar chain_graph v v
has_first zero p = refl
has_first (suc zero) p = refl
has_first (suc (suc zero)) p = refl
has_first (suc (suc (suc v))) p = absurd (omega arith)

has_second : (v : ℕ) → v < 3 → HasVar chain_graph v (v + 1)
has_second zero p = refl
has_second (suc zero) p = refl
has_second (suc (suc zero)) p = refl
has_second (suc (suc (suc v))) p = absurd (omega arith)

pub has_chain : (v a : ℕ) → v < 3 → (a ≡ v) ⊎ (a ≡ v + 1) → HasVar chain_graph v a
has_chain v a p (inl e) = subst (λ (k : ℕ). HasVar chain_graph v k) (sym e) (has_first v p)
has_chain v a p (inr e) = subst (λ (k : ℕ). HasVar chain_graph v k) (sym e) (has_second v p)

-- ---- the removal

order_at : (j : ℕ) → j < 3 → slice_index chain_order j + j ≡ 3
order_at zero p = refl
order_at (suc zero) p = refl
order_at (suc (suc zero)) p = refl
order_at (suc (suc (suc j))) p = absurd (omega arith)

live_small : (k a : ℕ) → k ≤ 3 → IsLive 4 chain_order k a → a + k ≤ 3
live_small zero a p h = omega (arith, h.0)
live_small (suc zero) a p h = omega (arith, h.0, h.1 0 (omega arith))
live_small (suc (suc zero)) a p h = omega (arith, h.0, h.1 0 (omega arith), h.1 1 (omega arith))
live_small (suc (suc (suc zero))) a p h = omega (arith, h.0, h.1 0 (omega arith), h.1 1 (omega arith), h.1 2 (omega arith))
live_small (suc (suc (suc (suc k)))) a p h = absurd (omega arith)

small_live : (k a : ℕ) → k ≤ 3 → a + k ≤ 3 → IsLive 4 chain_order k a
small_live k a p q = (omega arith, λ j lt e. let is = order_at j (omega arith) in omega (arith, is, e))

-- the last atom that is left is covered by the one before it
step_at : (k e f : ℕ) → e + k ≡ 3 → f + 1 ≡ e → IsStep (HasVar chain_graph) (IsLive 4 chain_order k) e f
step_at k e f last next = record {
  live = small_live k e (omega arith) (omega arith);
  cover = record {
    covers = record {
      live = small_live k f (omega arith) (omega arith);
      other = λ s. omega (arith, s);
      shared = λ v h live ne has other. has_chain v f (variable_below v e has) (inl (between v h (live_small k h (omega arith) live) ne (chain_has v e has) (chain_has v h other)));
    };
    least = λ g lt c. too_low g lt (chain_has f g (c.shared f f (small_live k f (omega arith) (omega arith)) (λ s. omega (arith, s))
        (has_chain f e (omega arith) (inr (sym next))) (has_chain f f (omega arith) (inl refl))));
  };
  greatest = λ d lt ear. let left = live_small k d (omega arith) ear.live in omega (arith, left, lt);
}
  where
    between : (v h : ℕ) → h + k ≤ 3 → h ≢ e → (e ≡ v) ⊎ (e ≡ v + 1) → (h ≡ v) ⊎ (h ≡ v + 1) → f ≡ v
    between v h small ne (inl p) (inl q) = absurd (ne (q ∙ sym p))
    between v h small ne (inl p) (inr q) = absurd (omega (arith, p, q, small))
    between v h small ne (inr p) q = omega (arith, p)

    too_low : (g : ℕ) → g < f → (g ≡ f) ⊎ (g ≡ f + 1) → ⊥
    too_low g lt (inl p) = omega (arith, p)
    too_low g lt (inr p) = omega (arith, p)

steps : (k : ℕ) → k < 3
    → IsStep (HasVar chain_graph) (IsLive 4 chain_order k) (slice_index chain_order k) (slice_index chain_above (slice_index chain_order k))
steps zero p = step_at 0 3 2 refl refl
steps (suc zero) p = step_at 1 2 1 refl refl
steps (suc (suc zero)) p = step_at 2 1 0 refl refl
steps (suc (suc (suc k))) p = absurd (omega arith)

chain_run : IsRun chain_graph chain_above chain_order 3 1
chain_run = record {
  steps = steps;
  left = λ a. (
    λ h. let low : a < 1 = (in_all_below 1 a (omega arith)).0 h in small_live 3 a (omega arith) (omega (arith, low)),
    λ live. let low = live_small 3 a (omega arith) live in (in_all_below 1 a (omega arith)).1 (omega (arith, low)),
  );
}

pub chain_removal : IsRemoval chain_graph chain_above chain_order 3 1
chain_removal = removal_done chain_graph chain_above chain_order 3 1 (omega arith) refl chain_run

-- ---- the tree

reversed : (k : ℕ) → 0 < k → k ≤ 3 → slice_index chain_atoms k ≡ slice_index chain_order (3 - k)
reversed zero p q = absurd (omega arith)
reversed (suc zero) p q = refl
reversed (suc (suc zero)) p q = refl
reversed (suc (suc (suc zero))) p q = refl
reversed (suc (suc (suc (suc k)))) p q = absurd (omega arith)

earlier : (k : ℕ) → 0 < k → k ≤ 3 → slice_index chain_above k < k
earlier zero p q = absurd (omega arith)
earlier (suc zero) p q = omega arith
earlier (suc (suc zero)) p q = omega arith
earlier (suc (suc (suc zero))) p q = omega arith
earlier (suc (suc (suc (suc k)))) p q = absurd (omega arith)

hung : (k : ℕ) → 0 < k → k ≤ 3 → slice_index chain_atoms (slice_index chain_above k) ≡ slice_index chain_above (slice_index chain_atoms k)
hung zero p q = absurd (omega arith)
hung (suc zero) p q = refl
hung (suc (suc zero)) p q = refl
hung (suc (suc (suc zero))) p q = refl
hung (suc (suc (suc (suc k)))) p q = absurd (omega arith)

pub chain_tree : IsTreeOf chain_above chain_order 3 1 chain_atoms chain_above
chain_tree = record { root = refl; top = refl; reversed = reversed; earlier = earlier; hung = hung }

one_left : HasOne 1
one_left = (0, refl, λ b h. let low : b < 1 = (in_all_below 1 b (omega arith)).0 h in omega (arith, low))

pub chain_join_tree : IsJoinTree chain_graph chain_atoms chain_above
chain_join_tree = tree_from_removal chain_graph chain_above chain_order 3 1 3 chain_run refl refl one_left chain_atoms chain_above refl refl chain_tree
