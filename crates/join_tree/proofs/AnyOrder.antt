-- Ear removal is confluent: in whichever order ears are removed, one atom is left exactly where a join tree exists.
use Rattle.std.proofs.Common.{◌≡◌, ℕ, zero, suc, ◌+◌, ◌-◌, ◌<◌, ◌≤◌, ◌↔◌, List, slice_index, sym, subst, arith}
use Rattle.hyper_graph.specs.Ears.{IsEar}
use Rattle.hyper_graph.specs.Graph.{Hypergraph, HasVar}
use Rattle.hyper_graph.specs.JoinTrees.{HasJoinTree}
use Rattle.join_tree.specs.Removal.{IsLive, IsRemoval, IsAnyRemoval}
use Rattle.join_tree.proofs.Exchange.{Without, Empties, Empties-same}
use Rattle.join_tree.proofs.FromRemoval.{Nothing, nothing_ear, nothing_empties, one_if_empties}
use Rattle.join_tree.proofs.FromTree.{all_live, live_smaller, run_empties, tree_empties}
use Rattle.join_tree.proofs.Hanging.{one_iff_tree}

module _ (graph : Hypergraph) (order : List ℕ) (removed n : ℕ) (many : graph.atoms ≡ suc n) (r : IsAnyRemoval graph order removed) where
  -- after each removal as many atoms are left as were not removed
  counted : (k : ℕ) → k ≤ removed → (q : ℕ) × (q + k ≡ n) × Empties Nothing q (IsLive graph.atoms order k)
  counted = run_empties Nothing graph.atoms order removed n (λ k l. nothing_ear (IsLive graph.atoms order k) (slice_index order k) (r.ears k l))
      (subst (λ z. Empties Nothing n (λ a. a < z)) (sym many) (nothing_empties n))

  -- what was removed can be removed
  removed_empties : (d k : ℕ) → k + d ≡ removed → Empties Nothing 0 (IsLive graph.atoms order removed) → Empties (HasVar graph) d (IsLive graph.atoms order k)
  removed_empties zero k e one = let same : removed ≡ k = omega arith in subst (λ z. Empties Nothing 0 (IsLive graph.atoms order z)) same one
  removed_empties (suc d) k e one =
      let ear : IsEar (HasVar graph) (IsLive graph.atoms order k) (slice_index order k) = r.ears k (omega arith) in (
        slice_index order k,
        ear.cover,
        ear.live,
        ear.covers,
        Empties-same (HasVar graph) d (IsLive graph.atoms order (suc k)) (Without (IsLive graph.atoms order k) (slice_index order k))
            (λ a. ((live_smaller graph.atoms order k a).1, (live_smaller graph.atoms order k a).0)) (removed_empties d (suc k) (omega arith) one),
      )

  all_empties : removed ≡ n → Empties (HasVar graph) n (λ a. a < graph.atoms)
  all_empties all = Empties-same (HasVar graph) n (IsLive graph.atoms order 0) (λ a. a < graph.atoms) (λ a. ((all_live graph.atoms order a).1, (all_live graph.atoms order a).0))
      (removed_empties n 0 (omega arith) (last (counted removed (omega arith)).0 (omega (arith, (counted removed (omega arith)).1)) (counted removed (omega arith)).2))
    where
      last : (q : ℕ) → q ≡ 0 → Empties Nothing q (IsLive graph.atoms order removed) → Empties Nothing 0 (IsLive graph.atoms order removed)
      last q z empties = subst (λ m. Empties Nothing m (IsLive graph.atoms order removed)) z empties

  all_removed : HasJoinTree graph → removed ≡ n
  all_removed (atoms, parents, tree) = none_left so_far.0 so_far.1 so_far.2
    where
      so_far : (q : ℕ) × (q + removed ≡ n) × Empties (HasVar graph) q (IsLive graph.atoms order removed)
      so_far = run_empties (HasVar graph) graph.atoms order removed n r.ears (tree_empties graph atoms parents tree n many) removed (omega arith)

      none_left : (q : ℕ) → q + removed ≡ n → Empties (HasVar graph) q (IsLive graph.atoms order removed) → removed ≡ n
      none_left zero e empties = omega arith
      none_left (suc q) e (x, y, l, c, rest) = absurd (r.stuck x (record { live = l; cover = y; covers = c }))

pub any_order : (graph : Hypergraph) (parent order : List ℕ) (removed core : ℕ) → IsRemoval graph parent order removed core →
    (others : List ℕ) (count : ℕ) → IsAnyRemoval graph others count → (count + 1 ≡ graph.atoms) ↔ HasJoinTree graph
any_order graph parent order removed core r others count any =
    let many : graph.atoms ≡ suc (graph.atoms - 1) = omega (arith, r.some_left) in (
      λ all. (one_iff_tree graph parent order removed core r).0
          (one_if_empties graph parent order removed core (graph.atoms - 1) r.run many r.some_left r.stuck (all_empties graph others count (graph.atoms - 1) many any (omega arith))),
      λ tree. let all : count ≡ graph.atoms - 1 = all_removed graph others count (graph.atoms - 1) many any tree in omega arith,
    )
