-- What ear removal leaves: a join tree where one atom is left, and no join tree where more are.
use Rattle.std.proofs.Common.{◌≡◌, ◌≢◌, ℕ, zero, suc, ◌+◌, ◌-◌, ◌<◌, ◌≤◌, ◌⊎◌, List, length, slice_index, refl, sym, ◌∙◌, ap, subst, inl, inr, arith}
use Rattle.std.proofs.lemmas.Bool.{cases_eq}
use Rattle.hyper_graph.specs.Ears.{Covers, IsEar}
use Rattle.hyper_graph.specs.Graph.{Hypergraph, HasVar, IsIn, IsLiveIn}
use Rattle.hyper_graph.specs.JoinTrees.{IsJoinTree, HasJoinTree}
use Rattle.hyper_graph.proofs.Paths.{connected_from_running}
use Rattle.join_tree.specs.Removal.{IsLive, IsRun, IsRemoval, HasOne, IsTreeOf}
use Rattle.join_tree.proofs.Exchange.{Without, Empties, Empties-same, Covers-same}
use Rattle.join_tree.proofs.Runs.{IsEar-same, core_live}
use Rattle.join_tree.proofs.FromTree.{run_empties, left_or_ear, tree_empties}

-- where no atom has a variable all but one can be removed
abbrev pub Nothing : ℕ → ℕ → Type 0
Nothing v a = ⊥

nothing_covers : (Live : ℕ → Type 0) (e f : ℕ) → Live f → f ≢ e → Covers Nothing Live e f
nothing_covers Live e f l ne = record { live = l; other = ne; shared = λ v h _ _ n _. n }

-- an ear stays one where no atom has a variable
pub nothing_ear : {Has : ℕ → ℕ → Type 0} (Live : ℕ → Type 0) (e : ℕ) → IsEar Has Live e → IsEar Nothing Live e
nothing_ear Live e ear = record { live = ear.live; cover = ear.cover; covers = nothing_covers Live e ear.cover ear.covers.live ear.covers.other }

pub nothing_empties : (n : ℕ) → Empties Nothing n (λ a. a < suc n)
nothing_empties zero = (0, omega arith, λ b h. omega arith)
nothing_empties (suc n) = (
  suc n,
  n,
  omega arith,
  nothing_covers (λ a. a < suc (suc n)) (suc n) n (omega arith) (λ e. omega arith),
  Empties-same Nothing n (λ a. a < suc n) (Without (λ a. a < suc (suc n)) (suc n)) (λ a. (λ h. (omega arith, λ e. omega arith), λ (h, ne). omega arith)) (nothing_empties n),
)

module _ (graph : Hypergraph) (parent order : List ℕ) (removed core n : ℕ) (run : IsRun graph parent order removed core) (many : graph.atoms ≡ suc n) (some : removed < graph.atoms) where
  ear_of : (k : ℕ) → k < removed → IsEar (HasVar graph) (IsLive graph.atoms order k) (slice_index order k)
  ear_of k l = record { live = (run.steps k l).live; cover = slice_index parent (slice_index order k); covers = (run.steps k l).cover.covers }

  -- as many atoms are left as were not removed
  counted : (r : ℕ) × (r + removed ≡ n) × Empties Nothing r (IsLive graph.atoms order removed)
  counted = run_empties Nothing graph.atoms order removed n (λ k l. nothing_ear (IsLive graph.atoms order k) (slice_index order k) (ear_of k l))
      (subst (λ z. Empties Nothing n (λ a. a < z)) (sym many) (nothing_empties n)) removed (omega arith)

  all_but_one : HasOne core → (r : ℕ) → r + removed ≡ n → Empties Nothing r (IsLive graph.atoms order removed) → removed ≡ n
  all_but_one one zero e empties = omega arith
  all_but_one (a, i, only) (suc r) e (x, y, l, c, rest) = absurd (c.other (only y ((run.left y).1 c.live) ∙ sym (only x ((run.left x).1 l))))

  pub counts : HasOne core → removed ≡ n
  counts one = all_but_one one counted.0 counted.1 counted.2

  pub one_left : removed ≡ n → HasOne core
  one_left e = last counted.0 (omega (arith, counted.1)) counted.2
    where
      last : (r : ℕ) → r ≡ 0 → Empties Nothing r (IsLive graph.atoms order removed) → HasOne core
      last zero _ (a, l, only) = (a, (run.left a).1 l, λ b h. only b ((run.left b).0 h))
      last (suc r) z empties = absurd (omega arith)

  -- where all but one atom can be removed in some order, the removal leaves one
  pub one_if_empties : ((e : ℕ) → IsEar (HasVar graph) (IsIn core) e → ⊥) → Empties (HasVar graph) n (λ a. a < graph.atoms) → HasOne core
  one_if_empties stuck empties = elim (left_or_ear (HasVar graph) (IsLive graph.atoms order removed) so_far.0 so_far.2) [
    | inl (a, l, only) ↦ (a, (run.left a).1 l, λ b h. only b ((run.left b).0 h))
    | inr (e, f, l, c) ↦ absurd (stuck e (record {
      live = (run.left e).1 l;
      cover = f;
      covers = Covers-same (HasVar graph) (IsLive graph.atoms order removed) (IsIn core) e f (λ a. ((run.left a).1, (run.left a).0)) c;
    }))
  ]
    where
      so_far : (r : ℕ) × (r + removed ≡ n) × Empties (HasVar graph) r (IsLive graph.atoms order removed)
      so_far = run_empties (HasVar graph) graph.atoms order removed n ear_of empties removed (omega arith)

  pub one_if_tree : ((e : ℕ) → IsEar (HasVar graph) (IsIn core) e → ⊥) → HasJoinTree graph → HasOne core
  one_if_tree stuck (atoms, parents, tree) = one_if_empties stuck (tree_empties graph atoms parents tree n many)

  -- a live atom is removed later, or it is left
  later : (d i a : ℕ) → i + d ≡ removed → IsLive graph.atoms order i a → IsIn core a ⊎ ((j : ℕ) × (i ≤ j) × (j < removed) × (slice_index order j ≡ a))
  later zero i a e l = inl ((run.left a).1 (l.0, λ j h. l.1 j (omega arith)))
  later (suc d) i a e l = elim (cases_eq (slice_index order i) a) [
    | inl here ↦ inr (i, omega arith, omega arith, here)
    | inr not_here ↦ elim (later d (suc i) a (omega arith) (
      l.0,
      λ j h. elim (cases_eq j i) [
        | inl same ↦ λ s. not_here (sym (ap (slice_index order) same) ∙ s)
        | inr ne ↦ l.1 j (omega arith)
      ],
    )) [
      | inl left ↦ inl left
      | inr (j, low, high, s) ↦ inr (j, omega arith, high, s)
    ]
  ]

  module _ (one : HasOne core) (atoms : List ℕ) (root : IsIn core (slice_index atoms 0)) where
    -- the node of a live atom
    node_of : (k i a : ℕ) → i ≤ removed → k ≡ removed - i → ((m : ℕ) → 0 < m → m ≤ k → slice_index atoms m ≡ slice_index order (removed - m)) → IsLive graph.atoms order i a →
        (m : ℕ) × (m ≤ k) × (slice_index atoms m ≡ a)
    node_of k i a l e reversed live = elim (later (removed - i) i a (omega arith) live) [
      | inl left ↦ (0, omega arith, one.2 (slice_index atoms 0) root ∙ sym (one.2 a left))
      | inr (j, low, high, s) ↦
          let back : removed - (removed - j) ≡ j = omega arith in
          (removed - j, omega arith, reversed (removed - j) (omega arith) (omega arith) ∙ ap (slice_index order) back ∙ s)
    ]

    -- the node of the atom below which the k-th node from the end hangs
    pub cover_place : (k : ℕ) → 0 < k → k ≤ removed → ((m : ℕ) → 0 < m → m < k → slice_index atoms m ≡ slice_index order (removed - m)) →
        (m : ℕ) × (m < k) × (slice_index atoms m ≡ slice_index parent (slice_index order (removed - k)))
    cover_place k above l reversed =
        let covers : Covers (HasVar graph) (IsLive graph.atoms order (removed - k)) (slice_index order (removed - k)) (slice_index parent (slice_index order (removed - k))) =
        (run.steps (removed - k) (omega arith)).cover.covers in
        let found : (m : ℕ) × (m ≤ k - 1) × (slice_index atoms m ≡ slice_index parent (slice_index order (removed - k))) =
        node_of (k - 1) (suc (removed - k)) (slice_index parent (slice_index order (removed - k))) (omega arith) (omega arith) (λ m p q. reversed m p (omega arith)) (
          covers.live.0,
          λ j h. elim (cases_eq j (removed - k)) [
            | inl same ↦ λ s. covers.other (sym s ∙ ap (slice_index order) same)
            | inr ne ↦ covers.live.1 j (omega arith)
          ],
        ) in
        (found.0, omega (arith, found.1), found.2)

    -- each node lives until its removal
    pub node_live : (k : ℕ) → k ≤ removed → ((m : ℕ) → 0 < m → m ≤ k → slice_index atoms m ≡ slice_index order (removed - m)) → IsLive graph.atoms order (removed - k) (slice_index atoms k)
    node_live zero l reversed =
        let all : removed ≡ removed - 0 = omega arith in
        subst (λ z. IsLive graph.atoms order z (slice_index atoms 0)) all ((run.left (slice_index atoms 0)).0 root)
    node_live (suc k) l reversed = subst (IsLive graph.atoms order (removed - suc k)) (sym (reversed (suc k) (omega arith) (omega arith))) (run.steps (removed - suc k) (omega arith)).live

    pub apart : (j k : ℕ) → j < k → k ≤ removed → ((m : ℕ) → 0 < m → m ≤ k → slice_index atoms m ≡ slice_index order (removed - m)) → slice_index atoms j ≢ slice_index atoms k
    apart j k lt l reversed same =
        (node_live j (omega arith) (λ m p q. reversed m p (omega arith))).1 (removed - k) (omega arith) (sym (reversed k (omega arith) (omega arith)) ∙ sym same)

pub tree_from_removal : (graph : Hypergraph) (parent order : List ℕ) (removed core n : ℕ) → IsRun graph parent order removed core → graph.atoms ≡ suc n → removed ≡ n → HasOne core →
    (atoms parents : List ℕ) → length atoms ≡ suc removed → length parents ≡ suc removed → IsTreeOf parent order removed core atoms parents → IsJoinTree graph atoms parents
tree_from_removal graph parent order removed core n run many all one atoms parents la lp t = record {
  nodes = omega arith;
  has_parents = omega arith;
  first = record { root = t.top; earlier = λ k p q. t.earlier k p (omega arith) };
  within = λ k l. (node_live graph parent order removed core n run many some one atoms t.root k (omega arith) (λ m p q. t.reversed m p (omega arith))).0;
  distinct = λ j k lt l. apart graph parent order removed core n run many some one atoms t.root j k lt (omega arith) (λ m p q. t.reversed m p (omega arith));
  each = each;
  connected = λ v. connected_from_running parents (λ k. HasVar graph v (slice_index atoms k)) (record { root = t.top; earlier = λ k p q. t.earlier k p (omega arith) }) (running v);
}
  where
    some : removed < graph.atoms
    some = omega arith

    each : (a : ℕ) → a < graph.atoms → (k : ℕ) × (k < length atoms) × (slice_index atoms k ≡ a)
    each a l =
        let found : (m : ℕ) × (m ≤ removed) × (slice_index atoms m ≡ a) =
        node_of graph parent order removed core n run many some one atoms t.root removed 0 a (omega arith) (omega arith) t.reversed (l, λ j h. absurd (omega arith)) in
        (found.0, omega (arith, found.1), found.2)

    running : (v j k : ℕ) → j < k → k < length parents → HasVar graph v (slice_index atoms j) → HasVar graph v (slice_index atoms k) → HasVar graph v (slice_index atoms (slice_index parents k))
    running v j k lt l vj vk =
        let here : slice_index atoms k ≡ slice_index order (removed - k) = t.reversed k (omega arith) (omega arith) in
        let live : IsLive graph.atoms order (removed - j) (slice_index atoms j) =
        node_live graph parent order removed core n run many some one atoms t.root j (omega arith) (λ m p q. t.reversed m p (omega arith)) in
        let ne : slice_index atoms j ≢ slice_index atoms k =
        apart graph parent order removed core n run many some one atoms t.root j k lt (omega arith) (λ m p q. t.reversed m p (omega arith)) in
        let covered : HasVar graph v (slice_index parent (slice_index order (removed - k))) =
        (run.steps (removed - k) (omega arith)).cover.covers.shared v (slice_index atoms j) (live.0, λ i h. live.1 i (omega arith)) (λ s. ne (s ∙ sym here)) (subst (HasVar graph v) here vk) vj in
        subst (HasVar graph v) (sym (t.hung k (omega arith) (omega arith) ∙ ap (slice_index parent) here)) covered

-- removal ends where no ear is left
pub removal_stuck : (graph : Hypergraph) (parent order : List ℕ) (removed core : ℕ) → graph.atoms ≤ 16 → removed < graph.atoms → IsRun graph parent order removed core →
    ((e : ℕ) → IsEar (HasVar graph) (IsLiveIn graph core) e → ⊥) → IsRemoval graph parent order removed core
removal_stuck graph parent order removed core few some run stuck = record {
  few = few;
  some_left = some;
  run = run;
  stuck = λ e ear. stuck e (IsEar-same (HasVar graph) (IsIn core) (IsLiveIn graph core) e (core_live graph parent order removed core run) ear);
}

-- or where one atom is left
pub removal_done : (graph : Hypergraph) (parent order : List ℕ) (removed core : ℕ) → graph.atoms ≤ 16 → removed + 1 ≡ graph.atoms → IsRun graph parent order removed core → IsRemoval graph parent order removed core
removal_done graph parent order removed core few all run = record {
  few = few;
  some_left = omega arith;
  run = run;
  stuck = λ e ear.
      let one : HasOne core = one_left graph parent order removed core removed run (omega arith) (omega arith) refl in
      ear.covers.other (one.2 ear.cover ear.covers.live ∙ sym (one.2 e ear.live));
}
