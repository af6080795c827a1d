-- The tree problem of a query has an item of the query at each node, and its keys hold the rows of the items.
use Rattle.std.proofs.Common.{◌≡◌, ◌≢◌, ℕ, ◌<◌, ◌≤◌, List, [], map, length, get_or, replicate, slice_index}
use Rattle.std.proofs.Common.{refl, sym, ◌∙◌, arith}
use Rattle.std.proofs.Common.{inl, inr}
use Rattle.std.proofs.Math.ListN.{set}
use Rattle.std.proofs.lemmas.Bool.{cases_lt}
use Rattle.std.proofs.lemmas.Grind.{get_or-set_at}
use Rattle.std.proofs.lemmas.List.{get_or-set_other, get_or-replicate}
use Rattle.tdp_model.specs.KeyTuple.{KeyOf, key_add, key_none, slot_of}
use Rattle.tdp_model.specs.TreeProblem.{IsTieFree}
use Rattle.tdp_model.proofs.KeyNumbers.{slot_of_lists}
use Rattle.tdp_model.proofs.KeyTuples.{slot_of_add, slot_of_none}
use Rattle.anyk_model.specs.Table.{Table}
use Rattle.anyk_model.specs.Query.{Query}
use Rattle.bound_query.specs.Weights.{part_of}
use Rattle.bound_query.specs.Shape.{HasTree}
use Rattle.proof_model.specs.Problem.{Problem}
use Rattle.proof_model.specs.QueryProblem.{problem_of}
use Rattle.proof_model.specs.Laws.{IsProblem}
use Rattle.proof_model.proofs.QueryLaws.{query_problem}
use Rattle.proof_model.proofs.SolutionRows.{HasItems}

module _ (query : Query) (tables : List Table) (atoms parents : List ℕ) (hung : HasTree query atoms parents) where
  abbrev t : Problem (KeyOf (length query.order) 16)
  t = problem_of query tables atoms parents

  pub as_many : length atoms ≡ length query.items
  as_many = hung.join_tree.nodes ∙ hung.of_query.atoms

  pub few_items : length query.items ≤ 16
  few_items = let f = hung.of_query.is_graph.few in let n = hung.of_query.atoms in omega (arith, f, n)

  pub some_nodes : 0 < length atoms
  some_nodes = let s = hung.of_query.is_graph.some in let n = hung.join_tree.nodes in omega (arith, s, n)

  pub parents_earlier : (k : ℕ) → 0 < k → k < length atoms → slice_index parents k < k
  parents_earlier k some l =
      hung.join_tree.first.earlier k some (omega (arith, l, hung.join_tree.nodes, hung.join_tree.has_parents))

  pub tree_problem : IsProblem (problem_of query tables atoms parents)
  tree_problem = query_problem query tables atoms parents some_nodes parents_earlier

  pub item_within : (u : ℕ) → u < length atoms → slice_index atoms u < length query.items
  item_within u l = omega (arith, hung.join_tree.within u l, hung.of_query.atoms)

  pub node_items : HasItems (problem_of query tables atoms parents) (length query.items)
  node_items = record { within = item_within; apart = hung.join_tree.distinct }

  pub node_of : (a : ℕ) → a < length query.items → (k : ℕ) × (k < length atoms) × (slice_index atoms k ≡ a)
  node_of a l = let n = hung.of_query.atoms in hung.join_tree.each a (omega (arith, l, n))

  -- each row's key has its number in the slot of its item, and 0 in the others
  pub keys_hold : IsTieFree (KeyOf (length query.order) 16) (key_add (length query.order) 16)
      (key_none (length query.order) 16) (length atoms)
      t.key (λ q r. []) (slice_index atoms) (λ v r. r) (slot_of (length query.order) 16)
  keys_hold = record {
    slot_add = slot_of_add (length query.order) 16;
    slot_none = slot_of_none (length query.order) 16;
    slot_own = λ v r l.
        let w = item_within v l in
        let f = few_items in
        at v r (slice_index atoms v) (omega (arith, w, f))
        ∙ get_or-set_at (replicate 16 0) (slice_index atoms v) (slice_index atoms v) r 0 refl (omega (arith, w, f));
    slot_other = λ u v r lu lv n.
        let w = item_within u lu in
        let f = few_items in
        let differ : slice_index atoms u ≢ slice_index atoms v = λ e. n (same u v lu lv e) in
        at v r (slice_index atoms u) (omega (arith, w, f))
        ∙ get_or-set_other {A = ℕ} (replicate 16 0) (slice_index atoms v) (slice_index atoms u) r 0 differ
        ∙ get_or-replicate {A = ℕ} 16 (slice_index atoms u) 0 0 (omega (arith, w, f));
    numbered_apart = λ q r i j l a b e. absurd (omega (arith, a));
  }
    where
      at : (v r i : ℕ) → i < 16
          → slot_of (length query.order) 16 i (t.key v r) ≡ get_or (set (replicate 16 0) (slice_index atoms v) r) i 0
      at v r i l = slot_of_lists (length query.order) 16 i
          (map (part_of tables query.items (slice_index atoms v) r) query.order)
          (set (replicate 16 0) (slice_index atoms v) r) l

      same : (u v : ℕ) → u < length atoms → v < length atoms → slice_index atoms u ≡ slice_index atoms v → u ≡ v
      same u v lu lv e = elim (cases_lt u v) [
        | inl l ↦ absurd (hung.join_tree.distinct u v l lv e)
        | inr g ↦ elim (cases_lt v u) [
          | inl l ↦ absurd (hung.join_tree.distinct v u l lu (sym e))
          | inr h ↦ omega (arith, g, h)
        ]
      ]
