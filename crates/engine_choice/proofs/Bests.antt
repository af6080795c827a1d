-- The least keys of the root's rows are the keys of the least witnesses of the item's rows.
use Rattle.std.proofs.Common.{◌≡◌, ◌∙◌, ℕ, suc, ◌<◌, ◌≤◌, List, length, map, get_or, slice_index, inl, inr, sym, ap, subst, arith}
use Rattle.rankings.specs.Order.{IsMember, ranked}
use Rattle.rankings.proofs.Unique.{ranking_unique}
use Rattle.tdp_model.specs.KeyTuple.{KeyOf, key_below, key_add, key_none}
use Rattle.tdp_model.specs.Remains.{AtMost}
use Rattle.tdp_model.proofs.Begin.{IsRanking-same}
use Rattle.tdp_model.proofs.Enumeration.{group_keys, group_ranking}
use Rattle.tdp_model.proofs.KeyNumbers.{slot_of_lists}
use Rattle.tdp_model.proofs.KeyTuples.{tuple_keys}
use Rattle.tdp_core.specs.Solutions.{IsTreeRanking}
use Rattle.tdp_core.specs.TreeView.{NodeView, parent, item, number, rows, members, group, rank, best}
use Rattle.tdp_core.specs.WellFormed.{IsFormed, IsTieFreeTree}
use Rattle.tdp_core.proofs.TreeFacts.{member_is_row, best_had, best_least}
use Rattle.anyk_model.specs.Table.{Table}
use Rattle.anyk_model.specs.Query.{Query, IsWitness, rank_of}
use Rattle.anyk_model.specs.Ranking.{Precedes, ranking_of}
use Rattle.anyk_model.proofs.Exists.{ranking_is}
use Rattle.tree_dp.specs.BestRanking.{IsBestRanking}
use Rattle.tree_dp.proofs.RankingHead.{HasSolution, RootHas, root_has, has_solution}
use Rattle.tree_dp.proofs.RootRows.{row_placed}
use Rattle.witness_key.specs.WitnessKey.{witness_key}
use Rattle.rankings.proofs.Members.{member_map, member_unmap}
use Rattle.witness_key.proofs.Members.{ascending_map}
use Rattle.witness_key.proofs.Rankings.{orders_agree, witness_length}
use Rattle.anyk_model.specs.BestList.{best_list, IsLeastOfRow}
use Rattle.anyk_model.proofs.Least.{best_ranking}
use Rattle.engine_choice.specs.BestKey.{RanksWitnesses}
use Rattle.engine_choice.proofs.RootSlots.{RowOf, root_slot}

module _ {R : Type 0} (d : ℕ) (key : R → KeyOf d 16) (t : List (NodeView R)) (formed : IsFormed d key t) where
  some_node : 0 < length t
  some_node = omega (arith, formed.shaped.some_node)

  -- each tree has a ranking
  tree_ranking : (all : List (KeyOf d 16)) × IsTreeRanking t d key all
  tree_ranking =
      let keys = group_keys (key_below d 16) (key_add d 16) (key_none d 16) (tuple_keys d 16) (length t) (parent t) (rank t d key) (group t) (suc (length t)) 0 0 in (
        ranked (key_below d 16) (tuple_keys d 16).order keys,
        IsRanking-same (key_below d 16) (RootHas d key t formed) (HasSolution d key t formed) (ranked (key_below d 16) (tuple_keys d 16).order keys) (has_solution d key t formed) (root_has d key t formed)
            (group_ranking (key_below d 16) (key_add d 16) (key_none d 16) (tuple_keys d 16) (length t) (parent t) (rank t d key) (group t) (suc (length t)) 0 0 some_node),
      )

  module _ (apart : IsTieFreeTree t) (query : Query) (tables : List Table) (keys : length query.order ≤ d) (few : length query.items ≤ 16) (ranks : RanksWitnesses d key query tables t) where
    -- the keys of the root's solutions are the keys of the witnesses
    witness_of : (k : KeyOf d 16) → RootHas d key t formed k → (found : List ℕ) × IsWitness query tables found × (k ≡ witness_key d query tables found)
    witness_of k h =
        let all = tree_ranking in
        let m : IsMember k (map (witness_key d query tables) (ranking_of query tables)) = subst (IsMember k) (ranks all.0 all.1) (all.1.complete k (has_solution d key t formed k h)) in
        let f = member_unmap (witness_key d query tables) k (ranking_of query tables) m in
        (f.0, (ranking_is query tables).sound f.0 f.1, f.2)

    had_by : (found : List ℕ) → IsWitness query tables found → RootHas d key t formed (witness_key d query tables found)
    had_by found w =
        let all = tree_ranking in
        let m = member_map (witness_key d query tables) found (ranking_of query tables) ((ranking_is query tables).complete found w) in
        root_has d key t formed (witness_key d query tables found) (all.1.sound (witness_key d query tables found) (subst (IsMember (witness_key d query tables found)) (sym (ranks all.0 all.1)) m))

    -- a witness has the number of the root's row
    row_of : (found : List ℕ) (depth r : ℕ) → RowOf d key t formed apart depth 0 r (witness_key d query tables found) → slice_index found (item t 0) ≡ number t 0 r
    row_of found depth r h =
        sym (slot_of_lists d 16 (item t 0) (map (rank_of query tables found) query.order) found (formed.shaped.items 0 some_node))
        ∙ root_slot d key t formed apart depth r (witness_key d query tables found) h

    earlier : (a b : List ℕ) → IsWitness query tables a → IsWitness query tables b → (key_below d 16 (witness_key d query tables a) (witness_key d query tables b) → Precedes query tables a b)
        × (Precedes query tables a b → key_below d 16 (witness_key d query tables a) (witness_key d query tables b))
    earlier a b p q = let o = orders_agree d query tables a b keys few (witness_length query tables a p) (witness_length query tables b q) in (o.0, o.1)

    -- the best key of a row of the root is one of the root's keys
    best_root : (r : ℕ) → r < rows t 0 → RootHas d key t formed (best t d key 0 r)
    best_root r l =
        let p = row_placed d key t formed r l in
        (p.0, p.1, subst (λ x. RowOf d key t formed apart (suc (length t)) 0 x (best t d key 0 r)) (sym p.2) (best_had d key t formed (suc (length t)) 0 r (omega arith) some_node l))

    -- no witness with the same row has a smaller key
    none_earlier : (r : ℕ) → r < rows t 0 → (other : List ℕ) → IsWitness query tables other → slice_index other (item t 0) ≡ number t 0 r → AtMost (key_below d 16) (best t d key 0 r) (witness_key d query tables other)
    none_earlier r l other w e =
        let h = had_by other w in
        let p = row_placed d key t formed r l in
        let same : get_or (members t 0 0) h.0 0 ≡ r =
        apart 0 0 h.0 p.0 some_node h.1 p.1 (sym (row_of other (suc (length t)) (get_or (members t 0 0) h.0 0) h.2) ∙ e ∙ ap (number t 0) (sym p.2)) ∙ p.2
        in
        best_least d key t formed (suc (length t)) 0 r (witness_key d query tables other) some_node l
        (subst (λ x. RowOf d key t formed apart (suc (length t)) 0 x (witness_key d query tables other)) same h.2)

    -- the best of a row is the least witness of its number
    best_witness : (r : ℕ) → r < rows t 0 → (found : List ℕ) × IsLeastOfRow query tables (item t 0) found × (best t d key 0 r ≡ witness_key d query tables found) × (slice_index found (item t 0) ≡ number t 0 r)
    best_witness r l =
        let f = witness_of (best t d key 0 r) (best_root r l) in
        let order = (tuple_keys d 16).order in
        let own : slice_index f.0 (item t 0) ≡ number t 0 r =
        row_of f.0 (suc (length t)) r (subst (RowOf d key t formed apart (suc (length t)) 0 r) f.2 (best_had d key t formed (suc (length t)) 0 r (omega arith) some_node l))
        in (
          f.0,
          record {
            witness = f.1;
            least = λ other w same before.
                let below : key_below d 16 (witness_key d query tables other) (best t d key 0 r) = subst (key_below d 16 (witness_key d query tables other)) (sym f.2) ((earlier other f.0 w f.1).1 before) in
                elim (none_earlier r l other w (same ∙ own)) [
                  | inl above ↦ order.irreflexive (best t d key 0 r) (order.transitive (best t d key 0 r) (witness_key d query tables other) (best t d key 0 r) above below)
                  | inr e ↦ order.irreflexive (best t d key 0 r) (subst (λ z. key_below d 16 z (best t d key 0 r)) (sym e) below)
                ];
          },
          f.2,
          own,
        )

    -- and the least witness of a row is the best of a row of the root
    witness_best : (found : List ℕ) → IsLeastOfRow query tables (item t 0) found → (r : ℕ) × (r < rows t 0) × (witness_key d query tables found ≡ best t d key 0 r)
    witness_best found l =
        let h = had_by found l.witness in
        let r = get_or (members t 0 0) h.0 0 in
        let row : r < rows t 0 = member_is_row d key t formed 0 0 h.0 some_node h.1 in
        let number_is = row_of found (suc (length t)) r h.2 in
        let first = best_witness r row in
        elim (best_least d key t formed (suc (length t)) 0 r (witness_key d query tables found) some_node row h.2) [
          | inl below ↦ absurd (l.least first.0 first.1.witness (first.3 ∙ sym number_is) ((earlier first.0 found first.1.witness l.witness).0 (subst (λ z. key_below d 16 z (witness_key d query tables found)) first.2 below)))
          | inr e ↦ (r, row, sym e)
        ]

    pub bests_agree_lem : (ks : List (KeyOf d 16)) → IsBestRanking t d key ks → ks ≡ map (witness_key d query tables) (best_list (item t 0) (ranking_of query tables))
    bests_agree_lem ks ranking =
        let own_key = witness_key d query tables in
        let list = best_list (item t 0) (ranking_of query tables) in
        let Has : KeyOf d 16 → Type 0 = λ k. (r : ℕ) × (r < rows t 0) × (k ≡ best t d key 0 r) in
        let least = best_ranking query tables (item t 0) in
        ranking_unique (key_below d 16) (tuple_keys d 16).order Has ks (map own_key list) ranking
        (record {
          ascending = ascending_map own_key (IsLeastOfRow query tables (item t 0)) (Precedes query tables) (key_below d 16) (λ a b p q. (earlier a b p.witness q.witness).1) list least.sound least.ascending;
          sound = λ k m.
              let f = member_unmap own_key k list m in
              let b = witness_best f.0 (least.sound f.0 f.1) in
              (b.0, b.1, f.2 ∙ b.2);
          complete = λ k h.
              let b = best_witness h.0 h.1 in
              subst (λ z. IsMember z (map own_key list)) (sym (h.2 ∙ b.2)) (member_map own_key b.0 list (least.complete b.0 b.1));
        })
