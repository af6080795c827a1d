-- The keys of a query's witnesses, as ranks have them, and their ranking.
use Rattle.std.proofs.Common.{◌≡◌, ◌≤◌, ◌↔◌, ℕ, List, map, length, sym, subst, ◌∙◌, arith}
use Rattle.std.proofs.lemmas.List.{length-map}
use Rattle.rankings.specs.Order.{IsMember, IsRanking}
use Rattle.rankings.proofs.Unique.{ranking_unique}
use Rattle.tdp_model.specs.KeyTuple.{KeyOf, key_below}
use Rattle.tdp_model.proofs.KeyTuples.{tuple_keys}
use Rattle.anyk_model.proofs.Combinations.{combination_length}
use Rattle.anyk_model.specs.Table.{Table, table_at}
use Rattle.anyk_model.specs.Query.{Item, Query, IsWitness, rank_of, row_counts}
use Rattle.anyk_model.specs.Ranking.{Precedes, ranking_of}
use Rattle.anyk_model.proofs.Exists.{ranking_is}
use Rattle.witness_key.specs.WitnessKey.{IsWitnessKey, witness_key}
use Rattle.rankings.proofs.Members.{member_map, member_unmap}
use Rattle.witness_key.proofs.Members.{ascending_map}
use Rattle.witness_key.proofs.Orders.{keys_agree_lem, keys_tell}

-- a witness has a row of each item
pub witness_length : (query : Query) (tables : List Table) (rows : List ℕ) → IsWitness query tables rows → length rows ≡ length query.items
witness_length query tables rows w =
    combination_length (row_counts query.items tables) rows w.0 ∙ length-map query.items (λ (i : Item). length ((table_at tables i.table).rows))

module _ (d : ℕ) (query : Query) (tables : List Table) where
  pub orders_agree : (a b : List ℕ) → length query.order ≤ d → length query.items ≤ 16 → length a ≡ length query.items → length b ≡ length query.items
      → key_below d 16 (witness_key d query tables a) (witness_key d query tables b) ↔ Precedes query tables a b
  orders_agree a b keys items of_a of_b =
      let sums_a = length-map query.order (rank_of query tables a) in
      let sums_b = length-map query.order (rank_of query tables b) in
      keys_agree_lem d 16 (map (rank_of query tables a) query.order) (map (rank_of query tables b) query.order) a b
      (omega arith) (omega arith) (omega arith) (omega arith)

  pub keys_tell_witnesses_lem : (a b : List ℕ) → length query.items ≤ 16 → length a ≡ length query.items → length b ≡ length query.items
      → witness_key d query tables a ≡ witness_key d query tables b → a ≡ b
  keys_tell_witnesses_lem a b items of_a of_b alike =
      keys_tell d 16 (map (rank_of query tables a) query.order) (map (rank_of query tables b) query.order) a b (omega arith) (omega arith) alike

  -- the keys of the ranking are the ranking of the keys
  pub keys_of_ranking : length query.order ≤ d → length query.items ≤ 16
      → IsRanking (KeyOf d 16) (key_below d 16) (IsWitnessKey d query tables) (map (witness_key d query tables) (ranking_of query tables))
  keys_of_ranking keys items =
      let ranking = ranking_is query tables in
      let key = witness_key d query tables in
      let list = ranking_of query tables in
      record {
        ascending = ascending_map key (IsWitness query tables) (Precedes query tables) (key_below d 16)
            (λ a b p q. (orders_agree a b keys items (witness_length query tables a p) (witness_length query tables b q)).1)
            list ranking.sound ranking.ascending;
        sound = λ k m.
            let from = member_unmap key k list m in
            record { rows = from.0; witness = ranking.sound from.0 from.1; is = from.2 };
        complete = λ k w. subst (λ l. IsMember l (map key list)) (sym w.is) (member_map key w.rows list (ranking.complete w.rows w.witness));
      }

  pub rankings_agree_lem : (keys : List (KeyOf d 16)) → length query.order ≤ d → length query.items ≤ 16
      → IsRanking (KeyOf d 16) (key_below d 16) (IsWitnessKey d query tables) keys → keys ≡ map (witness_key d query tables) (ranking_of query tables)
  rankings_agree_lem keys few items ranking =
      ranking_unique (key_below d 16) (tuple_keys d 16).order (IsWitnessKey d query tables) keys (map (witness_key d query tables) (ranking_of query tables))
      ranking (keys_of_ranking few items)
