-- The combinations that the answers of a list of combinations stand for.
use Rattle.std.proofs.Common.{◌≡◌, ◌≤◌, ◌∷◌, [], ℕ, List, length, map, take, inl, inr, sym, refl, subst, ◌∙◌, arith}
use Rattle.std.proofs.lemmas.List.{ext_get_or, get_or-take, length-map, length-take-le}
use Rattle.std.specs.List.{AllByRecursion}
use Rattle.rankings.specs.Order.{IsMember}
use Rattle.anyk_model.specs.Table.{Table, table_at}
use Rattle.anyk_model.specs.Query.{Item, Query, IsCombination, IsWitness, rank_of, row_counts}
use Rattle.anyk_model.specs.Ranking.{ranking_of}
use Rattle.anyk_model.proofs.Exists.{ranking_is}
use Rattle.tdp_core.specs.AnswerView.{rows_of_key}
use Rattle.tdp_core.proofs.AnswerFacts.{rows_of_key_at, rows_of_key_length}
use Rattle.tdp_model.specs.KeyNumbers.{key_of_lists}
use Rattle.tdp_model.proofs.KeyNumbers.{slot_of_lists}
use Rattle.witness_key.specs.WitnessKey.{AreCombinations, answer_of_witness, answers_of_ranking, combinations_in}
use Rattle.anyk_model.proofs.Combinations.{combination_length}

-- the first rows of the answer that stands for a combination are the combination
first_rows : (d n : ℕ) (query : Query) (tables : List Table) (rows : List ℕ) → length rows ≡ n → n ≤ 16
    → take n ((answer_of_witness d query tables rows).rows) ≡ rows
first_rows d n query tables rows width few =
    let sums = map (rank_of query tables rows) query.order in
    let all = rows_of_key d 16 (key_of_lists d 16 sums rows) in
    let wide : length all ≡ 16 = rows_of_key_length d 16 (key_of_lists d 16 sums rows) in
    let shown : length (take n all) ≡ n = length-take-le n all (omega (arith, wide, few)) in
    ext_get_or 0 (take n all) rows (shown ∙ sym width)
    (λ i below. get_or-take n all i 0 (omega (arith, below, shown)) ∙ rows_of_key_at d 16 i (key_of_lists d 16 sums rows)
    ∙ slot_of_lists d 16 i sums rows (omega (arith, below, shown, few)))

module _ (d : ℕ) (query : Query) (tables : List Table) (few : length query.items ≤ 16) where
  -- a combination has a row of each item
  width : (rows : List ℕ) → IsCombination (row_counts query.items tables) rows → length rows ≡ length query.items
  width rows is =
      combination_length (row_counts query.items tables) rows is ∙ length-map query.items (λ (i : Item). length ((table_at tables i.table).rows))

  same_rows : (rows : List ℕ) → IsCombination (row_counts query.items tables) rows
      → take (length query.items) ((answer_of_witness d query tables rows).rows) ≡ rows
  same_rows rows is = first_rows d (length query.items) query tables rows (width rows is) few

  pub combinations_told : (list : List (List ℕ)) → AllByRecursion (IsCombination (row_counts query.items tables)) list
      → combinations_in query (answers_of_ranking d query tables list) ≡ list
  combinations_told [] all = refl
  combinations_told (rows ∷ list) all = λ i. (same_rows rows all.0) i ∷ (combinations_told list all.1) i

  pub combinations_all : (list : List (List ℕ)) → AllByRecursion (IsCombination (row_counts query.items tables)) list
      → AreCombinations query tables (answers_of_ranking d query tables list)
  combinations_all [] all = tt
  combinations_all (rows ∷ list) all =
      (subst (IsCombination (row_counts query.items tables)) (sym (same_rows rows all.0)) all.0, combinations_all list all.1)

  -- each member of the ranking is a combination
  pub members_combine : (list : List (List ℕ)) → ((rows : List ℕ) → IsMember rows list → IsWitness query tables rows)
      → AllByRecursion (IsCombination (row_counts query.items tables)) list
  members_combine [] sound = tt
  members_combine (rows ∷ list) sound = ((sound rows (inl refl)).0, members_combine list (λ other m. sound other (inr m)))

  pub ranking_tells : (combinations_in query (answers_of_ranking d query tables (ranking_of query tables)) ≡ ranking_of query tables)
      × AreCombinations query tables (answers_of_ranking d query tables (ranking_of query tables))
  ranking_tells =
      let all = members_combine (ranking_of query tables) (ranking_is query tables).sound in
      (combinations_told (ranking_of query tables) all, combinations_all (ranking_of query tables) all)
