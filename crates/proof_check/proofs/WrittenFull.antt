-- The certificate that is written for a ranking leaves nothing out.
use Rattle.std.proofs.Common.{◌≡◌, ℕ, suc, ◌+◌, ◌-◌, ◌<◌, ◌≤◌, true, false, not, List, [], length, map, get_or, pos}
use Rattle.std.proofs.Common.{refl, sym, ap, ◌∙◌, subst, inl, inr, arith}
use Rattle.std.specs.Prelude.{Option, None, Some}
use Rattle.std.proofs.lemmas.Bool.{cases_lt}
use Rattle.std.proofs.lemmas.List.{get_or-map, length-map}
use Rattle.tdp_model.specs.KeyTuple.{KeyOf, slot_of}
use Rattle.tdp_model.specs.Remains.{AtMost}
use Rattle.anyk_model.specs.Table.{Table}
use Rattle.anyk_model.specs.Query.{IsWitness, Query}
use Rattle.anyk_model.specs.Output.{cut}
use Rattle.anyk_model.specs.Ranking.{IsBefore, Precedes, ranking_of}
use Rattle.anyk_model.proofs.Exists.{ranking_is}
use Rattle.anyk_model.specs.ListOrder.{before_irrefl}
use Rattle.bound_query.specs.NamedPlaces.{NamesExist}
use Rattle.bound_query.specs.Shape.{HasTree}
use Rattle.bound_query.specs.Steps.{reaches}
use Rattle.witness_key.specs.WitnessKey.{witness_key}
use Rattle.witness_key.proofs.Rankings.{orders_agree, witness_length}
use Rattle.proof_model.specs.Certificate.{AnswerLine, Certificate}
use Rattle.proof_model.specs.Full.{IsFull}
use Rattle.proof_model.specs.Laws.{IsProblem, IsSubtree, subtree_key}
use Rattle.proof_model.specs.Problem.{Problem, IsSolutionAt, key_at, row_in}
use Rattle.proof_model.specs.QueryProblem.{problem_of}
use Rattle.proof_model.specs.Valid.{Begins, IsBoundOf, IsCount, StandsFor, answer_at, answer_key, bound_at, bound_key}
use Rattle.proof_model.specs.Valid.{bound_row}
use Rattle.proof_model.specs.WrittenProofs.{BoundBefore, IsFirstOfGroup, IsWritten}
use Rattle.proof_model.proofs.OneText.{firsts_same}
use Rattle.proof_model.proofs.QueryItems.{few_items, keys_hold, node_items, tree_problem}
use Rattle.proof_model.proofs.SolutionRows.{HasItems, list_key, list_of, list_solves, own_below}
use Rattle.proof_check.proofs.Lists.{AreFirst, are_first, place_at}
use Rattle.proof_check.proofs.SolutionWitnesses.{root_below, rows_key, solution_witness, witness_solution}
use Rattle.tdp_model.proofs.Keys.{ascending_below}
use Rattle.rankings.proofs.Members.{get_member}

module _ (query : Query) (tables : List Table) (atoms parents : List ℕ) (within : NamesExist query tables)
    (hung : HasTree query atoms parents)
    (c : Certificate)
    (written : IsWritten (problem_of query tables atoms parents) c (cut query.limit (ranking_of query tables)))
    (ended : c.ended ≡ not (reaches query.limit (ranking_of query tables))) where
  abbrev t : Problem (KeyOf (length query.order) 16)
  t = problem_of query tables atoms parents

  laws : IsProblem (problem_of query tables atoms parents)
  laws = tree_problem query tables atoms parents hung

  items : HasItems (problem_of query tables atoms parents) (length query.items)
  items = node_items query tables atoms parents hung

  abbrev ranking : List (List ℕ)
  ranking = ranking_of query tables

  -- ---- bounds

  first_at : (v i : ℕ) → IsBoundOf t c v i → IsFirstOfGroup t c v (bound_at t c i).rows
  first_at v i b =
      let f = written.firsts i b.0 in
      let same : f.0 ≡ v = let e : suc f.0 ≡ suc v = sym f.1 ∙ b.1 in omega (arith, e) in
      subst (λ n. IsFirstOfGroup t c n (bound_at t c i).rows) same f.2

  apart : (v i j : ℕ) → i < j → IsBoundOf t c v i → IsBoundOf t c v j
      → t.IsGrouped v (bound_row t c v i) (bound_row t c v j) → ⊥
  apart v i j less a b g =
      let rows : (bound_at t c i).rows ≡ (bound_at t c j).rows =
      firsts_same t laws (length query.items) items (slot_of (length query.order) 16)
      (keys_hold query tables atoms parents hung) c c v
      (bound_at t c i).rows (bound_at t c j).rows (first_at v i a) (first_at v j b) g in
      let before : BoundBefore (bound_at t c i) (bound_at t c j) =
      ascending_below BoundBefore c.bounds i j (record { line = 0; node = 0; rows = [] }) written.ordered less b.0 in
      elim before [
        | inl node ↦ let x = a.1 in let y = b.1 in omega (arith, node, x, y)
        | inr later ↦
            before_irrefl (map pos (bound_at t c j).rows)
            (subst (λ r. IsBefore (map pos r) (map pos (bound_at t c j).rows)) rows later.1)
      ]

  least : (v : ℕ) (s : ℕ → ℕ) → IsSubtree t v s
      → (i : ℕ) × StandsFor t c v (s v) i × AtMost t.Below (bound_key t c v i) (subtree_key t v s)
  least v s sub =
      let list = list_of t laws (length query.items) items v s in
      let solution = list_solves t laws (length query.items) items v s list.0 list.1 sub in
      let found = written.each v list.0 solution in
      let row : row_in t v list.0 v ≡ s v = list.1.row v sub.node (own_below t laws (length query.items) items v) in (
        found.0,
        subst (λ r. StandsFor t c v r found.0) row found.1,
        subst (λ k. AtMost t.Below (bound_key t c v found.0) k)
            (list_key t laws (length query.items) items v s list.0 list.1)
            ((first_at v found.0 found.1.0).least list.0 solution found.1.1),
      )

  -- ---- answers

  abbrev left : List (List ℕ)
  left = cut query.limit ranking

  cuts : AreFirst ranking [] query.limit
  cuts = are_first ranking [] query.limit

  as_left : length c.answers ≡ length left
  as_left = sym (length-map c.answers (λ (a : AnswerLine). a.rows)) ∙ ap length written.answers

  answer_is : (i : ℕ) → i < length c.answers → (answer_at t c i).rows ≡ get_or ranking i []
  answer_is i l =
      sym (get_or-map (λ (a : AnswerLine). a.rows) c.answers i (record { line = 0; rows = [] }) [] l)
      ∙ ap (λ rows. get_or rows i []) written.answers
      ∙ cuts.at i (omega (arith, l, as_left))

  within_ranking : (i : ℕ) → i < length c.answers → i < length ranking
  within_ranking i l = let f = cuts.fewer in omega (arith, f, l, as_left)

  witness_at : (i : ℕ) → i < length ranking → IsWitness query tables (get_or ranking i [])
  witness_at i l = (ranking_is query tables).sound (get_or ranking i []) (get_member ranking i [] l)

  pub answer_solves : (i : ℕ) → i < length c.answers → IsSolutionAt t 0 (answer_at t c i).rows
  answer_solves i l =
      subst (IsSolutionAt t 0) (sym (answer_is i l))
      (witness_solution query tables atoms parents within hung (get_or ranking i [])
      (witness_at i (within_ranking i l)))

  -- the keys of the ranking's members ascend
  keys_rise : (i j : ℕ) → i < j → j < length ranking
      → t.Below (key_at t 0 (get_or ranking i [])) (key_at t 0 (get_or ranking j []))
  keys_rise i j less l =
      let a = get_or ranking i [] in
      let b = get_or ranking j [] in
      let wa = witness_at i (omega (arith, less, l)) in
      let wb = witness_at j l in
      let p : Precedes query tables a b = ascending_below (Precedes query tables) ranking i j []
      (ranking_is query tables).ascending less l in
      let q = (orders_agree (length query.order) query tables a b (omega arith)
      (few_items query tables atoms parents hung)
      (witness_length query tables a wa) (witness_length query tables b wb)).1 p in
      subst (λ k. t.Below k (key_at t 0 b)) (sym (rows_key query tables atoms parents within hung a
      (witness_length query tables a wa)))
      (subst (λ k. t.Below (witness_key (length query.order) query tables a) k)
      (sym (rows_key query tables atoms parents within hung b (witness_length query tables b wb))) q)

  ascending : (i : ℕ) → i + 1 < length c.answers → t.Below (answer_key t c i) (answer_key t c (i + 1))
  ascending i l =
      subst (λ rows. t.Below (key_at t 0 rows) (answer_key t c (i + 1))) (sym (answer_is i (omega (arith, l))))
      (subst (λ rows. t.Below (key_at t 0 (get_or ranking i [])) (key_at t 0 rows)) (sym (answer_is (i + 1) l))
      (keys_rise i (i + 1) (omega arith) (within_ranking (i + 1) l)))

  count : IsCount t c query.limit c.ended (length c.answers)
  count = elim cuts.counted [
    | inl some ↦
        subst (λ b. IsCount t c query.limit b (length c.answers)) (sym (ended ∙ ap not some.1))
        (some.0 ∙ ap (λ (n : ℕ). Some n) (sym as_left))
    | inr all ↦
        subst (λ b. IsCount t c query.limit b (length c.answers)) (sym (ended ∙ ap not all.1)) (by query.limit refl)
  ]
    where
      by : (limit : Option ℕ) → query.limit ≡ limit → IsCount t c limit true (length c.answers)
      by None e = tt
      by (Some n) e = let h = cuts.within n e in omega (arith, h, as_left)

  others : (s : ℕ → ℕ) → IsSubtree t 0 s → ((i : ℕ) → Begins t c i s t.nodes → ⊥)
      → (c.ended ≡ false)
      × (0 < length c.answers → t.Below (answer_key t c (length c.answers - 1)) (subtree_key t 0 s))
  others s sub unlisted =
      let list = list_of t laws (length query.items) items 0 s in
      let solution = list_solves t laws (length query.items) items 0 s list.0 list.1 sub in
      let witness = solution_witness query tables atoms parents within hung list.0 solution in
      let at = place_at list.0 ranking [] ((ranking_is query tables).complete list.0 witness) in
      let past : length c.answers ≤ at.0 = elim (cases_lt at.0 (length c.answers)) [
        | inl l ↦ absurd (unlisted at.0 (
          l,
          λ q h.
              ap (λ rows. row_in t 0 rows q) (answer_is at.0 l ∙ at.2)
              ∙ list.1.row q h (root_below query tables atoms parents within hung q h),
        ))
        | inr more ↦ more
      ] in
      let inside = at.1 in (
        elim cuts.counted [
          | inl some ↦ ended ∙ ap not some.1
          | inr all ↦ let n = ap length all.0 in absurd (omega (arith, n, past, inside, as_left))
        ],
        λ some.
            subst (λ rows. t.Below (key_at t 0 rows) (subtree_key t 0 s))
            (sym (answer_is (length c.answers - 1) (omega (arith, some))))
            (subst (λ k. t.Below (key_at t 0 (get_or ranking (length c.answers - 1) [])) k)
            (list_key t laws (length query.items) items 0 s list.0 list.1)
            (subst (λ rows. t.Below (key_at t 0 (get_or ranking (length c.answers - 1) [])) (key_at t 0 rows)) at.2
            (keys_rise (length c.answers - 1) at.0 (omega (arith, some, past)) at.1))),
      )

  pub written_full : IsFull (problem_of query tables atoms parents) c query.limit
  written_full = record {
    bounds = λ i l. let f = written.firsts i l in (f.0, f.1, f.2.solution);
    apart = apart;
    least = least;
    answers = answer_solves;
    ascending = ascending;
    count = count;
    others = others;
  }
