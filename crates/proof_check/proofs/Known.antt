-- What is known before a row is chosen, and that row's rank with the bounds that it names: as keys of the problem.
use Rattle.std.proofs.Common.{◌≡◌, ℕ, suc, ◌-◌, ◌<◌, ◌≤◌, cond, nat_eq, nat_le, Option, Some}
use Rattle.std.proofs.Common.{option_map, unwrap_or, List, length, slice_index, refl, sym, ap, subst, ◌∙◌, inl, inr, arith}
use Rattle.std.proofs.lemmas.Bool.{cases_lt, cases_eq}
use Rattle.anyk_model.specs.Table.{Table}
use Rattle.anyk_model.specs.Query.{Query}
use Rattle.join_tree.specs.Rerooting.{IsTree}
use Rattle.join_tree.specs.declared.tree.JoinTree.{JoinTree}
use Rattle.tdp_model.specs.KeyTuple.{KeyOf, key_below, key_add, key_none}
use Rattle.tdp_model.specs.TreeProblem.{sum_from, kid_key}
use Rattle.tdp_model.proofs.KeyTuples.{tuple_keys}
use Rattle.tdp_model.proofs.Sums.{sum_same}
use Rattle.rank_key.specs.Keys.{KeyFits}
use Rattle.tdp_core.specs.RawView.{IsRawFormed, raw_len, raw_number, raw_rank}
use Rattle.proof_model.specs.Certificate.{Certificate}
use Rattle.proof_model.specs.Problem.{Problem, IsSolutionAt}
use Rattle.proof_model.specs.QueryProblem.{problem_in}
use Rattle.proof_model.specs.Laws.{IsProblem}
use Rattle.proof_model.specs.Valid.{IsBoundOf, Serves, bound_at, bound_key}
use Rattle.proof_model.proofs.Choices.{pick_le, pick_gt}
use Rattle.proof_model.proofs.QueryLaws.{query_problem}
use Rattle.proof_model.proofs.Sums.{pick_eq, pick_ne}
use Rattle.proof_model.proofs.Wider.{wide_add, wide_none, wide_sum}
use Rattle.proof_check.specs.BoundedRows.{BoundedView, IsBounded, named_bound, query_key, rank_of_bound}
use Rattle.proof_check.proofs.RankSums.{parts_fit}
use Rattle.proof_check.specs.LowBounds.{AreServed, low_key}
use Rattle.proof_check.proofs.Nodes.{stored_parent, parents_earlier, option_some}
use Rattle.proof_check.proofs.Keys.{base_key, base_term, choice_term}
use Rattle.proof_check.specs.Levels.{base_part}
use Rattle.proof_check.proofs.Supported.{IsSumOver}
use Rattle.proof_check.proofs.Ways.{base_and_low, base_over, choice_over, holder}
use Rattle.std.proofs.lemmas.Option.{same_Some}

-- what a node gives, if it gives anything
abbrev pub part_key : {R : Type 0} → JoinTree → BoundedView R → (d : ℕ) → (R → KeyOf d 16) → ℕ → List ℕ → ℕ → KeyOf d 16
part_key join tree d key p start q = unwrap_or (base_part join tree d key p start q) (key_none d 16)

module _ {R : Type 0} (query : Query) (tables : List Table) (join : JoinTree) (d : ℕ) (key : R → KeyOf d 16)
    (c : Certificate) (tree : BoundedView R) (few : length query.order ≤ d)
    (bounded : IsBounded query tables join d key c tree) (ordered : IsTree join.count join.atom join.parent)
    (long : length join.atom ≡ 16) where
  abbrev t : Problem (KeyOf (length query.order) 16)
  t = problem_in query tables join

  abbrev W : KeyOf (length query.order) 16 → KeyOf d 16
  W k = query_key query d k

  pub laws : 0 < t.nodes → IsProblem t
  laws some = query_problem query tables _ _ some (λ q p l. parents_earlier query tables join ordered q p l)

  -- a bound line is a solution of its node
  pub solved : (q i : ℕ) → IsBoundOf t c q i → IsSolutionAt t q (bound_at t c i).rows
  solved q i b =
      let h = bounded.solutions i b.0 in
      let same : h.0 ≡ q = let e : suc h.0 ≡ suc q = sym h.1 ∙ b.1 in omega (arith, e) in
      subst (λ w. IsSolutionAt t w (bound_at t c i).rows) same h.2

  -- a sum of rows' keys fits
  pub over_fits : (some : 0 < t.nodes) (Has : ℕ → Type 0) (k : KeyOf (length query.order) 16) → IsRawFormed d key tree.raw
      → IsSumOver t (laws some) Has k → KeyFits d key (W k)
  over_fits some Has k formed s =
      subst (KeyFits d key) (sym (wide_sum (length query.order) d few s.part t.nodes 0) ∙ ap W s.whole)
      (subst (λ n. KeyFits d key (sum_from (key_add d 16) (key_none d 16) (λ q. W (s.part q)) n 0)) bounded.rows.nodes
      (parts_fit d key tree.raw formed (λ q. W (s.part q)) (λ q h.
      let l : q < t.nodes = let e = bounded.rows.nodes in omega (arith, e, h) in
      elim (s.each q l) [
        | inl e ↦ inl (ap W e ∙ wide_none (length query.order) d 16 few)
        | inr p ↦
            let at = bounded.rows.every_row q p.1.0 l p.1.1 in
            inr (at.0, at.1, ap W p.1.2 ∙ ap (λ r. W (t.key q r)) (sym at.2) ∙ sym (bounded.rows.keys q at.0 l at.1))
      ]) (length tree.raw.shapes) (omega arith)))

  module _ (p : ℕ) (node : p < t.nodes) (start : List ℕ)
      (within : (q : ℕ) → q < p → slice_index start q < raw_len tree.raw q) where
    abbrev pub rows : ℕ → ℕ
    rows q = raw_number tree.raw q (slice_index start q)

    -- the row above node q, by its place
    abbrev pub above : ℕ → ℕ
    above q = slice_index start (slice_index join.parent q)

    -- the line of the bound that it names
    abbrev pub below : ℕ → ℕ
    below q = unwrap_or (option_map (bounded.line q) (named_bound tree q (above q))) 0

    some_nodes : 0 < t.nodes
    some_nodes = omega (arith, node)

    above_is : (q : ℕ) → q < t.nodes → rows (t.parent q) ≡ raw_number tree.raw (t.parent q) (above q)
    above_is q l = ap (λ u. raw_number tree.raw (t.parent q) (slice_index start u)) (stored_parent query tables join q l)

    above_within : (q : ℕ) → q < t.nodes → t.parent q < p → above q < raw_len tree.raw (t.parent q)
    above_within q l h =
        subst (λ u. slice_index start u < raw_len tree.raw (t.parent q)) (stored_parent query tables join q l)
        (within (t.parent q) h)

    -- a bound that is named serves
    pub named_serves : (q b : ℕ) → 0 < q → q < t.nodes → t.parent q < p → named_bound tree q (above q) ≡ Some b
        → Serves t c q (rows (t.parent q)) (below q) × (rank_of_bound tree d key q b ≡ W (bound_key t c q (below q)))
    named_serves q b some l h e =
        let is = bounded.named_is q (above q) b some l (above_within q l h) e in
        let line : bounded.line q b ≡ below q =
        sym (ap (λ o. unwrap_or (option_map (bounded.line q) o) 0) e) in (
          subst (λ r. Serves t c q r (below q)) (sym (above_is q l))
              (subst (Serves t c q (raw_number tree.raw (t.parent q) (above q))) line is.1),
          bounded.ranks q b l is.0 ∙ ap (λ j. W (bound_key t c q j)) line,
        )

    abbrev part : ℕ → Option (KeyOf d 16)
    part q = base_part join tree d key p start q

    part_open : (q : ℕ) (k : KeyOf d 16) → p < q → q < t.nodes → t.parent q < p → part q ≡ Some k
        → (b : ℕ) × (named_bound tree q (above q) ≡ Some b) × (k ≡ rank_of_bound tree d key q b)
    part_open q k past l low e =
        option_some (rank_of_bound tree d key q) (named_bound tree q (above q)) k (sym (
        sym (pick_gt (suc q) p (Some (raw_rank tree.raw d key q (slice_index start q))) _ (omega (arith, past))
        ∙ pick_gt q p (Some (key_none d 16)) _ past
        ∙ pick_le (suc (slice_index join.parent q)) p
        (option_map (rank_of_bound tree d key q) (named_bound tree q (above q))) (Some (key_none d 16))
        (omega (arith, stored_parent query tables join q l, low))) ∙ e))

    -- what a node gives is what it gives in the problem
    part_is : (q : ℕ) (k : KeyOf d 16) → q < t.nodes → part q ≡ Some k → k ≡ W (base_term t c p rows below q)
    part_is q k l e = elim (cases_lt q p) [
      | inl less ↦
          same_Some k (raw_rank tree.raw d key q (slice_index start q))
          (sym e ∙ pick_le (suc q) p (Some (raw_rank tree.raw d key q (slice_index start q))) _ less)
          ∙ bounded.rows.keys q (slice_index start q) l (within q less)
          ∙ ap W (sym (pick_le (suc q) p (t.key q (rows q)) _ less))
      | inr more ↦ elim (cases_lt p q) [
        | inr at ↦
            same_Some k (key_none d 16) (sym e
            ∙ pick_gt (suc q) p (Some (raw_rank tree.raw d key q (slice_index start q))) _ (omega (arith, more))
            ∙ pick_le q p (Some (key_none d 16)) _ at)
            ∙ sym (wide_none (length query.order) d 16 few)
            ∙ ap W (sym (pick_gt (suc q) p (t.key q (rows q)) _ (omega (arith, more)) ∙ pick_le q p t.none _ at))
        | inl past ↦ elim (cases_lt (t.parent q) p) [
          | inl low ↦
              let named = part_open q k past l low e in
              named.2 ∙ (named_serves q named.0 (omega (arith, past)) l low named.1).1
              ∙ ap W (sym (pick_gt (suc q) p (t.key q (rows q)) _ (omega (arith, more)) ∙ pick_gt q p t.none _ past
              ∙ pick_le (suc (t.parent q)) p (bound_key t c q (below q)) t.none low))
          | inr high ↦
              same_Some k (key_none d 16) (sym e
              ∙ pick_gt (suc q) p (Some (raw_rank tree.raw d key q (slice_index start q))) _ (omega (arith, more))
              ∙ pick_gt q p (Some (key_none d 16)) _ past
              ∙ pick_gt (suc (slice_index join.parent q)) p
              (option_map (rank_of_bound tree d key q) (named_bound tree q (above q))) (Some (key_none d 16))
              (omega (arith, stored_parent query tables join q l, high)))
              ∙ sym (wide_none (length query.order) d 16 few)
              ∙ ap W (sym (pick_gt (suc q) p (t.key q (rows q)) _ (omega (arith, more)) ∙ pick_gt q p t.none _ past
              ∙ pick_gt (suc (t.parent q)) p (bound_key t c q (below q)) t.none (omega (arith, high))))
        ]
      ]
    ]

    module _ (f : ℕ → KeyOf d 16) (n : ℕ) (less : n ≤ t.nodes) (parts : (q : ℕ) → q < n → part q ≡ Some (f q)) where
      -- the sum of what the first nodes give
      pub sum_is : sum_from (key_add d 16) (key_none d 16) f n 0
          ≡ W (sum_from t.add t.none (base_term t c p rows below) n 0)
      sum_is =
          sum_same (key_below d 16) (key_add d 16) (key_none d 16) (tuple_keys d 16) f
          (λ q. W (base_term t c p rows below q)) n 0
          (λ q a b. part_is q (f q) (omega (arith, b, less)) (parts q (omega (arith, b))))
          ∙ sym (wide_sum (length query.order) d few (base_term t c p rows below) n 0)

      -- it fits
      pub sum_fits : IsRawFormed d key tree.raw → KeyFits d key (sum_from (key_add d 16) (key_none d 16) f n 0)
      sum_fits formed =
          subst (KeyFits d key) (sym sum_is)
          (over_fits some_nodes (λ w. holder t (laws some_nodes) c p rows below w < n) _ formed
          (base_over t (laws some_nodes) c p rows below solved n less
          (λ q h l. bounded.rows.is_row q (slice_index start q) l (within q h))
          (λ q past h low.
          let l : q < t.nodes = omega (arith, h, less) in
          let named = part_open q (f q) past l low (parts q h) in
          (named_serves q named.0 (omega (arith, past)) l low named.1).0.0)))

    -- # With a row

    module _ (i : ℕ) (row : i < raw_len tree.raw p) (served : ℕ → ℕ)
        (serve : AreServed t c p (raw_number tree.raw p i) served) (f : ℕ → KeyOf d 16)
        (parts : (q : ℕ) → q < t.nodes → part q ≡ Some (f q)) where
      -- the rows up to node p
      abbrev pub all_rows : ℕ → ℕ
      all_rows q = cond (nat_eq q p) (raw_number tree.raw p i) (rows q)

      -- the bounds of all open groups
      abbrev pub all_below : ℕ → ℕ
      all_below q = cond (nat_eq (t.parent q) p) (served q) (below q)

      last_row : all_rows p ≡ raw_number tree.raw p i
      last_row = pick_eq p p (raw_number tree.raw p i) (rows p) refl

      early_row : (q : ℕ) → q < p → all_rows q ≡ rows q
      early_row q h = pick_ne q p (raw_number tree.raw p i) (rows q) (λ e. omega (arith, e, h))

      pub choice_row : (q : ℕ) → q ≤ p → t.IsRow q (all_rows q)
      choice_row q h = elim (cases_eq q p) [
        | inl e ↦ subst (λ w. t.IsRow w (all_rows w)) (sym e)
            (subst (t.IsRow p) (sym last_row) (bounded.rows.is_row p i node row))
        | inr n ↦ subst (t.IsRow q) (sym (early_row q (omega (arith, n, h))))
            (bounded.rows.is_row q (slice_index start q) (omega (arith, h, node)) (within q (omega (arith, n, h))))
      ]

      pub choice_bound : (q : ℕ) → p < q → q < t.nodes → t.parent q ≤ p
          → Serves t c q (all_rows (t.parent q)) (all_below q)
      choice_bound q past l low = elim (cases_eq (t.parent q) p) [
        | inl e ↦
            subst (λ r. Serves t c q r (all_below q)) (sym (ap all_rows e ∙ last_row))
            (subst (Serves t c q (raw_number tree.raw p i)) (sym (pick_eq (t.parent q) p (served q) (below q) e))
            (serve q past l e))
        | inr n ↦
            let h : t.parent q < p = omega (arith, n, low) in
            let named = part_open q (f q) past l h (parts q l) in
            subst (λ r. Serves t c q r (all_below q)) (sym (early_row (t.parent q) h))
            (subst (Serves t c q (rows (t.parent q))) (sym (pick_ne (t.parent q) p (served q) (below q) n))
            (named_serves q named.0 (omega (arith, past)) l h named.1).0)
      ]

      base_same : base_key t c p rows below ≡ base_key t c p all_rows all_below
      base_same =
          sum_same t.Below t.add t.none (laws some_nodes).keys (base_term t c p rows below)
          (base_term t c p all_rows all_below) t.nodes 0 (λ q a b. elim (cases_lt q p) [
            | inl less ↦
                pick_le (suc q) p (t.key q (rows q)) _ less ∙ ap (t.key q) (sym (early_row q less))
                ∙ sym (pick_le (suc q) p (t.key q (all_rows q)) _ less)
            | inr more ↦
                pick_gt (suc q) p (t.key q (rows q)) _ (omega (arith, more))
                ∙ elim (cases_lt (t.parent q) p) [
                  | inl low ↦ ap
                      (λ j. cond (nat_le q p) t.none (cond (nat_le (suc (t.parent q)) p) (bound_key t c q j) t.none))
                      (sym (pick_ne (t.parent q) p (served q) (below q) (λ e. omega (arith, e, low))))
                  | inr high ↦
                      ap (λ z. cond (nat_le q p) t.none z)
                      (pick_gt (suc (t.parent q)) p (bound_key t c q (below q)) t.none (omega (arith, high))
                      ∙ sym (pick_gt (suc (t.parent q)) p (bound_key t c q (all_below q)) t.none (omega (arith, high))))
                ]
                ∙ sym (pick_gt (suc q) p (t.key q (all_rows q)) _ (omega (arith, more)))
          ])

      low_same : low_key t c p (raw_number tree.raw p i) served
          ≡ t.add (t.key p (all_rows p)) (sum_from t.add t.none
          (kid_key t.none t.parent p (λ q. bound_key t c q (all_below q))) (t.nodes - suc p) (suc p))
      unfolding kid_key
      low_same =
          ap (λ r. t.add (t.key p r) (sum_from t.add t.none
          (kid_key t.none t.parent p (λ q. bound_key t c q (served q))) (t.nodes - suc p) (suc p))) (sym last_row)
          ∙ ap (λ z. t.add (t.key p (all_rows p)) z)
          (sum_same t.Below t.add t.none (laws some_nodes).keys
          (kid_key t.none t.parent p (λ q. bound_key t c q (served q)))
          (kid_key t.none t.parent p (λ q. bound_key t c q (all_below q))) (t.nodes - suc p) (suc p)
          (λ q a b. elim (cases_eq (t.parent q) p) [
            | inl e ↦ ap (λ j. cond (nat_eq (t.parent q) p) (bound_key t c q j) t.none)
                (sym (pick_eq (t.parent q) p (served q) (below q) e))
            | inr n ↦ pick_ne (t.parent q) p (bound_key t c q (served q)) t.none n
                ∙ sym (pick_ne (t.parent q) p (bound_key t c q (all_below q)) t.none n)
          ]))

      -- the key of the choice
      pub choice_is : key_add d 16 (sum_from (key_add d 16) (key_none d 16) f t.nodes 0)
          (W (low_key t c p (raw_number tree.raw p i) served))
          ≡ W (sum_from t.add t.none (choice_term t c p all_rows all_below) t.nodes 0)
      choice_is =
          ap (λ z. key_add d 16 z (W (low_key t c p (raw_number tree.raw p i) served)))
          (sum_is f t.nodes (omega arith) parts ∙ ap W base_same)
          ∙ ap (λ z. key_add d 16 (W (base_key t c p all_rows all_below)) (W z)) low_same
          ∙ sym (wide_add (length query.order) d 16 few _ _)
          ∙ ap W (base_and_low t (laws some_nodes) c p all_rows all_below node)

      pub choice_fits : IsRawFormed d key tree.raw
          → KeyFits d key (W (sum_from t.add t.none (choice_term t c p all_rows all_below) t.nodes 0))
      choice_fits formed =
          over_fits some_nodes (λ w. holder t (laws some_nodes) c p all_rows all_below w < t.nodes) _ formed
          (choice_over t (laws some_nodes) c p all_rows all_below solved node choice_row
          (λ q past l low. (choice_bound q past l low).0))
