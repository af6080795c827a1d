-- Sums of ranks of rows of a raw tree, one of each node or none.
use Rattle.std.proofs.Common.{◌≡◌, ◌⊎◌, ℕ, zero, suc, ◌+◌, ◌-◌, ◌<◌, ◌≤◌, Bool, true, false, cond, nat_eq, List, [], ◌∷◌}
use Rattle.std.proofs.Common.{length, map, get_or, unsigned_abs, refl, sym, ap, subst, ◌∙◌, inl, inr, arith}
use Rattle.std.specs.List.{All}
use Rattle.std.proofs.lemmas.Bool.{cond-false, cond-true}
use Rattle.std.proofs.lemmas.Bool.Decides.{Decides-eqb}
use Rattle.std.proofs.lemmas.List.Elements.{All-head, All-tail}
use Rattle.anyk_model.specs.Table.{Table}
use Rattle.anyk_model.specs.Query.{Query}
use Rattle.join_tree.specs.declared.tree.JoinTree.{JoinTree}
use Rattle.tdp_model.specs.Below.{is_below}
use Rattle.tdp_model.specs.KeyTuple.{KeyOf, key_add, key_below, key_none, slot_of}
use Rattle.tdp_model.specs.KeyNumbers.{sum_of}
use Rattle.tdp_model.specs.TreeProblem.{sum_from}
use Rattle.tdp_model.proofs.KeyNumbers.{sum_of_add, sum_of_none}
use Rattle.tdp_model.proofs.KeyTuples.{slot_of_add, slot_of_none, tuple_keys}
use Rattle.tdp_model.proofs.Ranges as ranges
use Rattle.tdp_model.proofs.Sums.{sum_last, sum_same}
use Rattle.rank_key.specs.Keys.{KeyFits}
use Rattle.tdp_core.specs.declared.parts.NodeShape.{NodeShape}
use Rattle.tdp_core.specs.RawView.{AreShapes, IsRawFormed, RawView, RawRowView, RawRowFits, raw_len, raw_rank, rows_at}
use Rattle.tdp_core.specs.RawView.{shape_cap, shape_item, shape_parent}
use Rattle.tdp_core.proofs.KeyRanges.{within_fits}
use Rattle.bound_query.proofs.Parts.{nat_abs_add}
use Rattle.proof_model.specs.Problem.{Problem, key_at, row_in}
use Rattle.proof_model.specs.QueryProblem.{problem_in}
use Rattle.proof_model.proofs.Wider.{wide_cond, wide_sum}
use Rattle.proof_check.specs.BoundedRows.{HasProblemRows, query_key}
use Rattle.proof_check.specs.Places.{ArePlacesOf, HasSolutionAt}
use Rattle.proof_check.specs.Subtrees.{raw_below}
use Rattle.proof_check.proofs.PlacedSolutions.{below_same, in_nodes}

fewer_terms : (g : ℕ → ℕ) (n k q : ℕ) → ranges.sum_of g n q ≤ ranges.sum_of g (n + k) q
unfolding ranges.sum_of
fewer_terms g zero k q = omega arith
fewer_terms g (suc n) k q =
    let e : suc n + k ≡ suc (n + k) = omega arith in
    omega (arith, ap (λ i. ranges.sum_of g i q) e, fewer_terms g n k (suc q))

module _ {R : Type 0} (d : ℕ) (key : R → KeyOf d 16) where
  abbrev weight : ℕ → KeyOf d 16 → ℕ
  weight i k = unsigned_abs (sum_of d 16 i k)

  weight_add : (i : ℕ) (a b : KeyOf d 16) → weight i (key_add d 16 a b) ≤ weight i a + weight i b
  weight_add i a b =
      subst (λ z. unsigned_abs z ≤ weight i a + weight i b) (sym (sum_of_add d 16 i a b)) (nat_abs_add (sum_of d 16 i a) (sum_of d 16 i b))

  weight_none : (i : ℕ) → weight i (key_none d 16) ≡ 0
  weight_none i = ap unsigned_abs (sum_of_none d 16 i)

  slot_add : (i : ℕ) (a b : KeyOf d 16) → slot_of d 16 i (key_add d 16 a b) ≤ slot_of d 16 i a + slot_of d 16 i b
  slot_add i a b = omega (arith, slot_of_add d 16 i a b)

  -- the greatest number in slot i of a row of an item, if `most` is that of all slots of ranks
  abbrev slot_cap : ℕ → ℕ → ℕ → ℕ
  slot_cap most i item = cond (nat_eq i item) most 0

  in_cap : (most row s : ℕ) (b : Bool) → s ≤ most → s ≡ cond b row 0 → s ≤ cond b most 0
  in_cap most row s true l e = l
  in_cap most row s false l e = omega (arith, e)

  row_weight : (shapes : List NodeShape) (v s : ℕ) (xs : List (RawRowView R)) (i : ℕ) → i < length xs → s < d
      → All (RawRowFits d key shapes v) xs → weight s (get_or (map (λ x. key x.row.rank) xs) i (key_none d 16)) ≤ shape_cap shapes v s
  row_weight shapes v s [] i l h all = absurd (omega (arith, l))
  row_weight shapes v s (x ∷ xs) zero l h all = (All-head (RawRowFits d key shapes v) x xs all).0.sums s h
  row_weight shapes v s (x ∷ xs) (suc i) l h all =
      row_weight shapes v s xs i (omega (arith, l)) h (All-tail (RawRowFits d key shapes v) x xs all)

  row_slot : (shapes : List NodeShape) (most : ℕ) → ((r : R) (i : ℕ) → i < 16 → slot_of d 16 i (key r) ≤ most)
      → (v s : ℕ) (xs : List (RawRowView R)) (i : ℕ) → i < length xs → s < 16
      → All (RawRowFits d key shapes v) xs
      → slot_of d 16 s (get_or (map (λ x. key x.row.rank) xs) i (key_none d 16)) ≤ slot_cap most s (shape_item shapes v)
  row_slot shapes most low v s [] i l h all = absurd (omega (arith, l))
  row_slot shapes most low v s (x ∷ xs) zero l h all =
      let fits = (All-head (RawRowFits d key shapes v) x xs all).0 in
      in_cap most x.row.row (slot_of d 16 s (key x.row.rank)) (nat_eq s (shape_item shapes v)) (low x.row.rank s h) (fits.slots s h)
  row_slot shapes most low v s (x ∷ xs) (suc i) l h all =
      row_slot shapes most low v s xs i (omega (arith, l)) h (All-tail (RawRowFits d key shapes v) x xs all)

  -- what node q gives: nothing, or the rank of a row
  abbrev pub IsRawPart : RawView R → ℕ → KeyOf d 16 → Type 0
  IsRawPart raw q k = (k ≡ key_none d 16) ⊎ ((i : ℕ) × (i < raw_len raw q) × (k ≡ raw_rank raw d key q i))

  module _ (raw : RawView R) (formed : IsRawFormed d key raw) where
    module _ (part : ℕ → KeyOf d 16) (parts : (q : ℕ) → q < length raw.shapes → IsRawPart raw q (part q)) where
      part_weight : (s q : ℕ) → s < d → q < length raw.shapes → weight s (part q) ≤ shape_cap raw.shapes q s
      part_weight s q h l = elim (parts q l) [
        | inl e ↦ omega (arith, ap (weight s) e, weight_none s)
        | inr e ↦ omega (arith, ap (weight s) e.2, row_weight raw.shapes q s (rows_at raw q) e.0 e.1 h (formed.rows_fit q l))
      ]

      part_slot : (s q : ℕ) → s < 16 → q < length raw.shapes → slot_of d 16 s (part q) ≤ slot_cap formed.held.most s (shape_item raw.shapes q)
      part_slot s q h l = elim (parts q l) [
        | inl e ↦ omega (arith, ap (slot_of d 16 s) e, slot_of_none d 16 s)
        | inr e ↦ omega (arith, ap (slot_of d 16 s) e.2, row_slot raw.shapes formed.held.most formed.held.slots q s (rows_at raw q) e.0 e.1 h (formed.rows_fit q l))
      ]

      no_slot : (b : Bool) → 0 ≡ cond {A = ℕ} b 0 0
      no_slot true = refl
      no_slot false = refl

      -- the sum of what the first n nodes give fits
      pub parts_fit : (n : ℕ) → n ≤ length raw.shapes → KeyFits d key (sum_from (key_add d 16) (key_none d 16) part n 0)
      parts_fit n few =
          let m : ℕ = length raw.shapes in
          let rest : n + (m - n) ≡ m = omega arith in
          within_fits d key (length raw.shapes) (shape_parent raw.shapes) (shape_item raw.shapes) (shape_cap raw.shapes)
          (λ v r. 0) (λ v r. key_none d 16) formed.shaped formed.held
          (λ v r l. record {
            sums = λ i h. omega (arith, weight_none i);
            slots = λ i h. slot_of_none d 16 i ∙ no_slot (nat_eq i (shape_item raw.shapes v));
          })
          (λ v r. inl refl)
          (sum_from (key_add d 16) (key_none d 16) part n 0)
          (λ i h. omega (
            arith,
            ranges.weight_sum (key_add d 16) (key_none d 16) (weight i) (weight_add i) (weight_none i) part
                (λ v. shape_cap raw.shapes v i) n 0 (λ q a b. part_weight i q h (omega (arith, b))),
            fewer_terms (λ v. shape_cap raw.shapes v i) n (m - n) 0,
            ap (λ k. ranges.sum_of (λ v. shape_cap raw.shapes v i) k 0) rest,
          ))
          (λ i h. omega (
            arith,
            ranges.weight_sum (key_add d 16) (key_none d 16) (slot_of d 16 i) (slot_add i) (slot_of_none d 16 i) part
                (λ v. slot_cap formed.held.most i (shape_item raw.shapes v)) n 0 (λ q a b. part_slot i q h (omega (arith, b))),
            fewer_terms (λ v. slot_cap formed.held.most i (shape_item raw.shapes v)) n (m - n) 0,
            ap (λ k. ranges.sum_of (λ v. slot_cap formed.held.most i (shape_item raw.shapes v)) k 0) rest,
          ))

  -- ---- the rank of a subtree solution

  module _ (raw : RawView R) (v : ℕ) (places : List ℕ) where
    -- the rank of the row of node q, if q is in the subtree
    abbrev pub placed_rank : ℕ → KeyOf d 16
    placed_rank q = cond (nat_eq (raw_below raw v q) 1) (raw_rank raw d key q (get_or places q 0)) (key_none d 16)

    abbrev pub rank_sum : ℕ → KeyOf d 16
    rank_sum n = sum_from (key_add d 16) (key_none d 16) placed_rank n 0

    pub rank_begun : key_none d 16 ≡ rank_sum 0
    unfolding sum_from
    rank_begun = refl

    next_sum : (n : ℕ) → rank_sum (n + 1) ≡ key_add d 16 (rank_sum n) (placed_rank n)
    next_sum n =
        let e : n + 1 ≡ suc n = omega arith in
        ap rank_sum e ∙ sum_last (key_below d 16) (key_add d 16) (key_none d 16) (tuple_keys d 16) placed_rank n 0 n (omega arith)

    pub rank_more : (n : ℕ) → nat_eq (raw_below raw v n) 1 ≡ true
        → rank_sum (n + 1) ≡ key_add d 16 (rank_sum n) (raw_rank raw d key n (get_or places n 0))
    rank_more n e = next_sum n ∙ ap (key_add d 16 (rank_sum n)) (cond-true (nat_eq (raw_below raw v n) 1) _ _ e)

    pub rank_skip : (n : ℕ) → nat_eq (raw_below raw v n) 1 ≡ false → rank_sum (n + 1) ≡ rank_sum n
    rank_skip n e =
        next_sum n ∙ ap (key_add d 16 (rank_sum n)) (cond-false (nat_eq (raw_below raw v n) 1) _ _ e)
        ∙ (tuple_keys d 16).add_none (rank_sum n)

    placed_part : (q : ℕ) (b : Bool) → nat_eq (raw_below raw v q) 1 ≡ b
        → (b ≡ true → get_or places q 0 < raw_len raw q)
        → IsRawPart raw q (placed_rank q)
    placed_part q true e h = inr (get_or places q 0, h refl, cond-true (nat_eq (raw_below raw v q) 1) _ _ e)
    placed_part q false e h = inl (cond-false (nat_eq (raw_below raw v q) 1) _ _ e)

    pub sums_fit_lem : (formed : IsRawFormed d key raw)
        → ((q : ℕ) → q < length raw.shapes → nat_eq (raw_below raw v q) 1 ≡ true → get_or places q 0 < raw_len raw q)
        → (n : ℕ) → n ≤ length raw.shapes → KeyFits d key (rank_sum n)
    sums_fit_lem formed within n few =
        parts_fit raw formed placed_rank (λ q l. placed_part q (nat_eq (raw_below raw v q) 1) refl (λ e. within q l e)) n few

-- ---- the key of a solution

module _ (query : Query) (tables : List Table) (join : JoinTree) {R : Type 0} (d : ℕ) (key : R → KeyOf d 16) (raw : RawView R)
    (shaped : AreShapes raw.shapes) (few : length query.order ≤ d) (has : HasProblemRows query tables join d key raw)
    (v : ℕ) (rows places : List ℕ) (placed : ArePlacesOf query tables join raw v rows places) where
  abbrev p : Problem (KeyOf (length query.order) 16)
  p = problem_in query tables join

  abbrev term : ℕ → KeyOf (length query.order) 16
  term q = cond (nat_eq (is_below p.parent v q) 1) (p.key q (row_in p v rows q)) p.none

  picked : (q : ℕ) → q < length raw.shapes → (b : Bool) → nat_eq (is_below p.parent v q) 1 ≡ b
      → cond b (raw_rank raw d key q (get_or places q 0)) (key_none d 16) ≡ cond b (query_key query d (p.key q (row_in p v rows q))) (key_none d 16)
  picked q l true e =
      let inside = in_nodes query tables join d key raw shaped has q l in
      let some : 0 < is_below p.parent v q = omega (arith, (Decides-eqb (is_below p.parent v q) 1).0 e) in
      has.keys q (get_or places q 0) inside (placed.within q inside some)
      ∙ ap (λ r. query_key query d (p.key q r)) (placed.numbers q inside some)
  picked q l false e = refl

  term_is : (q : ℕ) → q < length raw.shapes → placed_rank d key raw v places q ≡ query_key query d (term q)
  term_is q l =
      ap (λ b. cond (nat_eq b 1) (raw_rank raw d key q (get_or places q 0)) (key_none d 16))
      (below_same query tables join d key raw shaped has v q l)
      ∙ picked q l (nat_eq (is_below p.parent v q) 1) refl
      ∙ sym (wide_cond (length query.order) d few (nat_eq (is_below p.parent v q) 1) (p.key q (row_in p v rows q)))

  -- the ranks of a solution's rows add up to its key
  pub rank-is : rank_sum d key raw v places (length raw.shapes) ≡ query_key query d (key_at p v rows)
  rank-is =
      sum_same (key_below d 16) (key_add d 16) (key_none d 16) (tuple_keys d 16) (placed_rank d key raw v places)
      (λ q. query_key query d (term q)) (length raw.shapes) 0 (λ q a b. term_is q (omega (arith, b)))
      ∙ ap (λ n. sum_from (key_add d 16) (key_none d 16) (λ q. query_key query d (term q)) n 0) has.nodes
      ∙ sym (wide_sum (length query.order) d few term p.nodes 0)

-- the places of a solution are those of rows
pub solution_within : {R : Type 0} (d : ℕ) (key : R → KeyOf d 16) (raw : RawView R) (shaped : AreShapes raw.shapes) (v : ℕ) (places : List ℕ)
    → HasSolutionAt d key raw v places → (q : ℕ) → q < length raw.shapes → nat_eq (raw_below raw v q) 1 ≡ true
    → get_or places q 0 < raw_len raw q
solution_within d key raw shaped v places s q l e =
    let one : raw_below raw v q ≡ 1 = (Decides-eqb (raw_below raw v q) 1).0 e in
    let same = below_same s.query s.tables s.join d key raw shaped s.tree v q l in
    s.placed.within q (in_nodes s.query s.tables s.join d key raw shaped s.tree q l) (omega (arith, one, same))
