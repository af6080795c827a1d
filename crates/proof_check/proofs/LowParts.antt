-- A row's rank with the ranks of the bounds that it names at its first children.
use Rattle.std.proofs.Common.{◌≡◌, ◌≢◌, ◌⊎◌, ℕ, suc, ◌+◌, ◌<◌, ◌≤◌, cond, nat_eq}
use Rattle.std.proofs.Common.{Some, option_map, unwrap_or, List, length, refl, sym, ap, subst, ◌∙◌, inl, inr, arith}
use Rattle.std.proofs.lemmas.Bool.{cases_eq, cases_lt}
use Rattle.anyk_model.specs.Table.{Table}
use Rattle.anyk_model.specs.Query.{Query}
use Rattle.join_tree.specs.declared.tree.JoinTree.{JoinTree}
use Rattle.tdp_model.specs.Below.{is_below}
use Rattle.tdp_model.specs.KeyTuple.{KeyOf, key_below, key_add, key_none}
use Rattle.tdp_model.specs.TreeProblem.{sum_from, kid_key}
use Rattle.tdp_model.proofs.Descent.{below_less, kids_apart}
use Rattle.tdp_model.proofs.KeyTuples.{tuple_keys}
use Rattle.tdp_model.proofs.SubtreeTies.{kid_yes, kid_no}
use Rattle.tdp_model.proofs.Sums.{sum_last, sum_same}
use Rattle.rank_key.specs.Keys.{KeyFits}
use Rattle.tdp_core.specs.RawView.{IsRawFormed, raw_len, raw_rank}
use Rattle.proof_model.specs.Certificate.{Certificate}
use Rattle.proof_model.specs.Problem.{Problem, IsSolutionAt, row_in}
use Rattle.proof_model.specs.QueryProblem.{problem_in}
use Rattle.proof_model.specs.Valid.{bound_at, bound_key}
use Rattle.proof_model.proofs.Sums.{pick_eq, pick_ne, sum_none, sum_one}
use Rattle.proof_check.specs.BoundedRows.{BoundedView, IsBounded, bound_ranks, named_bound, query_key, rank_of_bound}
use Rattle.proof_check.proofs.RankSums.{IsRawPart}
use Rattle.proof_model.proofs.Wider.{wide_cond, wide_sum}
use Rattle.proof_check.proofs.Nodes.{option_some}
use Rattle.proof_check.proofs.RawSums.{double_sums_fit}

-- # Parts

module _ {R : Type 0} (d : ℕ) (key : R → KeyOf d 16) (tree : BoundedView R) (up : ℕ → ℕ) (v i : ℕ) where
  -- the key of the bound that row i of node v names at node q
  abbrev pub named_key : ℕ → KeyOf d 16
  named_key q = unwrap_or (option_map (rank_of_bound tree d key q) (named_bound tree q i)) (key_none d 16)

  -- the row's key with those of its children among the n nodes after v
  abbrev pub low_part : ℕ → KeyOf d 16
  low_part n =
      key_add d 16 (raw_rank tree.raw d key v i)
      (sum_from (key_add d 16) (key_none d 16) (kid_key (key_none d 16) up v named_key) n (suc v))

  -- the row names a bound at each of these children
  abbrev pub AreNamed : ℕ → Type 0
  AreNamed n = (q : ℕ) → v < q → q < suc v + n → up q ≡ v → (b : ℕ) × (named_bound tree q i ≡ Some b)

  pub part_none : low_part 0 ≡ raw_rank tree.raw d key v i
  unfolding sum_from
  part_none = (tuple_keys d 16).add_none (raw_rank tree.raw d key v i)

  part_last : (n q : ℕ) → q ≡ suc v + n
      → low_part (suc n) ≡ key_add d 16 (low_part n) (kid_key (key_none d 16) up v named_key q)
  part_last n q e =
      let keys = tuple_keys d 16 in
      let f = kid_key (key_none d 16) up v named_key in
      let own = raw_rank tree.raw d key v i in
      ap (λ z. key_add d 16 own z)
      (sum_last (key_below d 16) (key_add d 16) (key_none d 16) keys f n (suc v) q e)
      ∙ sym (keys.add_assoc own (sum_from (key_add d 16) (key_none d 16) f n (suc v)) (f q))

  pub part_child : (n q : ℕ) → q ≡ suc v + n → up q ≡ v → low_part (suc n) ≡ key_add d 16 (low_part n) (named_key q)
  part_child n q e u = part_last n q e ∙ ap (λ z. key_add d 16 (low_part n) z) (kid_yes (key_none d 16) up v named_key q u)

  pub part_other : (n q : ℕ) → q ≡ suc v + n → up q ≢ v → low_part (suc n) ≡ low_part n
  part_other n q e u =
      part_last n q e ∙ ap (λ z. key_add d 16 (low_part n) z) (kid_no (key_none d 16) up v named_key q u)
      ∙ (tuple_keys d 16).add_none (low_part n)

  pub named_more : (n q : ℕ) → q ≡ suc v + n → AreNamed n → (up q ≡ v → (b : ℕ) × (named_bound tree q i ≡ Some b))
      → AreNamed (suc n)
  named_more n q e all here p a b u = elim (cases_eq p q) [
    | inl same ↦ subst (λ z. (b : ℕ) × (named_bound tree z i ≡ Some b)) (sym same) (here (ap up (sym same) ∙ u))
    | inr other ↦ all p a (omega (arith, other)) u
  ]

  -- the rank that was found is that of the bound that the row names
  pub named_found : (q : ℕ) (k : KeyOf d 16) → Some k ≡ option_map (rank_of_bound tree d key q) (named_bound tree q i)
      → ((b : ℕ) × (named_bound tree q i ≡ Some b)) × (k ≡ named_key q)
  named_found q k e =
      let some = option_some (rank_of_bound tree d key q) (named_bound tree q i) k e in (
        (some.0, some.1),
        some.2 ∙ sym (ap (λ o. unwrap_or (option_map (rank_of_bound tree d key q) o) (key_none d 16)) some.1),
      )

-- # The problem of a query

module _ {R : Type 0} (query : Query) (tables : List Table) (join : JoinTree) (d : ℕ) (key : R → KeyOf d 16)
    (c : Certificate) (tree : BoundedView R) (few : length query.order ≤ d)
    (bounded : IsBounded query tables join d key c tree) where
  abbrev t : Problem (KeyOf (length query.order) 16)
  t = problem_in query tables join

  -- bound b of node q is a solution there
  pub bound_solution : (q b : ℕ) → q < t.nodes → b < length (bound_ranks tree q)
      → IsSolutionAt t q (bound_at t c (bounded.line q b)).rows
  bound_solution q b l h =
      let at = bounded.is_bound q b l h in
      let s = bounded.solutions (bounded.line q b) at.0 in
      let same : s.0 ≡ q = let e : suc s.0 ≡ suc q = sym s.1 ∙ at.1 in omega (arith, e) in
      subst (λ w. IsSolutionAt t w (bound_at t c (bounded.line q b)).rows) same s.2

  -- the wide key of a row is the rank of a row of the raw tree
  pub raw_part : (u row : ℕ) → u < t.nodes → t.IsRow u row
      → IsRawPart d key tree.raw u (query_key query d (t.key u row))
  raw_part u row l h =
      let at = bounded.rows.every_row u row l h in
      inr (at.0, at.1, ap (λ r. query_key query d (t.key u r)) (sym at.2) ∙ sym (bounded.rows.keys u at.0 l at.1))

  module _ (first : (q : ℕ) → 0 < q → q < t.nodes → t.parent q < q) where
    -- each row of a solution is one of its node
    pub solution_row : (q u : ℕ) (rows : List ℕ) → IsSolutionAt t q rows → u < t.nodes → is_below t.parent q u ≡ 1
        → t.IsRow u (row_in t q rows u)
    solution_row q u rows s l below = elim (cases_eq u q) [
      | inl e ↦ subst (λ w. t.IsRow w (row_in t q rows w)) (sym e) s.first
      | inr n ↦ elim (cases_lt u q) [
        | inl less ↦ absurd (omega (arith, below, below_less t.nodes t.parent first q u l less))
        | inr more ↦ (s.others u (omega (arith, n, more)) l (omega (arith, below))).0
      ]
    ]

    module _ (formed : IsRawFormed d key tree.raw) (v i n : ℕ) (node : v < t.nodes) (row : i < raw_len tree.raw v)
        (all : AreNamed d key tree t.parent v i n) (inside : suc v + n ≤ t.nodes) where
      -- the line of the bound that the row names at node q
      line_of : ℕ → ℕ
      line_of q = unwrap_or (option_map (bounded.line q) (named_bound tree q i)) 0

      rows_of : ℕ → List ℕ
      rows_of q = (bound_at t c (line_of q)).rows

      -- what child q gives node u
      child_part : ℕ → ℕ → KeyOf d 16
      child_part q u =
          cond (nat_eq (is_below t.parent q u) 1) (query_key query d (t.key u (row_in t q (rows_of q) u)))
          (key_none d 16)

      -- what the row itself or child q gives node u
      given : ℕ → ℕ → KeyOf d 16
      given q u =
          cond (nat_eq q v) (cond (nat_eq u v) (raw_rank tree.raw d key v i) (key_none d 16))
          (cond (nat_eq (t.parent q) v) (child_part q u) (key_none d 16))

      abbrev total : (ℕ → KeyOf d 16) → KeyOf d 16
      total f = sum_from (key_add d 16) (key_none d 16) f t.nodes 0

      own_total : total (given v) ≡ raw_rank tree.raw d key v i
      unfolding given
      own_total =
          sum_same (key_below d 16) (key_add d 16) (key_none d 16) (tuple_keys d 16) (given v)
          (λ u. cond (nat_eq u v) (raw_rank tree.raw d key v i) (key_none d 16)) t.nodes 0
          (λ u a b. pick_eq v v _ _ refl)
          ∙ sum_one (key_below d 16) (key_add d 16) (key_none d 16) (tuple_keys d 16)
          (raw_rank tree.raw d key v i) t.nodes 0 v
          (omega arith) (omega (arith, node))

      child_total : (q : ℕ) → v < q → q < suc v + n → t.parent q ≡ v
          → total (given q) ≡ named_key d key tree t.parent v i q
      unfolding given child_part rows_of line_of
      child_total q a b e =
          let l : q < t.nodes = omega (arith, b, inside) in
          let p : 0 < q = omega (arith, a) in
          let named = all q a b e in
          let row' : i < raw_len tree.raw (t.parent q) = subst (λ w. i < raw_len tree.raw w) (sym e) row in
          let few' = few in
          sum_same (key_below d 16) (key_add d 16) (key_none d 16) (tuple_keys d 16) (given q) (child_part q) t.nodes 0
          (λ u x y. pick_ne q v _ _ (λ w. omega (arith, w, a)) ∙ pick_eq (t.parent q) v _ _ e)
          ∙ sum_same (key_below d 16) (key_add d 16) (key_none d 16) (tuple_keys d 16) (child_part q)
          (λ u. query_key query d
          (cond (nat_eq (is_below t.parent q u) 1) (t.key u (row_in t q (rows_of q) u)) t.none)) t.nodes 0
          (λ u x y. sym (wide_cond (length query.order) d few (nat_eq (is_below t.parent q u) 1)
          (t.key u (row_in t q (rows_of q) u))))
          ∙ sym (wide_sum (length query.order) d few
          (λ u. cond (nat_eq (is_below t.parent q u) 1) (t.key u (row_in t q (rows_of q) u)) t.none) t.nodes 0)
          ∙ ap (λ o. query_key query d (bound_key t c q (unwrap_or (option_map (bounded.line q) o) 0))) named.1
          ∙ sym (bounded.ranks q named.0 l (bounded.named_is q i named.0 p l row' named.1).0)
          ∙ sym (ap (λ o. unwrap_or (option_map (rank_of_bound tree d key q) o) (key_none d 16)) named.1)

      other_total : (q : ℕ) → v < q → t.parent q ≢ v → total (given q) ≡ key_none d 16
      unfolding given
      other_total q a n' =
          sum_none (key_below d 16) (key_add d 16) (key_none d 16) (tuple_keys d 16) (given q) t.nodes 0
          (λ u x y. pick_ne q v _ _ (λ w. omega (arith, w, a)) ∙ pick_ne (t.parent q) v _ _ n')

      -- node u gets its part from q
      IsGiven : ℕ → ℕ → Type 0
      IsGiven u q =
          (u < t.nodes) × (q < t.nodes)
          × (((q ≡ v) × (u ≡ v)) ⊎ ((v < q) × (t.parent q ≡ v) × (is_below t.parent q u ≡ 1)))

      given_once : (u p q : ℕ) → IsGiven u p → IsGiven u q → p ≡ q
      unfolding IsGiven
      given_once u p q a b = elim a.2 [
        | inl x ↦ elim b.2 [
          | inl y ↦ x.0 ∙ sym y.0
          | inr y ↦ absurd (omega (arith, y.2, below_less t.nodes t.parent first q u a.0 (omega (arith, x.1, y.0))))
        ]
        | inr x ↦ elim b.2 [
          | inl y ↦ absurd (omega (arith, x.2, below_less t.nodes t.parent first p u a.0 (omega (arith, y.1, x.0))))
          | inr y ↦ elim (cases_eq p q) [
            | inl e ↦ e
            | inr n' ↦
                let apart = kids_apart t.nodes t.parent first u v p q u (omega arith) a.0 x.0 y.0 a.1 b.1 x.1 y.1 n'
                (omega (arith, x.2)) in
                absurd (omega (arith, apart, y.2))
          ]
        ]
      ]

      given_part : (q u : ℕ) → v ≤ q → q < v + suc n → u < t.nodes
          → (given q u ≡ key_none d 16) ⊎ (IsGiven u q × IsRawPart d key tree.raw u (given q u))
      unfolding given child_part rows_of line_of IsGiven
      given_part q u a b l = elim (cases_eq q v) [
        | inl e ↦ elim (cases_eq u v) [
          | inl x ↦
              inr (
                (l, omega (arith, e, node), inl (e, x)),
                subst (λ w. IsRawPart d key tree.raw w (given q u)) (sym x) (inr (i, row, pick_eq q v _ _ e ∙ pick_eq u v _ _ x)),
              )
          | inr x ↦ inl (pick_eq q v _ _ e ∙ pick_ne u v _ _ x)
        ]
        | inr far ↦ elim (cases_eq (t.parent q) v) [
          | inr x ↦ inl (pick_ne q v _ _ far ∙ pick_ne (t.parent q) v _ _ x)
          | inl x ↦ elim (cases_eq (is_below t.parent q u) 1) [
            | inr y ↦ inl (pick_ne q v _ _ far ∙ pick_eq (t.parent q) v _ _ x ∙ pick_ne (is_below t.parent q u) 1 _ _ y)
            | inl y ↦
                let less : v < q = omega (arith, far, a) in
                let lq : q < t.nodes = omega (arith, b, inside) in
                let p : 0 < q = omega (arith, less) in
                let named = all q less (omega (arith, b)) x in
                let row' : i < raw_len tree.raw (t.parent q) = subst (λ w. i < raw_len tree.raw w) (sym x) row in
                let sol : IsSolutionAt t q (rows_of q) =
                subst (λ o. IsSolutionAt t q (bound_at t c (unwrap_or (option_map (bounded.line q) o) 0)).rows)
                (sym named.1)
                (bound_solution q named.0 lq (bounded.named_is q i named.0 p lq row' named.1).0) in
                let at : given q u ≡ query_key query d (t.key u (row_in t q (rows_of q) u)) =
                pick_ne q v _ _ far ∙ pick_eq (t.parent q) v _ _ x ∙ pick_eq (is_below t.parent q u) 1 _ _ y in
                inr (
                  (l, lq, inr (less, x, y)),
                  subst (IsRawPart d key tree.raw u) (sym at)
                      (raw_part u (row_in t q (rows_of q) u) l (solution_row q u (rows_of q) sol l y)),
                )
          ]
        ]
      ]

      pub low_fits : KeyFits d key (low_part d key tree t.parent v i n)
      unfolding sum_from kid_key
      low_fits =
          let all-rows : t.nodes ≡ length tree.raw.shapes = sym bounded.rows.nodes in
          let whole : sum_from (key_add d 16) (key_none d 16) (λ q. total (given q)) (suc n) v
          ≡ low_part d key tree t.parent v i n =
          ap (λ z. key_add d 16 z (sum_from (key_add d 16) (key_none d 16) (λ q. total (given q)) n (suc v))) own_total
          ∙ ap (λ z. key_add d 16 (raw_rank tree.raw d key v i) z)
          (sum_same (key_below d 16) (key_add d 16) (key_none d 16) (tuple_keys d 16) (λ q. total (given q))
          (kid_key (key_none d 16) t.parent v (named_key d key tree t.parent v i)) n (suc v)
          (λ q a b. elim (cases_eq (t.parent q) v) [
            | inl e ↦ child_total q (omega arith) b e
                ∙ sym (kid_yes (key_none d 16) t.parent v (named_key d key tree t.parent v i) q e)
            | inr x ↦ other_total q (omega arith) x
                ∙ sym (kid_no (key_none d 16) t.parent v (named_key d key tree t.parent v i) q x)
          ])) in
          subst (KeyFits d key) whole
          (subst (λ m. KeyFits d key (sum_from (key_add d 16) (key_none d 16)
          (λ q. sum_from (key_add d 16) (key_none d 16) (given q) m 0) (suc n) v)) (sym all-rows)
          (double_sums_fit d key tree.raw formed IsGiven given (suc n) v given_once
          (λ q u a b l. given_part q u a b (omega (arith, l, all-rows)))))
