-- The rows up to a node, and the subtrees that they leave open, have together the key of the whole.
use Rattle.std.proofs.Common.{◌≡◌, ℕ, zero, suc, ◌+◌, ◌-◌, ◌<◌, ◌≤◌, cond, nat_eq, nat_le, sym, ap, ◌∙◌, inl, inr}
use Rattle.std.proofs.Common.{arith}
use Rattle.std.proofs.lemmas.Bool.{cases_lt, cases_eq}
use Rattle.std.proofs.lemmas.Bool.Decides.{nat_tests}
use Rattle.tdp_model.specs.TreeProblem.{sum_from, kid_key}
use Rattle.tdp_model.proofs.Keys.{cancel}
use Rattle.tdp_model.proofs.Sums.{sum_same, sum_add, none_add}
use Rattle.proof_model.specs.Problem.{Problem}
use Rattle.proof_model.specs.Laws.{IsProblem, subtree_key}
use Rattle.proof_model.proofs.Sums.{pick_eq, pick_ne, sum_none, sum_parts, sum_one}
use Rattle.proof_model.proofs.Covering.{key_splits}

pub pick_le : {K : Type 0} (x y : ℕ) (a b : K) → x ≤ y → cond (nat_le x y) a b ≡ a
pick_le x y a b e = grind (arith, nat_tests)

pub pick_gt : {K : Type 0} (x y : ℕ) (a b : K) → y < x → cond (nat_le x y) a b ≡ b
pick_gt x y a b e = grind (arith, nat_tests)

module _ {K : Type 0} (t : Problem K) (laws : IsProblem t) (s : ℕ → ℕ) where
  abbrev own : ℕ → K
  own q = t.key q (s q)

  abbrev whole : ℕ → K
  whole q = subtree_key t q s

  abbrev total : (ℕ → K) → K
  total f = sum_from t.add t.none f t.nodes 0

  -- what node q adds where the rows up to node `at` are chosen
  abbrev pub part_at : ℕ → ℕ → K
  part_at at q = cond (nat_le q at) (own q) (cond (nat_le (t.parent q) at) (whole q) t.none)

  -- the children of node p, each with its subtree
  abbrev kids : ℕ → ℕ → K
  kids p q = cond (nat_le (suc p) q) (cond (nat_eq (t.parent q) p) (whole q) t.none) t.none

  kids_total : (p : ℕ) → p < t.nodes
      → total (kids p) ≡ sum_from t.add t.none (kid_key t.none t.parent p whole) (t.nodes - suc p) (suc p)
  unfolding kid_key
  kids_total p l =
      let size : suc p + (t.nodes - suc p) ≡ t.nodes = omega (arith, l) in
      ap (λ n. sum_from t.add t.none (kids p) n 0) (sym size)
      ∙ sum_parts t.Below t.add t.none laws.keys (kids p) (suc p) (t.nodes - suc p) 0 (suc p) (omega arith)
      ∙ ap (λ z. t.add z (sum_from t.add t.none (kids p) (t.nodes - suc p) (suc p)))
      (sum_none t.Below t.add t.none laws.keys (kids p) (suc p) 0
      (λ i a b. pick_gt (suc p) i (cond (nat_eq (t.parent i) p) (whole i) t.none) t.none (omega arith)))
      ∙ none_add t.Below t.add t.none laws.keys _
      ∙ sum_same t.Below t.add t.none laws.keys (kids p) (kid_key t.none t.parent p whole) (t.nodes - suc p) (suc p)
      (λ i a b. pick_le (suc p) i (cond (nat_eq (t.parent i) p) (whole i) t.none) t.none a)

  -- the row of one node alone
  abbrev one : ℕ → K → ℕ → K
  one p x q = cond (nat_eq q p) x t.none

  one_total : (p : ℕ) (x : K) → p < t.nodes → total (one p x) ≡ x
  one_total p x l = sum_one t.Below t.add t.none laws.keys x t.nodes 0 p (omega arith) (omega (arith, l))

  -- the row of node p and its children are its subtree
  split_total : (p : ℕ) → p < t.nodes → total (λ q. t.add (one p (own p) q) (kids p q)) ≡ whole p
  split_total p l =
      sum_add t.Below t.add t.none laws.keys (one p (own p)) (kids p) t.nodes 0
      ∙ ap (λ z. t.add z (total (kids p))) (one_total p (own p) l)
      ∙ ap (λ z. t.add (own p) z) (kids_total p l)
      ∙ sym (key_splits t laws p s l)

  add_none : (a : K) → t.add a t.none ≡ a
  add_none a = laws.keys.add_none a

  -- the first node alone
  at_first : (q : ℕ) → part_at 0 q ≡ t.add (one 0 (own 0) q) (kids 0 q)
  at_first q = elim (cases_eq q 0) [
    | inl e ↦
        pick_le q 0 (own q) _ (omega arith)
        ∙ ap own e
        ∙ sym (add_none (own 0))
        ∙ ap (λ z. t.add z t.none) (sym (pick_eq q 0 (own 0) t.none e))
        ∙ ap (λ z. t.add (one 0 (own 0) q) z)
        (sym (pick_gt 1 q (cond (nat_eq (t.parent q) 0) (whole q) t.none) t.none (omega arith)))
    | inr n ↦
        pick_gt q 0 (own q) _ (omega (arith, n))
        ∙ elim (cases_eq (t.parent q) 0) [
          | inl e ↦ pick_le (t.parent q) 0 (whole q) t.none (omega arith)
              ∙ sym (pick_eq (t.parent q) 0 (whole q) t.none e)
          | inr x ↦ pick_gt (t.parent q) 0 (whole q) t.none (omega (arith, x))
              ∙ sym (pick_ne (t.parent q) 0 (whole q) t.none x)
        ]
        ∙ sym (pick_le 1 q (cond (nat_eq (t.parent q) 0) (whole q) t.none) t.none (omega (arith, n)))
        ∙ sym (none_add t.Below t.add t.none laws.keys (kids 0 q))
        ∙ ap (λ z. t.add z (kids 0 q)) (sym (pick_ne q 0 (own 0) t.none n))
  ]

  first : total (part_at 0) ≡ whole 0
  first =
      sum_same t.Below t.add t.none laws.keys (part_at 0) (λ q. t.add (one 0 (own 0) q) (kids 0 q)) t.nodes 0
      (λ i a b. at_first i) ∙ split_total 0 laws.some

  -- one node more
  at_next : (p q : ℕ) → suc p < t.nodes
      → t.add (part_at (suc p) q) (one (suc p) (whole (suc p)) q) ≡ t.add (part_at p q)
      (t.add (one (suc p) (own (suc p)) q) (kids (suc p) q))
  at_next p q l = elim (cases_eq q (suc p)) [
    | inl e ↦
        let up : t.parent q ≤ p = let d = laws.parents_first q (omega arith) (omega (arith, e, l)) in omega
        (arith, d, e) in
        ap (λ z. t.add z (one (suc p) (whole (suc p)) q)) (pick_le q (suc p) (own q) _ (omega arith) ∙ ap own e)
        ∙ ap (λ z. t.add (own (suc p)) z) (pick_eq q (suc p) (whole (suc p)) t.none e)
        ∙ laws.keys.add_comm (own (suc p)) (whole (suc p))
        ∙ ap (λ z. t.add z (own (suc p)))
        (sym (pick_gt q p (own q) _ (omega arith) ∙ pick_le (t.parent q) p (whole q) t.none up ∙ ap whole e))
        ∙ ap (λ z. t.add (part_at p q) z) (sym (add_none (own (suc p))))
        ∙ ap (λ z. t.add (part_at p q) (t.add z t.none)) (sym (pick_eq q (suc p) (own (suc p)) t.none e))
        ∙ ap (λ z. t.add (part_at p q) (t.add (one (suc p) (own (suc p)) q) z))
        (sym (pick_gt (suc (suc p)) q (cond (nat_eq (t.parent q) (suc p)) (whole q) t.none) t.none (omega arith)))
    | inr n ↦
        ap (λ z. t.add (part_at (suc p) q) z) (pick_ne q (suc p) (whole (suc p)) t.none n)
        ∙ add_none (part_at (suc p) q)
        ∙ elim (cases_lt q (suc p)) [
          | inl less ↦
              pick_le q (suc p) (own q) _ (omega arith)
              ∙ sym (pick_le q p (own q) _ (omega arith))
              ∙ sym (add_none (part_at p q))
              ∙ ap (λ z. t.add (part_at p q) z)
              (sym (pick_gt (suc (suc p)) q (cond (nat_eq (t.parent q) (suc p)) (whole q) t.none) t.none
              (omega arith)))
          | inr more ↦
              pick_gt q (suc p) (own q) _ (omega (arith, n, more))
              ∙ elim (cases_eq (t.parent q) (suc p)) [
                | inl e ↦
                    pick_le (t.parent q) (suc p) (whole q) t.none (omega arith)
                    ∙ sym (none_add t.Below t.add t.none laws.keys (whole q))
                    ∙ ap (λ z. t.add z (whole q))
                    (sym (pick_gt q p (own q) _ (omega (arith, more)) ∙ pick_gt (t.parent q) p (whole q) t.none
                    (omega arith)))
                    ∙ ap (λ z. t.add (part_at p q) z) (sym (pick_eq (t.parent q) (suc p) (whole q) t.none e))
                | inr x ↦
                    elim (cases_lt (t.parent q) (suc p)) [
                      | inl low ↦ pick_le (t.parent q) (suc p) (whole q) t.none (omega arith)
                          ∙ sym (pick_le (t.parent q) p (whole q) t.none (omega arith))
                      | inr high ↦ pick_gt (t.parent q) (suc p) (whole q) t.none (omega (arith, high, x))
                          ∙ sym (pick_gt (t.parent q) p (whole q) t.none (omega (arith, high)))
                    ]
                    ∙ sym (pick_gt q p (own q) _ (omega (arith, more)))
                    ∙ sym (add_none (part_at p q))
                    ∙ ap (λ z. t.add (part_at p q) z) (sym (pick_ne (t.parent q) (suc p) (whole q) t.none x))
              ]
              ∙ ap (λ z. t.add (part_at p q) z)
              (sym (pick_le (suc (suc p)) q (cond (nat_eq (t.parent q) (suc p)) (whole q) t.none) t.none
              (omega (arith, n, more))))
        ]
        ∙ ap (λ z. t.add (part_at p q) z) (sym (none_add t.Below t.add t.none laws.keys (kids (suc p) q)))
        ∙ ap (λ z. t.add (part_at p q) (t.add z (kids (suc p) q))) (sym (pick_ne q (suc p) (own (suc p)) t.none n))
  ]

  next : (p : ℕ) → suc p < t.nodes → total (part_at (suc p)) ≡ total (part_at p)
  next p l =
      cancel t.Below t.add t.none laws.keys (total (part_at (suc p))) (total (part_at p)) (whole (suc p))
      (ap (λ z. t.add (total (part_at (suc p))) z) (sym (one_total (suc p) (whole (suc p)) l))
      ∙ sym (sum_add t.Below t.add t.none laws.keys (part_at (suc p)) (one (suc p) (whole (suc p))) t.nodes 0)
      ∙ sum_same t.Below t.add t.none laws.keys _
      (λ q. t.add (part_at p q) (t.add (one (suc p) (own (suc p)) q) (kids (suc p) q))) t.nodes 0
      (λ i a b. at_next p i l)
      ∙ sum_add t.Below t.add t.none laws.keys (part_at p)
      (λ q. t.add (one (suc p) (own (suc p)) q) (kids (suc p) q)) t.nodes 0
      ∙ ap (λ z. t.add (total (part_at p)) z) (split_total (suc p) l))

  pub parts_whole : (at : ℕ) → at < t.nodes → total (part_at at) ≡ whole 0
  parts_whole zero l = first
  parts_whole (suc p) l = next p l ∙ parts_whole p (omega arith)
