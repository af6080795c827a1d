-- Rows for the nodes up to one of them, and solutions of the subtrees that they leave open, put together.
use Rattle.std.proofs.Common.{◌≡◌, ℕ, zero, suc, ◌-◌, ◌<◌, ◌≤◌, cond, nat_eq, nat_le, refl, sym, ap, ◌∙◌, subst, inl}
use Rattle.std.proofs.Common.{inr, arith}
use Rattle.std.proofs.lemmas.Bool.{cases_lt, cases_eq}
use Rattle.tdp_model.specs.Below.{is_below}
use Rattle.tdp_model.proofs.Descent.{below_itself, below_less, below_parent}
use Rattle.tdp_model.proofs.Sums.{sum_same}
use Rattle.proof_model.specs.Problem.{Problem}
use Rattle.proof_model.specs.Laws.{IsProblem, IsSubtree, subtree_key}
use Rattle.proof_model.proofs.Sums.{pick_ne}
use Rattle.proof_model.proofs.Choices.{pick_le, pick_gt}

module _ {K : Type 0} (t : Problem K) (laws : IsProblem t) (at : ℕ) where
  -- the node at or above u whose parent is not past `at`, found by climbing
  unfoldable pub top : ℕ → ℕ → ℕ
  top zero u = u
  top (suc f) u = cond (nat_le (t.parent u) at) u (top f (t.parent u))

  top_here : (f u : ℕ) → t.parent u ≤ at → top f u ≡ u
  unfolding top
  top_here zero u h = refl
  top_here (suc f) u h = pick_le (t.parent u) at u (top f (t.parent u)) h

  top_up : (f u : ℕ) → at < t.parent u → top (suc f) u ≡ top f (t.parent u)
  unfolding top
  top_up f u h = pick_gt (t.parent u) at u (top f (t.parent u)) h

  pub record IsTop (u q : ℕ) : Type 0 where
    pub past : at < q
    pub node : q < t.nodes
    pub open_here : t.parent q ≤ at
    pub under : is_below t.parent q u ≡ 1

  abbrev pub top_of : ℕ → ℕ
  top_of u = top u u

  enough : (f g u : ℕ) → u ≤ f → u ≤ g → at < u → u < t.nodes → top f u ≡ top g u
  enough zero g u a b p l = absurd (omega arith)
  enough (suc f) zero u a b p l = absurd (omega arith)
  enough (suc f) (suc g) u a b p l = elim (cases_lt at (t.parent u)) [
    | inr h ↦ top_here (suc f) u h ∙ sym (top_here (suc g) u h)
    | inl h ↦
        let d : t.parent u < u = laws.parents_first u (omega arith) l in
        top_up f u h ∙ enough f g (t.parent u) (omega arith) (omega arith) h (omega arith) ∙ sym (top_up g u h)
  ]

  is_top : (f u : ℕ) → u ≤ f → at < u → u < t.nodes → IsTop u (top f u)
  is_top zero u a p l = absurd (omega arith)
  is_top (suc f) u a p l = elim (cases_lt at (t.parent u)) [
    | inr h ↦ subst (IsTop u) (sym (top_here (suc f) u h))
        (record {
          past = p;
          node = l;
          open_here = h;
          under = below_itself t.nodes t.parent laws.parents_first u u refl;
        })
    | inl h ↦
        let r : IsTop (t.parent u) (top f (t.parent u)) = is_top f (t.parent u) (omega arith) h (omega arith) in
        let low : top f (t.parent u) ≤ t.parent u = elim (cases_lt (t.parent u) (top f (t.parent u))) [
          | inl x ↦ let z = below_less t.nodes t.parent laws.parents_first (top f (t.parent u)) (t.parent u)
              (omega arith) x in let w = r.under in absurd (omega (arith, z, w))
          | inr x ↦ x
        ] in
        subst (IsTop u) (sym (top_up f u h)) (record {
          past = r.past;
          node = r.node;
          open_here = r.open_here;
          under = below_parent t.nodes t.parent laws.parents_first (top f (t.parent u)) u (omega arith) l
              (λ e. omega (arith, e, low, laws.parents_first u (omega arith) l)) ∙ r.under;
        })
  ]

  pub top_is : (u : ℕ) → at < u → u < t.nodes → IsTop u (top_of u)
  top_is u p l = is_top u u (omega arith) p l

  pub top_same : (u : ℕ) → at < u → u < t.nodes → at < t.parent u → top_of u ≡ top_of (t.parent u)
  top_same u p l h =
      let d : t.parent u < u = laws.parents_first u (omega arith) l in
      enough u (suc (u - 1)) u (omega arith) (omega arith) p l ∙ top_up (u - 1) u h
      ∙ enough (u - 1) (t.parent u) (t.parent u) (omega arith) (omega arith) h (omega arith)

  -- a node below an open one has it as its top
  pub top_unique : (f q u : ℕ) → u ≤ f → at < q → t.parent q ≤ at → q < t.nodes → u < t.nodes
      → 0 < is_below t.parent q u → top_of u ≡ q
  top_unique zero q u e p h lq lu b =
      let z = below_less t.nodes t.parent laws.parents_first q u lu (omega arith) in absurd (omega (arith, z, b))
  top_unique (suc f) q u e p h lq lu b = elim (cases_eq u q) [
    | inl x ↦ top_here u u (subst (λ z. t.parent z ≤ at) (sym x) h) ∙ x
    | inr n ↦ elim (cases_lt u q) [
      | inl less ↦ let z = below_less t.nodes t.parent laws.parents_first q u lu less in absurd (omega (arith, z, b))
      | inr more ↦
          let past : at < u = omega (arith, more, p) in
          let d : t.parent u < u = laws.parents_first u (omega arith) lu in
          let up : 0 < is_below t.parent q (t.parent u) = let z = below_parent t.nodes t.parent laws.parents_first q u
          (omega arith) lu n in omega (arith, z, b) in
          let far : q ≤ t.parent u = elim (cases_lt (t.parent u) q) [
            | inl x ↦ let z = below_less t.nodes t.parent laws.parents_first q (t.parent u) (omega arith) x in absurd
                (omega (arith, z, up))
            | inr x ↦ x
          ] in
          top_same u past lu (omega (arith, far, p))
          ∙ top_unique f q (t.parent u) (omega arith) p h lq (omega arith) up
    ]
  ]

  -- the rows put together: `parts q` for the nodes below the open node q
  module _ (rows : ℕ → ℕ) (parts : ℕ → ℕ → ℕ) where
    abbrev pub completed : ℕ → ℕ
    completed u = cond (nat_le u at) (rows u) (parts (top_of u) u)

    pub kept : (u : ℕ) → u ≤ at → completed u ≡ rows u
    kept u h = pick_le u at (rows u) (parts (top_of u) u) h

    pub added : (q u : ℕ) → at < q → t.parent q ≤ at → q < t.nodes → u < t.nodes → 0 < is_below t.parent q u
        → completed u ≡ parts q u
    added q u p h lq lu b =
        let past : at < u = elim (cases_lt u q) [
          | inl x ↦ let z = below_less t.nodes t.parent laws.parents_first q u lu x in absurd (omega (arith, z, b))
          | inr x ↦ omega (arith, x, p)
        ] in
        pick_gt u at (rows u) (parts (top_of u) u) past
        ∙ ap (λ z. parts z u) (top_unique u q u (omega arith) p h lq lu b)

    -- the subtree of an open node has its part's key
    pub part_key : (q : ℕ) → at < q → t.parent q ≤ at → q < t.nodes
        → subtree_key t q completed ≡ subtree_key t q (parts q)
    part_key q p h lq =
        sum_same t.Below t.add t.none laws.keys _
        (λ u. cond (nat_eq (is_below t.parent q u) 1) (t.key u (parts q u)) t.none) t.nodes 0
        (λ u a b. elim (cases_eq (is_below t.parent q u) 1) [
          | inl e ↦ ap (λ r. cond (nat_eq (is_below t.parent q u) 1) (t.key u r) t.none)
              (added q u p h lq (omega (arith, b)) (omega (arith, e)))
          | inr n ↦ pick_ne (is_below t.parent q u) 1 _ t.none n
              ∙ sym (pick_ne (is_below t.parent q u) 1 (t.key u (parts q u)) t.none n)
        ])

    -- a row past `at` fits the row above it
    pub past_fits : (u : ℕ)
        → ((q : ℕ) → at < q → q < t.nodes → t.parent q ≤ at → is_below t.parent q u ≡ 1 → IsSubtree t q (parts q)
        × t.Fits q (rows (t.parent q)) (parts q q))
        → at < u → u < t.nodes → t.Fits u (completed (t.parent u)) (completed u)
    past_fits u each p l = elim (cases_lt at (t.parent u)) [
      | inr h ↦
          let own : completed u ≡ parts u u = added u u p h l l
          (let b = below_itself t.nodes t.parent laws.parents_first u u refl in omega (arith, b)) in
          subst (λ z. t.Fits u (completed (t.parent u)) z) (sym own)
          (subst (λ z. t.Fits u z (parts u u)) (sym (kept (t.parent u) h))
          (each u p l h (below_itself t.nodes t.parent laws.parents_first u u refl)).1)
      | inl h ↦
          let q : ℕ = top_of u in
          let r : IsTop u q = top_is u p l in
          let up : IsTop (t.parent u) q = subst (IsTop (t.parent u)) (sym (top_same u p l h))
          (top_is (t.parent u) h (omega arith)) in
          let a : completed u ≡ parts q u = added q u r.past r.open_here r.node l
          (let w = r.under in omega (arith, w)) in
          let b : completed (t.parent u) ≡ parts q (t.parent u) = added q (t.parent u) r.past r.open_here r.node
          (omega arith) (let w = up.under in omega (arith, w)) in
          let less : q < u = elim (cases_lt (t.parent u) q) [
            | inl x ↦ let z = below_less t.nodes t.parent laws.parents_first q (t.parent u)
                (omega arith) x in let w = up.under in absurd (omega (arith, z, w))
            | inr x ↦ omega (arith, x, laws.parents_first u (omega arith) l)
          ] in
          subst (λ z. t.Fits u (completed (t.parent u)) z) (sym a) (subst (λ z. t.Fits u z (parts q u)) (sym b)
          ((each q r.past r.node r.open_here r.under).0.others u less l (let w = r.under in omega (arith, w))))
    ]
