-- A certificate with the least bound of each group, and the first solutions as answers, is valid.
use Rattle.std.proofs.Common.{◌≡◌, ℕ, zero, suc, ◌-◌, ◌<◌, ◌≤◌, cond, nat_eq, Bool, true, false, refl, sym, ap, ◌∙◌}
use Rattle.std.proofs.Common.{subst, inl, inr, arith, Option, length}
use Rattle.std.proofs.lemmas.Bool.{cases_lt, cases_eq}
use Rattle.tdp_model.specs.Below.{is_below}
use Rattle.tdp_model.specs.Remains.{AtMost}
use Rattle.tdp_model.specs.TreeProblem.{sum_from, kid_key}
use Rattle.tdp_model.proofs.Descent.{below_less, below_once, below_parent}
use Rattle.tdp_model.proofs.Sums.{sum_same}
use Rattle.proof_model.specs.Certificate.{Certificate}
use Rattle.proof_model.specs.Problem.{Problem, row_in}
use Rattle.proof_model.specs.Laws.{IsProblem, IsSubtree, subtree_key}
use Rattle.proof_model.specs.Full.{IsFull}
use Rattle.proof_model.specs.Valid.{IsValid, IsBoundOf, IsCovered, IsPassed, OpenChoice, Begins, answer_key}
use Rattle.proof_model.specs.Valid.{answer_row, bound_at, bound_key, bound_row, choice_key}
use Rattle.proof_model.proofs.Sums.{pick_ne}
use Rattle.proof_model.proofs.Covering.{key_splits}
use Rattle.proof_model.proofs.Choices.{part_at, parts_whole, pick_le, pick_gt}
use Rattle.proof_model.proofs.Soundness.{all_below}
use Rattle.proof_model.proofs.Completing.{completed, kept, part_key, past_fits}

module _ {K : Type 0} (t : Problem K) (laws : IsProblem t) (c : Certificate) (limit : Option ℕ)
    (full : IsFull t c limit) where
  -- two nodes above one node are one above the other
  chain : (f v q u : ℕ) → u ≤ f → u < t.nodes → v < q → is_below t.parent v u ≡ 1 → is_below t.parent q u ≡ 1
      → is_below t.parent v q ≡ 1
  chain zero v q u e l h a b =
      let z = below_less t.nodes t.parent laws.parents_first q u l (omega arith) in absurd (omega (arith, z, b))
  chain (suc f) v q u e l h a b = elim (cases_eq u q) [
    | inl x ↦ subst (λ z. is_below t.parent v z ≡ 1) x a
    | inr n ↦ elim (cases_lt u q) [
      | inl less ↦ let z = below_less t.nodes t.parent laws.parents_first q u l less in absurd (omega (arith, z, b))
      | inr more ↦
          let p : 0 < u = omega (arith, more, h) in
          let d : t.parent u < u = laws.parents_first u p l in
          chain f v q (t.parent u) (omega arith) (omega arith) h
          (sym (below_parent t.nodes t.parent laws.parents_first v u p l (λ x. omega (arith, x, more, h))) ∙ a)
          (sym (below_parent t.nodes t.parent laws.parents_first q u p l n) ∙ b)
    ]
  ]

  -- so a node below v whose parent is not past v is a child of v
  child_of : (v q u : ℕ) → u < t.nodes → q < t.nodes → v < q → t.parent q ≤ v → is_below t.parent v u ≡ 1
      → is_below t.parent q u ≡ 1 → t.parent q ≡ v
  child_of v q u l lq h low a b =
      let up = below_parent t.nodes t.parent laws.parents_first v q (omega (arith, h)) lq (λ x. omega (arith, x, h)) in
      elim (cases_lt (t.parent q) v) [
        | inl less ↦
            let d = laws.parents_first q (omega (arith, h)) lq in
            let z = below_less t.nodes t.parent laws.parents_first v (t.parent q) (omega (arith, d, lq)) less in
            absurd (omega (arith, z, chain u v q u (omega arith) l h a b, up))
        | inr more ↦ omega (arith, more, low)
      ]

  -- a bound as a subtree solution
  bound_part : (q i : ℕ) → IsBoundOf t c q i → IsSubtree t q (row_in t q (bound_at t c i).rows)
  bound_part q i b =
      let h = full.bounds i b.0 in
      let same : h.0 ≡ q = let e : suc h.0 ≡ suc q = sym h.1 ∙ b.1 in omega (arith, e) in
      subst (λ w. IsSubtree t w (row_in t w (bound_at t c i).rows)) same
      (record { node = h.2.node; first = h.2.first; others = h.2.others })

  covered : (v row : ℕ) → v < t.nodes → t.IsRow v row → IsCovered t c v row
  unfolding kid_key
  covered v row l is below serve =
      let parts : ℕ → ℕ → ℕ = λ q. row_in t q (bound_at t c (below q)).rows in
      let s : ℕ → ℕ = completed t laws v (λ _. row) parts in
      let own : s v ≡ row = kept t laws v (λ _. row) parts v (omega arith) in
      let sub : IsSubtree t v s = record {
        node = l;
        first = subst (t.IsRow v) (sym own) is;
        others = λ u more lu under.
            past_fits t laws v (λ _. row) parts u
            (λ q past lq low b.
            let up : t.parent q ≡ v = child_of v q u lu lq past low
            (let z = once v u lu in omega (arith, z, under)) b in
            let at = serve q past lq up in (bound_part q (below q) at.0, at.1))
            more lu;
      } in
      let found = full.least v s sub in
      let same : subtree_key t v s ≡ t.add (t.key v row)
      (sum_from t.add t.none (kid_key t.none t.parent v (λ q. bound_key t c q (below q))) (t.nodes - suc v) (suc v)) =
      key_splits t laws v s l
      ∙ ap (λ r. t.add (t.key v r)
      (sum_from t.add t.none (kid_key t.none t.parent v (λ q. subtree_key t q s)) (t.nodes - suc v) (suc v))) own
      ∙ ap (λ z. t.add (t.key v row) z)
      (sum_same t.Below t.add t.none laws.keys (kid_key t.none t.parent v (λ q. subtree_key t q s))
      (kid_key t.none t.parent v (λ q. bound_key t c q (below q))) (t.nodes - suc v) (suc v)
      (λ q a b. elim (cases_eq (t.parent q) v) [
        | inl e ↦ ap (λ z. cond (nat_eq (t.parent q) v) z t.none)
            (part_key t laws v (λ _. row) parts q (omega (arith, a)) (omega (arith, e)) (omega (arith, b, l)))
        | inr n ↦ pick_ne (t.parent q) v _ t.none n ∙ sym (pick_ne (t.parent q) v _ t.none n)
      ])) in (
        found.0,
        (found.1.0, subst (λ r. t.IsGrouped v r (bound_row t c v found.0)) own found.1.1),
        subst
            (λ k. AtMost t.Below (bound_key t c v found.0) k) same found.2,
      )
    where
      once : (v u : ℕ) → u < t.nodes → is_below t.parent v u ≤ 1
      once v u lu = below_once t.nodes t.parent laws.parents_first u v u (omega arith) lu

  module _ (o : OpenChoice t c) where
    abbrev parts : ℕ → ℕ → ℕ
    parts q = row_in t q (bound_at t c (o.below q)).rows

    abbrev whole : ℕ → ℕ
    whole = completed t laws o.at o.rows parts

    -- the rows before the choice begin an answer, and its own row fits
    begun_first : t.IsRow 0 (o.rows 0)
    begun_first = elim o.begun [
      | inl z ↦ subst (λ v. t.IsRow v (o.rows v)) z o.row
      | inr b ↦ elim (cases_eq o.at 0) [
        | inl z ↦ subst (λ v. t.IsRow v (o.rows v)) z o.row
        | inr n ↦ subst (t.IsRow 0) (b.1.1 0 (omega (arith, n))) (full.answers b.0 b.1.0).first
      ]
    ]

    begun_fits : (u : ℕ) → 0 < u → u ≤ o.at → t.Fits u (o.rows (t.parent u)) (o.rows u)
    begun_fits u p h = elim (cases_eq u o.at) [
      | inl e ↦ elim o.fits [
        | inl z ↦ absurd (omega (arith, e, z))
        | inr x ↦ subst
            (λ v. t.Fits v (o.rows (t.parent v)) (o.rows v)) (sym e) x
      ]
      | inr n ↦ elim o.begun [
        | inl z ↦ absurd (omega (arith, z, h))
        | inr b ↦
            let l : u < t.nodes = let x = o.node in omega (arith, h, x) in
            let d : t.parent u < u = laws.parents_first u p l in
            subst (λ z. t.Fits u z (o.rows u)) (b.1.1 (t.parent u) (omega (arith, n)))
            (subst (t.Fits u (answer_row t c b.0 (t.parent u))) (b.1.1 u (omega (arith, n)))
            ((full.answers b.0 b.1.0).others u p l (omega (arith, all_below t laws u u (omega arith) l))))
      ]
    ]

    whole_is : IsSubtree t 0 whole
    whole_is = record {
      node = laws.some;
      first = subst (t.IsRow 0) (sym (kept t laws o.at o.rows parts 0 (omega arith))) begun_first;
      others = λ u p l _. elim (cases_lt o.at u) [
        | inl past ↦ past_fits t laws o.at o.rows parts u
            (λ q more lq low _. let b = o.bound q more lq low in (bound_part q (o.below q) b.0, b.1)) past l
        | inr early ↦
            let d : t.parent u < u = laws.parents_first u p l in
            subst (λ z. t.Fits u z (whole u)) (sym (kept t laws o.at o.rows parts (t.parent u) (omega arith)))
            (subst (t.Fits u (o.rows (t.parent u))) (sym (kept t laws o.at o.rows parts u early))
            (begun_fits u p early))
      ];
    }

    whole_new : (i : ℕ) → Begins t c i whole t.nodes → ⊥
    whole_new i b =
        o.unlisted i (
          b.0,
          λ q l. b.1 q (let n = o.node in omega (arith, l, n)) ∙ kept t laws o.at o.rows parts q
              (omega (arith, l)),
        )
        (b.1 o.at o.node ∙ kept t laws o.at o.rows parts o.at (omega arith))

    whole_key : choice_key t c o ≡ subtree_key t 0 whole
    whole_key =
        sum_same t.Below t.add t.none laws.keys _ (part_at t laws whole o.at) t.nodes 0
        (λ q _ l. elim (cases_lt o.at q) [
          | inr early ↦
              pick_le q o.at (t.key q (o.rows q)) _ early
              ∙ ap (t.key q) (sym (kept t laws o.at o.rows parts q early))
              ∙ sym (pick_le q o.at (t.key q (whole q)) _ early)
          | inl past ↦
              pick_gt q o.at (t.key q (o.rows q)) _ past
              ∙ elim (cases_lt o.at (t.parent q)) [
                | inl closed ↦ pick_gt (t.parent q) o.at (bound_key t c q (o.below q)) t.none closed
                    ∙ sym (pick_gt (t.parent q) o.at (subtree_key t q whole) t.none closed)
                | inr low ↦
                    pick_le (t.parent q) o.at (bound_key t c q (o.below q)) t.none low
                    ∙ sym (part_key t laws o.at o.rows parts q past low (omega (arith, l)))
                    ∙ sym (pick_le (t.parent q) o.at (subtree_key t q whole) t.none low)
              ]
              ∙ sym (pick_gt q o.at (t.key q (whole q)) _ past)
        ])
        ∙ parts_whole t laws whole o.at o.node

    passed : IsPassed t c c.ended o
    passed = by c.ended refl
      where
        by : (ended : Bool) → c.ended ≡ ended → IsPassed t c ended o
        by true e = let r = full.others whole whole_is whole_new in let x : true ≡ false = sym e ∙ r.0 in absurd (cc)
        by false e =
            λ some. subst (λ k. t.Below (answer_key t c (length c.answers - 1)) k) (sym whole_key)
            ((full.others whole whole_is whole_new).1 some)

  pub full_valid : IsValid t c limit
  full_valid = record {
    bounds = full.bounds;
    apart = full.apart;
    covered = covered;
    answers = full.answers;
    ascending = full.ascending;
    count = full.count;
    passed = passed;
  }
