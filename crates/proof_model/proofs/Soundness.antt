-- Of a valid certificate each solution is listed, or it comes after the last answer.
use Rattle.std.proofs.Common.{◌≡◌, ◌⊎◌, ℕ, zero, suc, ◌-◌, ◌<◌, ◌≤◌, cond, nat_le, Bool, true, false, refl, sym, ◌∙◌}
use Rattle.std.proofs.Common.{subst, inl, inr, arith, Option, length}
use Rattle.std.proofs.lemmas.Bool.{cases_lt, cases_eq}
use Rattle.tdp_model.specs.Below.{is_below}
use Rattle.tdp_model.specs.Remains.{AtMost}
use Rattle.tdp_model.specs.TreeProblem.{sum_from}
use Rattle.tdp_model.proofs.Descent.{below_itself, below_parent}
use Rattle.tdp_model.proofs.LeastKeys.{sum_at_most}
use Rattle.proof_model.specs.Certificate.{Certificate}
use Rattle.proof_model.specs.Problem.{Problem}
use Rattle.proof_model.specs.Laws.{IsProblem, IsSubtree, subtree_key}
use Rattle.proof_model.specs.Valid.{IsValid, IsPassed, OpenChoice, Begins, answer_key, answer_row, bound_key}
use Rattle.proof_model.specs.Valid.{choice_key}
use Rattle.proof_model.proofs.Covering.{IsLow, cover, serves}
use Rattle.proof_model.proofs.Choices.{part_at, parts_whole, pick_le, pick_gt}

module _ {K : Type 0} (t : Problem K) (laws : IsProblem t) where
  -- each node is below the first
  pub all_below : (f q : ℕ) → q ≤ f → q < t.nodes → is_below t.parent 0 q ≡ 1
  all_below zero q e l = below_itself t.nodes t.parent laws.parents_first 0 q (omega arith)
  all_below (suc f) q e l = elim (cases_eq q 0) [
    | inl z ↦ below_itself t.nodes t.parent laws.parents_first 0 q z
    | inr n ↦
        let d : t.parent q < q = laws.parents_first q (omega (arith, n)) l in
        below_parent t.nodes t.parent laws.parents_first 0 q (omega (arith, n)) l n
        ∙ all_below f (t.parent q) (omega arith) (omega arith)
  ]

  -- each row of a solution fits the row above it
  fits_above : (s : ℕ → ℕ) → IsSubtree t 0 s → (q : ℕ) → 0 < q → q < t.nodes → t.Fits q (s (t.parent q)) (s q)
  fits_above s sub q p l = sub.others q p l (let b = all_below q q (omega arith) l in omega (arith, b))

  is_row : (s : ℕ → ℕ) → IsSubtree t 0 s → (q : ℕ) → q < t.nodes → t.IsRow q (s q)
  is_row s sub q l = elim (cases_eq q 0) [
    | inl z ↦ subst (λ v. t.IsRow v (s v)) (sym z) sub.first
    | inr n ↦ laws.fits_row q (s (t.parent q)) (s q) (fits_above s sub q (omega (arith, n)) l)
  ]

  -- the part of a solution at a node
  part_of : (s : ℕ → ℕ) → IsSubtree t 0 s → (q : ℕ) → q < t.nodes → IsSubtree t q s
  part_of s sub q l =
      record {
        node = l;
        first = is_row s sub q l;
        others = λ u more lu below. fits_above s sub u (omega (arith, more)) lu;
      }

  module _ (c : Certificate) (limit : Option ℕ) (valid : IsValid t c limit) (s : ℕ → ℕ) (sub : IsSubtree t 0 s) where
    -- a bound for each node's part
    low : (q : ℕ) → q < t.nodes → (i : ℕ) × IsLow t laws c limit valid q s i
    low q l = cover t laws c limit valid t.nodes q s (omega arith) (part_of s sub q l)

    pick : (q : ℕ) → (i : ℕ) × (q < t.nodes → IsLow t laws c limit valid q s i)
    pick q = elim (cases_lt q t.nodes) [
      | inl l ↦ let r = low q l in (r.0, λ _. r.1)
      | inr out ↦ (0, λ l. absurd (omega arith))
    ]

    abbrev IsListed : Type 0
    IsListed = (i : ℕ) × Begins t c i s t.nodes

    -- whether answer i begins with the first n rows
    all? : (n i : ℕ)
        → ((q : ℕ) → q < n → answer_row t c i q ≡ s q) ⊎ (((q : ℕ) → q < n → answer_row t c i q ≡ s q) → ⊥)
    all? zero i = inl (λ q l. absurd (omega arith))
    all? (suc n) i = elim (all? n i) [
      | inr differ ↦ inr (λ f. differ (λ q l. f q (omega arith)))
      | inl same ↦ elim (cases_eq (answer_row t c i n) (s n)) [
        | inr x ↦ inr (λ f. x (f n (omega arith)))
        | inl e ↦ inl (λ q l. elim (cases_lt q n) [
          | inl less ↦ same q less
          | inr more ↦ let at : q ≡ n = omega arith in subst (λ z. answer_row t c i z ≡ s z) (sym at) e
        ])
      ]
    ]

    begins? : (n i : ℕ) → Begins t c i s n ⊎ (Begins t c i s n → ⊥)
    begins? n i = elim (cases_lt i (length c.answers)) [
      | inr out ↦ inr (λ b. let l = b.0 in omega (arith, out, l))
      | inl l ↦ elim (all? n i) [ inl same ↦ inl (l, same) | inr differ ↦ inr (λ b. differ b.1) ]
    ]

    -- whether the first n rows begin one of the first k answers
    some? : (n k : ℕ) → ((i : ℕ) × Begins t c i s n) ⊎ ((i : ℕ) → i < k → Begins t c i s n → ⊥)
    some? n zero = inr (λ i l b. omega arith)
    some? n (suc k) = elim (begins? n k) [
      | inl b ↦ inl (k, b)
      | inr differ ↦ elim (some? n k) [
        | inl found ↦ inl found
        | inr none ↦ inr (λ i l b. elim (cases_lt i k) [
          | inl less ↦ none i less b
          | inr more ↦ let at : i ≡ k = omega arith in differ (subst (λ z. Begins t c z s n) at b)
        ])
      ]
    ]

    low_at : (q : ℕ) → q < t.nodes → IsLow t laws c limit valid q s (pick q).0
    low_at q l = (pick q).1 l

    abbrev low_part : ℕ → ℕ → K
    low_part n q = cond (nat_le q n) (t.key q (s q)) (cond (nat_le (t.parent q) n) (bound_key t c q (pick q).0) t.none)

    -- where the first n rows are none or begin an answer, and no answer has the next row too, the choice is open
    opens : (n : ℕ) → n < t.nodes → (n ≡ 0) ⊎ ((i : ℕ) × Begins t c i s n) → ((i : ℕ) → Begins t c i s (suc n) → ⊥)
        → (o : OpenChoice t c) × AtMost t.Below (choice_key t c o) (subtree_key t 0 s)
    opens n l begun unlisted = (
      record {
        at = n;
        rows = s;
        below = λ q. (pick q).0;
        node = l;
        begun = begun;
        row = is_row s sub n l;
        fits = elim (cases_eq n 0) [ inl z ↦ inl z | inr x ↦ inr (fits_above s sub n (omega (arith, x)) l) ];
        unlisted = λ i b e. unlisted i (
          b.0,
          λ q h. elim (cases_lt q n) [
            | inl less ↦ b.1 q less
            | inr more ↦ let at : q ≡ n = omega arith in subst (λ z. answer_row t c i z ≡ s z) (sym at) e
          ],
        );
        bound = λ q more h _. serves t laws c limit valid q (s (t.parent q)) (s q) (pick q).0 (omega arith)
            (fits_above s sub q (omega arith) h) (low_at q h).0;
      },
      subst (λ k. AtMost t.Below (sum_from t.add t.none (low_part n) t.nodes 0) k) (parts_whole t laws s n l)
          (sum_at_most t.Below t.add t.none laws.keys (low_part n) (part_at t laws s n) t.nodes 0
          (λ q a b. each q (omega (arith, b)))),
    )
      where
        each : (q : ℕ) → q < t.nodes
            → AtMost t.Below (cond (nat_le q n) (t.key q (s q))
            (cond (nat_le (t.parent q) n) (bound_key t c q (pick q).0) t.none)) (part_at t laws s n q)
        each q h = elim (cases_lt n q) [
          | inr up ↦ inr (pick_le q n (t.key q (s q)) _ up ∙ sym (pick_le q n (t.key q (s q)) _ up))
          | inl past ↦
              subst (λ z. AtMost t.Below z (part_at t laws s n q)) (sym (pick_gt q n (t.key q (s q)) _ past))
              (subst (λ z. AtMost t.Below (cond (nat_le (t.parent q) n) (bound_key t c q (pick q).0) t.none) z)
              (sym (pick_gt q n (t.key q (s q)) _ past))
              (elim (cases_lt n (t.parent q)) [
                | inl closed ↦ inr (pick_gt (t.parent q) n (bound_key t c q (pick q).0) t.none closed
                    ∙ sym (pick_gt (t.parent q) n (subtree_key t q s) t.none closed))
                | inr open' ↦
                    subst (λ z. AtMost t.Below z (cond (nat_le (t.parent q) n) (subtree_key t q s) t.none))
                    (sym (pick_le (t.parent q) n (bound_key t c q (pick q).0) t.none open'))
                    (subst (λ z. AtMost t.Below (bound_key t c q (pick q).0) z)
                    (sym (pick_le (t.parent q) n (subtree_key t q s) t.none open')) (low_at q h).1)
              ]))
        ]

    abbrev IsOpened : Type 0
    IsOpened = (o : OpenChoice t c) × AtMost t.Below (choice_key t c o) (subtree_key t 0 s)

    -- the longest beginning that is none or begins an answer
    search : (n : ℕ) → n ≤ t.nodes → ((n ≡ 0) ⊎ ((i : ℕ) × Begins t c i s n)) ⊎ IsOpened
    search zero l = inl (inl refl)
    search (suc n) l = elim (search n (omega arith)) [
      | inr o ↦ inr o
      | inl begun ↦ elim (some? (suc n) (length c.answers)) [
        | inl found ↦ inl (inr found)
        | inr none ↦ inr (opens n (omega arith) begun (λ i b. none i b.0 b))
      ]
    ]

    -- it comes after the last answer, and the certificate says `more`
    abbrev ComesAfter : Type 0
    ComesAfter =
        (c.ended ≡ false)
        × (0 < length c.answers → t.Below (answer_key t c (length c.answers - 1)) (subtree_key t 0 s))

    after : IsOpened → ComesAfter
    after o = by c.ended refl (valid.passed o.0)
      where
        below_most : (a b k : K) → t.Below a b → AtMost t.Below b k → t.Below a k
        below_most a b k p (inl q) = laws.keys.order.transitive a b k p q
        below_most a b k p (inr e) = subst (λ z. t.Below a z) e p

        by : (ended : Bool) → c.ended ≡ ended → IsPassed t c ended o.0 → ComesAfter
        by true e h = absurd h
        by false e h = (e, λ some. below_most _ _ _ (h some) o.1)

    pub listed_or_after : IsListed ⊎ ComesAfter
    listed_or_after = elim (search t.nodes (omega arith)) [
      | inr o ↦ inr (after o)
      | inl begun ↦ elim begun [
        | inl z ↦ let n = laws.some in absurd (omega (arith, z, n))
        | inr found ↦ inl found
      ]
    ]
