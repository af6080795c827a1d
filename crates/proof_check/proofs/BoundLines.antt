-- The lines of a node, in their order.
use Rattle.std.proofs.Common.{◌≡◌, ◌≢◌, ℕ, zero, suc, ◌+◌, ◌<◌, Bool, false, cond, nat_eq, [], ◌∷◌, ◌++◌}
use Rattle.std.proofs.Common.{length, get_or, refl, sym, ap, ◌∙◌, inl, inr, arith}
use Rattle.std.specs.List.{filter, range_with_len}
use Rattle.std.proofs.lemmas.Bool.{cases_eq, cases_lt, cond-false, cond-true}
use Rattle.std.proofs.lemmas.Bool.Decides.{Decides-eqb, nat_tests}
use Rattle.std.proofs.lemmas.List.Elements.{filter-append}
use Rattle.tdp_model.proofs.Sums.{get_end, get_front, length_end}
use Rattle.proof_model.specs.Certificate.{Certificate}
use Rattle.proof_check.specs.Lines.{line_node, lines_of}
use Rattle.std.proofs.lemmas.List.{append-nil}

range_more : (a n j : ℕ) → a + n ≡ j → range_with_len a (suc n) ≡ range_with_len a n ++ (j ∷ [])
range_more a zero j e = let s : a ≡ j = omega (arith, e) in ap (λ k. k ∷ []) s
range_more a (suc n) j e = ap (λ ks. a ∷ ks) (range_more (a + 1) n j (omega (arith, e)))

module _ (c : Certificate) where
  abbrev test : ℕ → ℕ → Bool
  test v i = nat_eq (line_node c i) (suc v)

  one_more : (v n : ℕ) → lines_of c v (n + 1) ≡ lines_of c v n ++ cond (test v n) (n ∷ []) []
  one_more v n =
      let e : n + 1 ≡ suc n = omega arith in
      ap (lines_of c v) e ∙ ap (filter (test v)) (range_more 0 n n (omega arith))
      ∙ filter-append (test v) (range_with_len 0 n) (n ∷ [])

  -- a line of the node is added
  pub lines_more : (v n : ℕ) → line_node c n ≡ suc v → lines_of c v (n + 1) ≡ lines_of c v n ++ (n ∷ [])
  lines_more v n e =
      one_more v n
      ∙ ap (λ ks. lines_of c v n ++ ks) (cond-true (test v n) (n ∷ []) [] ((Decides-eqb (line_node c n) (suc v)).1 e))

  -- and one of another node is not
  pub lines_same : (v n : ℕ) → line_node c n ≢ suc v → lines_of c v (n + 1) ≡ lines_of c v n
  lines_same v n e =
      let no : test v n ≡ false = grind (arith, nat_tests) in
      one_more v n ∙ ap (λ ks. lines_of c v n ++ ks) (cond-false (test v n) (n ∷ []) [] no) ∙ append-nil (lines_of c v n)

  next : (v n : ℕ) → line_node c n ≡ suc v → lines_of c v (suc n) ≡ lines_of c v n ++ (n ∷ [])
  next v n e = let s : suc n ≡ n + 1 = omega arith in ap (lines_of c v) s ∙ lines_more v n e

  last : (v n : ℕ) → line_node c n ≢ suc v → lines_of c v (suc n) ≡ lines_of c v n
  last v n e = let s : suc n ≡ n + 1 = omega arith in ap (lines_of c v) s ∙ lines_same v n e

  -- each of them is one of the first n lines, and a bound of the node
  pub lines_are : (v n b : ℕ) → b < length (lines_of c v n)
      → (get_or (lines_of c v n) b 0 < n) × (line_node c (get_or (lines_of c v n) b 0) ≡ suc v)
  lines_are v zero b l = absurd (omega (arith, l))
  lines_are v (suc n) b l = elim (cases_eq (line_node c n) (suc v)) [
    | inl e ↦ elim (cases_lt b (length (lines_of c v n))) [
      | inl h ↦
          let at : get_or (lines_of c v (suc n)) b 0 ≡ get_or (lines_of c v n) b 0 =
          ap (λ ks. get_or ks b 0) (next v n e) ∙ get_front (lines_of c v n) (n ∷ []) b h in
          let before = lines_are v n b h in
          (omega (arith, at, before.0), ap (line_node c) at ∙ before.1)
      | inr h ↦
          let long = ap length (next v n e) ∙ length_end (lines_of c v n) n in
          let at : get_or (lines_of c v (suc n)) b 0 ≡ n =
          ap (λ ks. get_or ks b 0) (next v n e) ∙ get_end (lines_of c v n) n b (omega (arith, l, h, long)) in
          (omega (arith, at), ap (line_node c) at ∙ e)
    ]
    | inr e ↦
        let at = ap (λ ks. get_or ks b 0) (last v n e) in
        let before = lines_are v n b (omega (arith, l, ap length (last v n e))) in
        (omega (arith, at, before.0), ap (line_node c) at ∙ before.1)
  ]

  -- each such line is there
  pub lines_all : (v n i : ℕ) → i < n → line_node c i ≡ suc v
      → (b : ℕ) × (b < length (lines_of c v n)) × (get_or (lines_of c v n) b 0 ≡ i)
  lines_all v zero i l h = absurd (omega (arith, l))
  lines_all v (suc n) i l h = elim (cases_eq i n) [
    | inl e ↦
        let now : line_node c n ≡ suc v = ap (line_node c) (sym e) ∙ h in
        let long = ap length (next v n now) ∙ length_end (lines_of c v n) n in (
          length (lines_of c v n),
          omega (arith, long),
          ap (λ ks. get_or ks (length (lines_of c v n)) 0) (next v n now) ∙ get_end (lines_of c v n) n (length (lines_of c v n)) refl ∙ sym e,
        )
    | inr e ↦
        let before = lines_all v n i (omega (arith, l, e)) h in
        let inside = before.1 in
        elim (cases_eq (line_node c n) (suc v)) [
          | inl x ↦
              let long = ap length (next v n x) ∙ length_end (lines_of c v n) n in (
                before.0,
                omega (arith, inside, long),
                ap (λ ks. get_or ks before.0 0) (next v n x) ∙ get_front (lines_of c v n) (n ∷ []) before.0 before.1 ∙ before.2,
              )
          | inr x ↦
              (before.0, omega (arith, inside, ap length (last v n x)), ap (λ ks. get_or ks before.0 0) (last v n x) ∙ before.2)
        ]
  ]

  -- later ones are later lines
  pub lines_ascend : (v n a b : ℕ) → a < b → b < length (lines_of c v n)
      → get_or (lines_of c v n) a 0 < get_or (lines_of c v n) b 0
  lines_ascend v zero a b h l = absurd (omega (arith, l))
  lines_ascend v (suc n) a b h l = elim (cases_eq (line_node c n) (suc v)) [
    | inl e ↦
        let long = ap length (next v n e) ∙ length_end (lines_of c v n) n in
        let first : get_or (lines_of c v (suc n)) a 0 ≡ get_or (lines_of c v n) a 0 =
        ap (λ ks. get_or ks a 0) (next v n e) ∙ get_front (lines_of c v n) (n ∷ []) a (omega (arith, h, l, long)) in
        elim (cases_lt b (length (lines_of c v n))) [
          | inl k ↦
              let up = lines_ascend v n a b h k in
              omega (arith, first, ap (λ ks. get_or ks b 0) (next v n e) ∙ get_front (lines_of c v n) (n ∷ []) b k, up)
          | inr k ↦
              let second = ap (λ ks. get_or ks b 0) (next v n e) ∙ get_end (lines_of c v n) n b (omega (arith, l, k, long)) in
              omega (arith, first, second, (lines_are v n a (omega (arith, h, l, long))).0)
        ]
    | inr e ↦
        let first = ap (λ ks. get_or ks a 0) (last v n e) in
        omega (arith, first, ap (λ ks. get_or ks b 0) (last v n e), lines_ascend v n a b h (omega (arith, l, ap length (last v n e))))
  ]
