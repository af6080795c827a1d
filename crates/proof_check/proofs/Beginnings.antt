-- Beginnings with one node more.
use Rattle.std.proofs.Common.{◌≡◌, ◌↔◌, ◌⊎◌, ◌<◌, ◌≤◌, ◌+◌, ℕ, List, [], ◌∷◌, ◌++◌, length}
use Rattle.std.proofs.Common.{replicate, get_or, slice_index}
use Rattle.std.proofs.Common.{refl, sym, ap, subst, ◌∙◌, inl, inr, arith, length-append}
use Rattle.std.proofs.lemmas.Bool.{cases_lt}
use Rattle.std.proofs.lemmas.List.{get_or_append_left, get_or_push, get_or-replicate, length-replicate}
use Rattle.proof_check.specs.RowPlaces.{place_at}
use Rattle.proof_check.specs.PrefixNumbers.{IsAdding}
use Rattle.proof_check.specs.Levels.{ArePrefixes, BeginAlike, IsPairAt, IsTaken, list_at}

abbrev Pair : Type 0
Pair = ℕ × ℕ

-- no pair has two places
abbrev pub IsOnce : List Pair → Type 0
IsOnce pairs = (m n : ℕ) (x : Pair) → IsPairAt pairs m x → IsPairAt pairs n x → m ≡ n

once_more : (xs : List Pair) (x : Pair) → ((k : ℕ) → IsPairAt xs k x → ⊥) → IsOnce xs → IsOnce (xs ++ x ∷ [])
once_more xs x new once m n y p q = by (cases_lt m (length xs)) (cases_lt n (length xs))
  where
    size : length (xs ++ x ∷ []) ≡ length xs + 1
    size = length-append xs (x ∷ [])

    old : (k : ℕ) → IsPairAt (xs ++ x ∷ []) k y → k < length xs → IsPairAt xs k y
    old k h l = (l, sym (get_or_append_left xs (x ∷ []) (0, 0) k l) ∙ h.1)

    last : (k : ℕ) → IsPairAt (xs ++ x ∷ []) k y → length xs ≤ k → x ≡ y
    last k h g =
        let e : length xs ≡ k = omega (arith, h.0, g, size) in
        sym (get_or_push xs x (0, 0) k e) ∙ h.1

    apart : (k : ℕ) → IsPairAt xs k y → x ≡ y → ⊥
    apart k h e = new k (subst (IsPairAt xs k) (sym e) h)

    by : (m < length xs) ⊎ (length xs ≤ m) → (n < length xs) ⊎ (length xs ≤ n) → m ≡ n
    by (inl a) (inl b) = once m n y (old m p a) (old n q b)
    by (inl a) (inr b) = absurd (apart m (old m p a) (last n q b))
    by (inr a) (inl b) = absurd (apart n (old n q b) (last m p a))
    by (inr a) (inr b) = let u = p.0 in let v = q.0 in omega (arith, u, v, size, a, b)

module _ (p : ℕ) (places : List (List ℕ)) (numbers : List ℕ) where
  -- the pair of an answer
  abbrev pair_of : ℕ → Pair
  pair_of i = (slice_index numbers i, place_at places i p)

  -- the first k answers are numbered
  pub record AreAdded (k : ℕ) (pairs : List Pair) (next : List ℕ) (starts : List (List ℕ)) : Type 0 where
    pub count : length next ≡ k
    pub many : length starts ≡ length pairs
    pub each : (i : ℕ) → i < k → IsPairAt pairs (slice_index next i) (pair_of i)
    pub begun : (n : ℕ) → n < length pairs
        → (i : ℕ) × (i < k) × (slice_index next i ≡ n) × (list_at starts n ≡ list_at places i)
    pub once : IsOnce pairs

  pub none_added : AreAdded 0 [] [] []
  none_added = record {
    count = refl;
    many = refl;
    each = λ i l. absurd (omega (arith, l));
    begun = λ n l. absurd (omega (arith, l));
    once = λ m n x a b. absurd (let l = a.0 in omega (arith, l));
  }

  module _ (k : ℕ) (old new : List Pair) (next more : List ℕ) (starts longer : List (List ℕ))
      (added : AreAdded k old next starts)
      (adding : IsAdding p (list_at places k) (slice_index numbers k) old new next more starts longer) where
    more_count : length more ≡ k + 1
    more_count = ap length adding.numbered ∙ length-append next (adding.number ∷ []) ∙ ap (λ n. n + 1) added.count

    earlier : (i : ℕ) → i < k → slice_index more i ≡ slice_index next i
    earlier i l =
        ap (λ xs. get_or xs i 0) adding.numbered
        ∙ get_or_append_left next (adding.number ∷ []) 0 i (let c = added.count in omega (arith, c, l))

    last : (i : ℕ) → i ≡ k → slice_index more i ≡ adding.number
    last i e =
        ap (λ xs. get_or xs i 0) adding.numbered
        ∙ get_or_push next adding.number 0 i (let c = added.count in omega (arith, c, e))

    kept : (n : ℕ) (x : Pair) → IsPairAt old n x → IsPairAt new n x
    kept n x h = elim adding.added [
      | inl same ↦ subst (λ xs. IsPairAt xs n x) (sym same.0) h
      | inr longer' ↦ subst (λ xs. IsPairAt xs n x) (sym longer'.0) (
        let l = h.0 in omega (arith, l, length-append old (pair_of k ∷ [])),
        get_or_append_left old (pair_of k ∷ []) (0, 0) n h.0 ∙ h.1,
      )
    ]

    each_now : (i : ℕ) → i < k + 1 → IsPairAt new (slice_index more i) (pair_of i)
    each_now i l = elim (cases_lt i k) [
      | inl less ↦ subst (λ n. IsPairAt new n (pair_of i)) (sym (earlier i less))
          (kept (slice_index next i) (pair_of i) (added.each i less))
      | inr at ↦
          let e : i ≡ k = omega (arith, l, at) in
          subst (λ n. IsPairAt new n (pair_of i)) (sym (last i e))
          (subst (λ j. IsPairAt new adding.number (pair_of j)) (sym e) adding.stands)
    ]

    abbrev HasBegun : List (List ℕ) → ℕ → Type 0
    HasBegun lists n = (i : ℕ) × (i < k + 1) × (slice_index more i ≡ n) × (list_at lists n ≡ list_at places i)

    begun_same : starts ≡ longer → (n : ℕ) → n < length old → HasBegun longer n
    begun_same e n l =
        let b = added.begun n l in (
          b.0,
          let h = b.1 in omega (arith, h),
          earlier b.0 b.1 ∙ b.2,
          sym (ap (λ xs. list_at xs n) e) ∙ b.3,
        )

    once_now : IsOnce new
    once_now = elim adding.added [
      | inl same ↦ subst IsOnce (sym same.0) added.once
      | inr longer' ↦ subst IsOnce (sym longer'.0) (once_more old (pair_of k) longer'.2 added.once)
    ]

    many_now : length longer ≡ length new
    many_now = elim adding.added [
      | inl same ↦ ap length same.1 ∙ added.many ∙ sym (ap length same.0)
      | inr longer' ↦
          let b = ap length longer'.0 in
          let m = added.many in
          omega (arith, ap length longer'.1, b, m, length-append starts (list_at places k ∷ []), length-append old (pair_of k ∷ []))
    ]

    begun_now : (n : ℕ) → n < length new → HasBegun longer n
    begun_now n l = elim adding.added [
      | inl same ↦ begun_same (sym same.1) n (subst (λ xs. n < length xs) same.0 l)
      | inr longer' ↦
          let size : n < length old + 1 = let b = ap length longer'.0 in
          omega (arith, b, l, length-append old (pair_of k ∷ [])) in
          elim (cases_lt n (length old)) [
            | inl less ↦
                let b = added.begun n less in (
                  b.0,
                  let h = b.1 in omega (arith, h),
                  earlier b.0 b.1 ∙ b.2,
                  ap (λ xs. list_at xs n) longer'.1
                      ∙ get_or_append_left starts (list_at places k ∷ []) [] n
                      (let m = added.many in omega (arith, m, less)) ∙ b.3,
                )
            | inr at ↦
                let e : n ≡ length old = omega (arith, size, at) in
                let here : IsPairAt new n (pair_of k) = subst (λ xs. IsPairAt xs n (pair_of k)) (sym longer'.0) (
                  let b = length-append old (pair_of k ∷ []) in omega (arith, e, b),
                  get_or_push old (pair_of k) (0, 0) n (sym e),
                ) in (
                  k,
                  omega arith,
                  last k refl ∙ once_now adding.number n (pair_of k) adding.stands here,
                  ap (λ xs. list_at xs n) longer'.1
                      ∙ get_or_push starts (list_at places k) [] n (let m = added.many in omega (arith, m, e)),
                )
          ]
    ]

    pub one_added : AreAdded (k + 1) new more longer
    one_added = record {
      count = more_count;
      many = many_now;
      each = each_now;
      begun = begun_now;
      once = once_now;
    }

  module _ (starts : List (List ℕ)) (prefixes : ArePrefixes p places numbers starts) (pairs : List Pair)
      (next : List ℕ) (longer : List (List ℕ)) (added : AreAdded (length places) pairs next longer) where
    pub taken_pairs : (n r : ℕ) → ((k : ℕ) × IsPairAt pairs k (n, r)) ↔ IsTaken p places numbers n r
    taken_pairs n r = (
      λ h.
          let b = added.begun h.0 h.1.0 in
          let e : pair_of b.0 ≡ (n, r) = sym (added.each b.0 b.1).1 ∙ ap (λ k. get_or pairs k (0, 0)) b.2 ∙ h.1.1 in
          (b.0, b.1, ap (λ (x : Pair). x.0) e, ap (λ (x : Pair). x.1) e),
      λ h. (
        slice_index next h.0,
        subst (IsPairAt pairs (slice_index next h.0))
            (let x = h.2 in let y = h.3 in λ i. (x i, y i)) (added.each h.0 h.1),
      ),
    )

    -- answers that begin alike as far as p do so one node further if their rows there are the same
    alike_more : (a b : List ℕ) → BeginAlike p a b → slice_index a p ≡ slice_index b p → BeginAlike (p + 1) a b
    alike_more a b h e q l = elim (cases_lt q p) [
      | inl less ↦ h q less
      | inr at ↦ let is : q ≡ p = omega (arith, l, at) in subst (λ z. slice_index a z ≡ slice_index b z) (sym is) e
    ]

    alike_less : (a b : List ℕ) → BeginAlike (p + 1) a b → BeginAlike p a b
    alike_less a b h q l = h q (omega (arith, l))

    alike_back : (m : ℕ) (a b : List ℕ) → BeginAlike m a b → BeginAlike m b a
    alike_back m a b h q l = sym (h q l)

    alike_both : (m : ℕ) (a b c : List ℕ) → BeginAlike m a b → BeginAlike m b c → BeginAlike m a c
    alike_both m a b c h k q l = h q l ∙ k q l

    -- answers with one number begin alike
    numbered_alike : (i j : ℕ) → i < length places → j < length places
        → slice_index numbers i ≡ slice_index numbers j → BeginAlike p (list_at places i) (list_at places j)
    numbered_alike i j a b e =
        alike_both p (list_at places i) (list_at starts (slice_index numbers i)) (list_at places j)
        (prefixes.begins i a)
        (alike_back p (list_at places j) (list_at starts (slice_index numbers i))
        (subst (λ n. BeginAlike p (list_at places j) (list_at starts n)) (sym e) (prefixes.begins j b)))

    alike_numbered : (i j : ℕ) → i < length places → j < length places
        → BeginAlike p (list_at places i) (list_at places j) → slice_index numbers i ≡ slice_index numbers j
    alike_numbered i j a b h =
        prefixes.apart (slice_index numbers i) (slice_index numbers j) (prefixes.within i a) (prefixes.within j b)
        (alike_both p (list_at starts (slice_index numbers i)) (list_at places i)
        (list_at starts (slice_index numbers j))
        (alike_back p (list_at places i) (list_at starts (slice_index numbers i)) (prefixes.begins i a))
        (alike_both p (list_at places i) (list_at places j) (list_at starts (slice_index numbers j)) h
        (prefixes.begins j b)))

    within_now : (n : ℕ) → n < length longer → n < length pairs
    within_now n l = let m = added.many in omega (arith, m, l)

    pub next_prefixes : ArePrefixes (p + 1) places next longer
    next_prefixes = record {
      count = added.count;
      within = λ i l. let a = (added.each i l).0 in let m = added.many in omega (arith, a, m);
      begins = λ i l.
          let at = added.each i l in
          let b = added.begun (slice_index next i) at.0 in
          let e : pair_of b.0 ≡ pair_of i = sym (added.each b.0 b.1).1 ∙ ap (λ k. get_or pairs k (0, 0)) b.2 ∙ at.1 in
          subst (BeginAlike (p + 1) (list_at places i)) (sym b.3)
          (alike_more (list_at places i) (list_at places b.0)
          (numbered_alike i b.0 l b.1 (sym (ap (λ (x : Pair). x.0) e))) (sym (ap (λ (x : Pair). x.1) e)));
      apart = λ m n lm ln h.
          let a = added.begun m (within_now m lm) in
          let b = added.begun n (within_now n ln) in
          let alike : BeginAlike (p + 1) (list_at places a.0) (list_at places b.0) =
          subst (λ xs. BeginAlike (p + 1) xs (list_at places b.0)) a.3
          (subst (BeginAlike (p + 1) (list_at longer m)) b.3 h) in
          let number = alike_numbered a.0 b.0 a.1 b.1
          (alike_less (list_at places a.0) (list_at places b.0) alike) in
          let e : pair_of a.0 ≡ pair_of b.0 = λ i. (number i, (alike p (omega arith)) i) in
          sym a.2
          ∙ added.once (slice_index next a.0) (slice_index next b.0) (pair_of b.0)
          (subst (IsPairAt pairs (slice_index next a.0)) e (added.each a.0 a.1)) (added.each b.0 b.1)
          ∙ b.2;
      begun = λ n l.
          let b = added.begun n (within_now n l) in
          inr (b.0, b.1, subst (λ xs. BeginAlike (p + 1) xs (list_at places b.0)) (sym b.3) (λ q h. refl));
      first = λ z. absurd (omega (arith, z));
    }

-- before the first node there is one beginning, which each answer has
pub first_prefixes : (places starts : List (List ℕ)) (numbers : List ℕ) → numbers ≡ replicate (length places) 0 → length starts ≡ 1
    → ArePrefixes 0 places numbers starts
first_prefixes places starts numbers all one = record {
  count = ap length all ∙ length-replicate (length places) 0;
  within = λ i l. let here = at i l in omega (arith, here, one);
  begins = λ i l q h. absurd (omega (arith, h));
  apart = λ m n l k alike. omega (arith, l, k, one);
  begun = λ n l. inl refl;
  first = λ none. omega (arith, one);
}
  where
    at : (i : ℕ) → i < length places → slice_index numbers i ≡ 0
    at i l = ap (λ xs. slice_index xs i) all ∙ get_or-replicate (length places) i 0 0 l
