-- The keys of the answers of a valid certificate are how the ranking of all solutions by their keys begins.
use Rattle.std.proofs.Common.{◌≡◌, ◌⊎◌, ℕ, zero, suc, ◌+◌, ◌-◌, ◌<◌, cond, nat_eq, Bool, true, false, List, []}
use Rattle.std.proofs.Common.{◌∷◌}
use Rattle.std.proofs.Common.{map, length, get_or, take, refl, sym, ap, ◌∙◌, subst, inl, inr, arith}
use Rattle.std.specs.Prelude.{Option, None, Some}
use Rattle.std.proofs.lemmas.List.{length-map, take_all}
use Rattle.rankings.specs.Order.{BelowAll, IsAscending, IsMember, IsRanking}
use Rattle.anyk_model.specs.Output.{cut}
use Rattle.tdp_model.specs.Below.{is_below}
use Rattle.tdp_model.specs.Remains.{AtMost}
use Rattle.tdp_model.proofs.Sums.{sum_same}
use Rattle.proof_model.specs.Certificate.{AnswerLine, Certificate}
use Rattle.proof_model.specs.FirstAnswers.{IsSolutionKey, answer_keys}
use Rattle.proof_model.specs.Problem.{Problem, key_at, row_in}
use Rattle.proof_model.specs.Laws.{IsProblem, subtree_key}
use Rattle.proof_model.specs.Valid.{Begins, IsCount, IsValid, answer_at, answer_key, answer_row}
use Rattle.proof_model.proofs.FirstOnes.{all_ones, first_ones}
use Rattle.proof_model.proofs.MapPlaces.{member_at, place_of}
use Rattle.proof_model.proofs.Soundness.{listed_or_after}

-- ---- a list, and what a function gives at each of its places

module _ {X K : Type 0} (Below : K → K → Type 0) (transitive : (a b c : K) → Below a b → Below b c → Below a c)
    (f : X → K) (d : X) where
  abbrev Rises : List X → Type 0
  Rises xs = (i : ℕ) → suc i < length xs → Below (f (get_or xs i d)) (f (get_or xs (suc i) d))

  below_all : (k : K) (xs : List X) → Rises xs → (0 < length xs → Below k (f (get_or xs 0 d)))
      → BelowAll Below k (map f xs)
  below_all k [] up h = tt
  below_all k (x ∷ xs) up h =
      let first : Below k (f x) = h (omega arith) in (
        first,
        below_all k xs (λ i l. up (suc i) (omega (arith, l)))
            (λ some. transitive k (f x) _ first (up 0 (omega (arith, some)))),
      )

  rising : (xs : List X) → Rises xs → IsAscending Below (map f xs)
  rising [] up = tt
  rising (x ∷ xs) up =
      let later : Rises xs = λ i l. up (suc i) (omega (arith, l)) in
      (below_all (f x) xs later (λ some. up 0 (omega (arith, some))), rising xs later)

-- ---- the answers

module _ {K : Type 0} (t : Problem K) (laws : IsProblem t) (c : Certificate) (limit : Option ℕ)
    (valid : IsValid t c limit)
    (keys : List K) (ranking : IsRanking K t.Below (IsSolutionKey t) keys) where
  abbrev f : AnswerLine → K
  f a = key_at t 0 a.rows

  abbrev none : AnswerLine
  none = record { line = 0; rows = [] }

  trans : (a b k : K) → t.Below a b → t.Below b k → t.Below a k
  trans a b k p q = laws.keys.order.transitive a b k p q

  next : (i : ℕ) → suc i < length c.answers → t.Below (answer_key t c i) (answer_key t c (suc i))
  next i l =
      let e : i + 1 ≡ suc i = omega arith in
      subst (λ n. t.Below (answer_key t c i) (answer_key t c n)) e (valid.ascending i (omega (arith, l)))

  up : IsAscending t.Below (answer_keys t c)
  up = rising t.Below trans f none c.answers next

  -- no answer is after the last one
  to_last : (n i : ℕ) → suc (i + n) ≡ length c.answers
      → AtMost t.Below (answer_key t c i) (answer_key t c (length c.answers - 1))
  to_last zero i e = let at : i ≡ length c.answers - 1 = omega (arith, e) in inr (ap (answer_key t c) at)
  to_last (suc n) i e =
      inl (on (answer_key t c (suc i)) (answer_key t c (length c.answers - 1)) (next i (omega (arith, e)))
      (to_last n (suc i) (omega (arith, e))))
    where
      on : (b k : K) → t.Below (answer_key t c i) b → AtMost t.Below b k → t.Below (answer_key t c i) k
      on b k p (inl q) = trans _ b k p q
      on b k p (inr q) = subst (λ z. t.Below (answer_key t c i) z) q p

  -- each answer is a solution
  there : (k : K) → IsMember k (answer_keys t c) → IsMember k keys
  there k m =
      let at = place_of f none c.answers k m in
      let solution = valid.answers at.0 at.1 in
      ranking.complete k (
        row_in t 0 (answer_at t c at.0).rows,
        record { node = solution.node; first = solution.first; others = solution.others },
        sym at.2,
      )

  -- a solution that is listed has the key of an answer
  listed : (s : ℕ → ℕ) (i : ℕ) → Begins t c i s t.nodes → IsMember (subtree_key t 0 s) (answer_keys t c)
  listed s i b =
      subst (λ k. IsMember k (answer_keys t c))
      (sum_same t.Below t.add t.none laws.keys
      (λ q. cond (nat_eq (is_below t.parent 0 q) 1) (t.key q (answer_row t c i q)) t.none)
      (λ q. cond (nat_eq (is_below t.parent 0 q) 1) (t.key q (s q)) t.none) t.nodes 0
      (λ q _ l. ap (λ r. cond (nat_eq (is_below t.parent 0 q) 1) (t.key q r) t.none) (b.1 q (omega (arith, l)))))
      (member_at f none c.answers i b.0)

  -- any other one comes after all answers, and the certificate says `more`
  others : (k : K) → IsMember k keys
      → IsMember k (answer_keys t c) ⊎ ((c.ended ≡ false) × ((x : K) → IsMember x (answer_keys t c) → t.Below x k))
  others k m =
      let has = ranking.sound k m in
      elim (listed_or_after t laws c limit valid has.0 has.1) [
        | inl found ↦ inl (subst (λ z. IsMember z (answer_keys t c)) has.2 (listed has.0 found.0 found.1))
        | inr after ↦ inr (
          after.0,
          λ x n.
              let at = place_of f none c.answers x n in
              let i = at.0 in
              let l : i < length c.answers = at.1 in
              let last = to_last (length c.answers - suc i) i (omega (arith, l)) in
              subst (λ z. t.Below x z) has.2
              (subst (λ z. t.Below z (subtree_key t 0 has.0)) (sym at.2) (on _ _ _ last (after.1 (omega (arith, l))))),
        )
      ]
    where
      on : (a b z : K) → AtMost t.Below a b → t.Below b z → t.Below a z
      on a b z (inl p) q = trans a b z p q
      on a b z (inr e) q = subst (λ y. t.Below y z) (sym e) q

  first : answer_keys t c ≡ take (length c.answers) keys
  first =
      first_ones t.Below laws.keys.order (answer_keys t c) keys up ranking.ascending there
      (λ k m. elim (others k m) [ inl n ↦ inl n | inr after ↦ inr after.1 ])
      ∙ ap (λ (n : ℕ). take n keys) (length-map c.answers f)

  pub whole : c.ended ≡ true → answer_keys t c ≡ keys
  whole e =
      all_ones t.Below laws.keys.order (answer_keys t c) keys up ranking.ascending there
      (λ k m. elim (others k m) [ inl n ↦ n | inr after ↦ absurd (let x : true ≡ false = sym e ∙ after.0 in cc) ])

  by_count : (limit : Option ℕ) (ended : Bool) → c.ended ≡ ended → IsCount t c limit ended (length c.answers)
      → answer_keys t c ≡ cut limit keys
  by_count l false e h = first ∙ ap (λ (o : Option ℕ). cut o keys) (sym h)
  by_count None true e h = whole e
  by_count (Some n) true e h =
      let all = whole e in
      all ∙ sym (take_all n keys (let size = ap length all in omega (arith, size, h, length-map c.answers f)))

  pub answers_first : answer_keys t c ≡ cut limit keys
  answers_first = by_count limit c.ended refl valid.count
