-- One more branch whose first answer is compared with the first so far.
use Rattle.std.proofs.Common.{◌≡◌, ◌+◌, ◌⊎◌, ◌∙◌, ℕ, ℤ, Bool, true, false, if◌then◌else◌, Option, None, Some, List, [], ◌∷◌, get_or, inl, inr, sym, ap, subst, arith}
use Rattle.std.proofs.lemmas.Bool.{cases_eq, false≢true}
use Rattle.anyk_model.specs.Table.{Table}
use Rattle.anyk_model.specs.Query.{Query}
use Rattle.anyk_model.specs.Ranking.{IsBefore, is_before}
use Rattle.anyk_model.specs.ListOrder.{Compared, before, same, after, before_trans, compare}
use Rattle.anyk_model.specs.TaggedRows.{StandsBefore, sums_of}
use Rattle.union_all.specs.Firsts.{HasFirst, IsFirstBranch}

-- of two lists the first one is before the other, or it is not
tested : (xs ys : List ℤ) → Compared xs ys → (is_before xs ys ≡ true → IsBefore xs ys) × (is_before xs ys ≡ false → IsBefore ys xs ⊎ (ys ≡ xs))
tested xs ys (before t p) = ((λ _. p), (λ e. absurd (false≢true (sym e ∙ t))))
tested xs ys (same t u e) = ((λ f. absurd (false≢true (sym t ∙ f))), (λ _. inr (sym e)))
tested xs ys (after t u p) = ((λ f. absurd (false≢true (sym t ∙ f))), (λ _. inl p))

no_list : {A : Type 0} (l : List A) (x : A) (xs : List A) → l ≡ [] → l ≡ x ∷ xs → ⊥
no_list l x xs e f = absurd (cc (e, f))

pub first_of : {A : Type 0} (l : List A) (x y : A) (xs ys : List A) → l ≡ x ∷ xs → l ≡ y ∷ ys → x ≡ y
first_of l x y xs ys e f = cc (e, f)

-- a list with a first element is not empty
pub not_empty : {A : Type 0} (l : List A) (x : A) (xs : List A) → l ≡ x ∷ xs → l ≡ [] → ⊥
not_empty l x xs e f = cc (e, f)

module _ (queries : List Query) (tables : List Table) (lists : List (List (List ℕ))) (n : ℕ) where
  -- branch n has nothing left
  pub none_here : (first : Option ℕ) → get_or lists n [] ≡ [] → IsFirstBranch queries tables lists n first → IsFirstBranch queries tables lists (n + 1) first
  none_here None none was = λ c inside. elim (cases_eq c n) [
    | inl e ↦ subst (λ (k : ℕ). get_or lists k [] ≡ []) (sym e) none
    | inr d ↦ was c (omega (arith, inside, d))
  ]
  none_here (Some f) none was = record {
    inside = omega (arith, was.inside);
    rows = was.rows;
    later = was.later;
    is_first = was.is_first;
    least = λ c other others inside apart is. elim (cases_eq c n) [
      | inl e ↦ absurd (no_list (get_or lists n []) other others none (subst (λ (k : ℕ). get_or lists k [] ≡ other ∷ others) e is))
      | inr d ↦ was.least c other others (omega (arith, inside, d)) apart is
    ];
  }

  module _ (rows : List ℕ) (later : List (List ℕ)) (at : get_or lists n [] ≡ rows ∷ later) where
    -- it is the first branch that has something left
    pub first_here : IsFirstBranch queries tables lists n None → IsFirstBranch queries tables lists (n + 1) (Some n)
    first_here was = record {
      inside = omega arith;
      rows = rows;
      later = later;
      is_first = at;
      least = λ c other others inside apart is. absurd (no_list (get_or lists c []) other others (was c (omega (arith, inside, apart))) is);
    }

    module _ (f : ℕ) (was : HasFirst queries tables lists n f) where
      abbrev less : Bool
      less = is_before (sums_of queries tables n rows) (sums_of queries tables f was.rows)

      tests : (less ≡ true → IsBefore (sums_of queries tables n rows) (sums_of queries tables f was.rows))
          × (less ≡ false → IsBefore (sums_of queries tables f was.rows) (sums_of queries tables n rows) ⊎ (sums_of queries tables f was.rows ≡ sums_of queries tables n rows))
      tests = tested (sums_of queries tables n rows) (sums_of queries tables f was.rows) (compare (sums_of queries tables n rows) (sums_of queries tables f was.rows))

      -- its sums are less
      sooner : less ≡ true → HasFirst queries tables lists (n + 1) n
      sooner e =
          let p = tests.0 e in
          record {
            inside = omega arith;
            rows = rows;
            later = later;
            is_first = at;
            least = λ c other others inside apart is. elim (cases_eq c f) [
              | inl same_branch ↦
                  let here : other ≡ was.rows = first_of (get_or lists f []) other was.rows others was.later (subst (λ (k : ℕ). get_or lists k [] ≡ other ∷ others) same_branch is) was.is_first in
                  inl (subst (λ (k : ℕ). IsBefore (sums_of queries tables n rows) (sums_of queries tables k other)) (sym same_branch)
                  (subst (λ (r : List ℕ). IsBefore (sums_of queries tables n rows) (sums_of queries tables f r)) (sym here) p))
              | inr d ↦ elim (was.least c other others (omega (arith, inside, apart)) d is) [
                | inl q ↦ inl (before_trans (sums_of queries tables n rows) (sums_of queries tables f was.rows) (sums_of queries tables c other) p q)
                | inr q ↦ inl (subst (λ (xs : List ℤ). IsBefore (sums_of queries tables n rows) xs) q.0 p)
              ]
            ];
          }

      -- they are not
      kept : less ≡ false → HasFirst queries tables lists (n + 1) f
      kept e = record {
        inside = omega (arith, was.inside);
        rows = was.rows;
        later = was.later;
        is_first = was.is_first;
        least = λ c other others inside apart is. elim (cases_eq c n) [
          | inl here ↦
              let alike : other ≡ rows = first_of (get_or lists n []) other rows others later (subst (λ (k : ℕ). get_or lists k [] ≡ other ∷ others) here is) at in
              let stands : StandsBefore queries tables f was.rows n rows = elim (tests.1 e) [ inl q ↦ inl q | inr q ↦ inr (q, was.inside) ] in
              subst (λ (k : ℕ). StandsBefore queries tables f was.rows k other) (sym here) (subst (λ (r : List ℕ). StandsBefore queries tables f was.rows n r) (sym alike) stands)
          | inr d ↦ was.least c other others (omega (arith, inside, d)) apart is
        ];
      }

      pub compared_first : (b : Bool) (first_rows : List ℕ) → was.rows ≡ first_rows → b ≡ is_before (sums_of queries tables n rows) (sums_of queries tables f first_rows)
          → IsFirstBranch queries tables lists (n + 1) (if b then Some n else Some f)
      compared_first b first_rows here is = by b (is ∙ ap (λ (r : List ℕ). is_before (sums_of queries tables n rows) (sums_of queries tables f r)) (sym here))
        where
          by : (t : Bool) → t ≡ less → IsFirstBranch queries tables lists (n + 1) (if t then Some n else Some f)
          by true e = sooner (sym e)
          by false e = kept (sym e)
