-- Rows with the numbers of their links, one after the other.
use Rattle.std.proofs.Common.{◌≡◌, ℕ, zero, suc, ◌<◌, ◌≤◌, ◌⊎◌, inl, inr, Bool, true, false, nat_eq, ◌||◌, List, [], ◌∷◌, ◌++◌, map, length, get_or, Contains, refl, sym, ap, subst, ◌∙◌, arith, length-append, eq-eqb, if◌then◌else◌}
use Rattle.indexmap.specs.IndexSet.{insert_key}
use Rattle.std.proofs.lemmas.List.{get_or_append_left}
use Rattle.std.proofs.lemmas.List.Elements.{All-push, All-weaker, Contains-append_left, Contains-push}
use Rattle.std.specs.List.{list_any}
use Rattle.semi_join.specs.Reduction.{IsNumbering}
use Rattle.link_index.proofs.Lists.{get_or_snoc}

pub get_or_last : {X : Type 0} (xs : List X) (x d : X) → get_or (xs ++ (x ∷ [])) (length xs) d ≡ x
get_or_last [] x d = refl
get_or_last (y ∷ xs) x d = get_or_last xs x d

or_parts : (a b : Bool) → (a || b) ≡ false → (a ≡ false) × (b ≡ false)
or_parts true b h = cc
or_parts false b h = (refl, h)

pub clash : (b : Bool) → b ≡ true → b ≡ false → ⊥
clash true p q = cc
clash false p q = cc

-- a number that no test finds stands nowhere
absent : (own : ℕ) (links : List ℕ) (i : ℕ) → list_any (nat_eq own) links ≡ false → i < length links → get_or links i 0 ≡ own → ⊥
absent own [] i h l e = absurd (omega arith)
absent own (x ∷ xs) zero h l e = clash (nat_eq own x) (eq-eqb own x (sym e)) (or_parts (nat_eq own x) (list_any (nat_eq own) xs) h).0
absent own (x ∷ xs) (suc i) h l e = let less : i < length xs = omega arith in absent own xs i (or_parts (nat_eq own x) (list_any (nat_eq own) xs) h).1 less e

module _ (owns links numbers : List ℕ) (own number : ℕ) (numbering : IsNumbering owns links numbers) where
  -- one more row, where `wide` begins with the links
  numbered : (wide : List ℕ) → ((n : ℕ) → n < length links → (n < length wide) × (get_or wide n 0 ≡ get_or links n 0)) → length wide ≤ suc (length links)
      → ((i j : ℕ) → i < length wide → j < length wide → get_or wide i 0 ≡ get_or wide j 0 → i ≡ j) → ((n : ℕ) → n < length wide → (n < length links) ⊎ (number ≡ n)) → number < length wide → get_or wide number 0 ≡ own
      → IsNumbering (owns ++ (own ∷ [])) wide (numbers ++ (number ∷ []))
  numbered wide begins few distinct old_or_new within named = record {
    size = omega (arith, numbering.size, length-append numbers (number ∷ []), length-append owns (own ∷ []));
    distinct = distinct;
    below = All-push (λ n. n < length wide) numbers number (All-weaker (λ n. n < length links) (λ n. n < length wide) (λ n h. (begins n h).0) numbers numbering.below) within;
    named = λ i h. elim (get_or_snoc numbers number i 0 h) [
      | inl p ↦
          ap (λ n. get_or wide n 0) p.1 ∙ (begins (get_or numbers i 0) (numbering.below i 0 p.0)).1 ∙ numbering.named i p.0
          ∙ sym (get_or_append_left owns (own ∷ []) 0 i (omega (arith, p.0, numbering.size)))
      | inr p ↦ ap (λ n. get_or wide n 0) p.1 ∙ named ∙ sym (get_or_last owns own 0) ∙ ap (λ k. get_or (owns ++ (own ∷ [])) k 0) (sym numbering.size ∙ sym p.0)
    ];
    used = λ n h. elim (old_or_new n h) [
      | inl l ↦ Contains-append_left numbers (number ∷ []) n (numbering.used n l)
      | inr e ↦ subst (Contains (numbers ++ (number ∷ []))) e (Contains-push numbers number)
    ];
    few = omega (arith, few, numbering.few, length-append owns (own ∷ []));
  }

  at-end : list_any (nat_eq own) links ≡ false → number < length (links ++ (own ∷ [])) → get_or (links ++ (own ∷ [])) number 0 ≡ own → number ≡ length links
  at-end missing within named = elim (get_or_snoc links own number 0 within) [ inl p ↦ absurd (absent own links number missing p.0 (sym p.1 ∙ named)) | inr p ↦ p.0 ]

  numbered_by : (b : Bool) → list_any (nat_eq own) links ≡ b → number < length (if b then links else links ++ (own ∷ [])) → get_or (if b then links else links ++ (own ∷ [])) number 0 ≡ own
      → IsNumbering (owns ++ (own ∷ [])) (if b then links else links ++ (own ∷ [])) (numbers ++ (number ∷ []))
  numbered_by true found within named = numbered links (λ n h. (h, refl)) (omega arith) numbering.distinct (λ n h. inl h) within named
  numbered_by false missing within named =
      numbered (links ++ (own ∷ [])) (λ n h. (omega (arith, h, length-append links (own ∷ [])), get_or_append_left links (own ∷ []) 0 n h)) (omega (arith, length-append links (own ∷ [])))
      (λ i j hi hj e. elim (get_or_snoc links own i 0 hi) [
        | inl p ↦ elim (get_or_snoc links own j 0 hj) [
          | inl q ↦ numbering.distinct i j p.0 q.0 (sym p.1 ∙ e ∙ q.1)
          | inr q ↦ absurd (absent own links i missing p.0 (sym p.1 ∙ e ∙ q.1))
        ]
        | inr p ↦ elim (get_or_snoc links own j 0 hj) [
          | inl q ↦ absurd (absent own links j missing q.0 (sym q.1 ∙ sym e ∙ p.1))
          | inr q ↦ p.0 ∙ sym q.0
        ]
      ])
      (λ n h. elim (get_or_snoc links own n 0 h) [ inl p ↦ inl p.0 | inr p ↦ inr (at-end missing within named ∙ sym p.0) ]) within named

  -- the link of the row has been inserted, and stands at this number
  pub numbering_more : number < length (insert_key nat_eq links own) → get_or (insert_key nat_eq links own) number 0 ≡ own → IsNumbering (owns ++ (own ∷ [])) (insert_key nat_eq links own) (numbers ++ (number ∷ []))
  numbering_more within named = numbered_by (list_any (nat_eq own) links) refl within named

module _ {X Y : Type 0} (f : X → Y) where
  pub map_snoc : (xs : List X) (x : X) → map f (xs ++ (x ∷ [])) ≡ map f xs ++ (f x ∷ [])
  map_snoc [] x = refl
  map_snoc (y ∷ ys) x = ap (λ l. f y ∷ l) (map_snoc ys x)

-- one link more at most
pub inserted_few : (links now : List ℕ) (link n : ℕ) → now ≡ insert_key nat_eq links link → length links ≤ n → length now ≤ suc n
inserted_few links now link n is few = by (list_any (nat_eq link) links) (ap length is)
  where
    by : (b : Bool) → length now ≡ length (if b then links else links ++ (link ∷ [])) → length now ≤ suc n
    by true e = omega (arith, e, few)
    by false e = omega (arith, e, few, length-append links (link ∷ []))
