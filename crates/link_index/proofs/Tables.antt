-- Tables of the numbers of links.
use Rattle.std.proofs.Common.{◌≡◌, ◌≢◌, ℕ, ◌+◌, ◌<◌, ◌≤◌, inl, inr, false, cond, nat_eq, List, [], ◌∷◌, ◌++◌, length, get_or, position, Some, None, sym, ap, ◌∙◌, arith, eq-eqb, length-append, if◌then◌else◌}
use Rattle.std.specs.List.{position_or_len}
use Rattle.std.proofs.Math.ListN.{set}
use Rattle.std.proofs.lemmas.Bool.{cases_eq, le-ltb, lt-ltb}
use Rattle.std.proofs.lemmas.List.{get_or-set_same, get_or-set_other, get_or_append_left, get_or_push}
use Rattle.std.proofs.lemmas.List.Elements.{All-from_get_or}
use Rattle.std.proofs.lemmas.List.Folds.{list_any_at, list_any_none}
use Rattle.std.proofs.lemmas.List.Sums.{position_or_len_is}
use Rattle.indexmap.specs.IndexSet.{insert_key}
use Rattle.link_index.specs.LinkTable.{IsTableOf}
use Rattle.link_index.proofs.Lists.{eqb_false, get_or_snoc}

module _ (table links : List ℕ) (t : IsTableOf table links) where
  -- a longer table has the same links
  pub table_same : (other : List ℕ) → ((i : ℕ) → get_or other i 0 ≡ get_or table i 0) → IsTableOf other links
  table_same other same = record {
    numbered = λ link k e. t.numbered link k (sym (same link) ∙ e);
    whole = λ k h. same (get_or links k 0) ∙ t.whole k h;
  }

  at_place : (link n i : ℕ) → get_or table link 0 ≡ n + 1 → i < length links → link ≡ get_or links i 0 → i ≡ n
  at_place link n i e h same = let there : get_or table link 0 ≡ i + 1 = ap (λ x. get_or table x 0) same ∙ t.whole i h in omega (arith, e, there)

  not_there : (link i : ℕ) → get_or table link 0 ≡ 0 → i < length links → link ≢ get_or links i 0
  not_there link i e h same = let there : get_or table link 0 ≡ i + 1 = ap (λ x. get_or table x 0) same ∙ t.whole i h in omega (arith, e, there)

  -- a link with a number in the table has that place
  pub found : (link n : ℕ) → get_or table link 0 ≡ n + 1 → position (nat_eq link) links ≡ Some n
  found link n e =
      let here = t.numbered link n e in
      let is : position_or_len (nat_eq link) links ≡ n =
      position_or_len_is (nat_eq link) links n 0 (omega (arith, here.0))
      (λ i h. eqb_false link (get_or links i 0) (λ same. let at : i ≡ n = at_place link n i e (omega (arith, h, here.0)) same in omega (arith, at, h)))
      (λ h. eq-eqb link (get_or links n 0) (sym here.1)) in
      let less : position_or_len (nat_eq link) links < length links = omega (arith, is, here.0) in
      ap (λ b. cond b (Some (position_or_len (nat_eq link) links)) None) (lt-ltb (position_or_len (nat_eq link) links) (length links) less) ∙ ap (λ k. Some k) is

  none_is : (link i : ℕ) → get_or table link 0 ≡ 0 → i < length links → nat_eq link (get_or links i 0) ≡ false
  none_is link i e h = eqb_false link (get_or links i 0) (not_there link i e h)

  -- a link without a number in the table is not there
  pub missing : (link : ℕ) → get_or table link 0 ≡ 0 → position (nat_eq link) links ≡ None
  missing link e =
      let is : position_or_len (nat_eq link) links ≡ length links =
      position_or_len_is (nat_eq link) links (length links) 0 (omega arith) (λ i h. none_is link i e h) (λ h. absurd (omega (arith, h))) in
      let past : length links ≤ position_or_len (nat_eq link) links = omega (arith, is) in
      ap (λ b. cond b (Some (position_or_len (nat_eq link) links)) None) (le-ltb (position_or_len (nat_eq link) links) (length links) past)

  -- so the one is not inserted
  pub stays : (link n : ℕ) → get_or table link 0 ≡ n + 1 → links ≡ insert_key nat_eq links link
  stays link n e =
      let here = t.numbered link n e in
      sym (ap (λ b. if b then links else links ++ link ∷ []) (list_any_at (nat_eq link) links n 0 here.0 (eq-eqb link (get_or links n 0) (sym here.1))))

  -- and the other one is
  pub goes_last : (link : ℕ) → get_or table link 0 ≡ 0 → links ++ link ∷ [] ≡ insert_key nat_eq links link
  goes_last link e =
      sym (ap (λ b. if b then links else links ++ link ∷ []) (list_any_none (nat_eq link) links (All-from_get_or (λ x. nat_eq link x ≡ false) links 0 (λ i h. none_is link i e h))))

  -- one link more
  pub table_more : (link : ℕ) → link < length table → get_or table link 0 ≡ 0 → IsTableOf (set table link (length links + 1)) (links ++ link ∷ [])
  table_more link inside e = record { numbered = numbered_more; whole = whole_more }
    where
      last : ℕ
      last = length links + 1

      long : length (links ++ link ∷ []) ≡ length links + 1
      long = length-append links (link ∷ [])

      numbered_more : (x n : ℕ) → get_or (set table link last) x 0 ≡ n + 1 → (n < length (links ++ link ∷ [])) × (get_or (links ++ link ∷ []) n 0 ≡ x)
      numbered_more x n h = elim (cases_eq x link) [
        | inl same ↦
            let put : get_or (set table link last) x 0 ≡ last = ap (λ y. get_or (set table link last) y 0) same ∙ get_or-set_same table link last 0 inside in
            let at : length links ≡ n = omega (arith, h, put) in
            (omega (arith, long, at), get_or_push links link 0 n at ∙ sym same)
        | inr other ↦
            let old = t.numbered x n (sym (get_or-set_other table link x last 0 other) ∙ h) in
            (omega (arith, long, old.0), get_or_append_left links (link ∷ []) 0 n old.0 ∙ old.1)
      ]

      whole_more : (n : ℕ) → n < length (links ++ link ∷ []) → get_or (set table link last) (get_or (links ++ link ∷ []) n 0) 0 ≡ n + 1
      whole_more n h = elim (get_or_snoc links link n 0 h) [
        | inl p ↦
            let other : get_or links n 0 ≢ link = λ same. not_there link n e p.0 (sym same) in
            ap (λ y. get_or (set table link last) y 0) p.1 ∙ get_or-set_other table link (get_or links n 0) last 0 other ∙ t.whole n p.0
        | inr p ↦
            ap (λ y. get_or (set table link last) y 0) p.1 ∙ get_or-set_same table link last 0 inside ∙ ap (λ k. k + 1) (sym p.0)
      ]
