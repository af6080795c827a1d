-- The members of a best list, and their order.
use Rattle.std.proofs.Common.{◌≡◌, ◌≢◌, ◌==◌, ◌∙◌, ℕ, Bool, true, false, not, List, [], ◌∷◌, ◌++◌, slice_index, inl, inr, refl, sym, ap, subst}
use Rattle.std.proofs.lemmas.Bool.{eqb-true, eq-eqb, false≢true}
use Rattle.rankings.specs.Order.{IsMember, BelowAll, IsAscending}
use Rattle.anyk_model.specs.BestList.{same_row, best_list, IsFirstOfRow}
use Rattle.rankings.proofs.Members.{kept_member, member_kept}
use Rattle.rankings.proofs.Ascending.{ascending_filter, below_filter}

other_row : (a b : ℕ) → not (a == b) ≡ true → a ≢ b
other_row a b e same = by (a == b) refl e
  where
    by : (t : Bool) → (a == b) ≡ t → not t ≡ true → ⊥
    by true is h = false≢true h
    by false is h = false≢true (sym is ∙ eq-eqb a b same)

row_other : (a b : ℕ) → a ≢ b → not (a == b) ≡ true
row_other a b apart = by (a == b) refl
  where
    by : (t : Bool) → (a == b) ≡ t → not t ≡ true
    by true is = absurd (apart (eqb-true a b is))
    by false is = refl

pub best_first : (item : ℕ) (rows : List ℕ) (list : List (List ℕ)) → IsMember rows (best_list item list) → IsFirstOfRow item rows list
best_first item rows [] m = absurd m
best_first item rows (x ∷ list) (inl e) = record { before = []; after = list; parts = ap (λ (r : List ℕ). r ∷ list) (sym e); others = λ other n. absurd n }
best_first item rows (x ∷ list) (inr m) =
    let p = kept_member (λ other. not (same_row item x other)) rows (best_list item list) m in
    let f = best_first item rows list p.0 in
    let apart = other_row (slice_index x item) (slice_index rows item) p.1 in
    record {
      before = x ∷ f.before;
      after = f.after;
      parts = ap (λ (l : List (List ℕ)). x ∷ l) f.parts;
      others = λ other n. elim n [ inl e ↦ subst (λ (o : List ℕ). slice_index o item ≢ slice_index rows item) (sym e) apart | inr later ↦ f.others other later ];
    }

first_best_at : (item : ℕ) (rows : List ℕ) (before after : List (List ℕ)) → ((other : List ℕ) → IsMember other before → slice_index other item ≢ slice_index rows item)
    → IsMember rows (best_list item (before ++ rows ∷ after))
first_best_at item rows [] after others = inl refl
first_best_at item rows (x ∷ before) after others =
    inr (member_kept (λ other. not (same_row item x other)) rows (best_list item (before ++ rows ∷ after))
    (first_best_at item rows before after (λ other n. others other (inr n))) (row_other (slice_index x item) (slice_index rows item) (others x (inl refl))))

pub first_best : (item : ℕ) (rows : List ℕ) (list : List (List ℕ)) → IsFirstOfRow item rows list → IsMember rows (best_list item list)
first_best item rows list f = subst (λ (l : List (List ℕ)). IsMember rows (best_list item l)) (sym f.parts) (first_best_at item rows f.before f.after f.others)

-- ---- the order

module _ (Below : List ℕ → List ℕ → Type 0) (item : ℕ) where
  below_best : (x : List ℕ) (list : List (List ℕ)) → BelowAll Below x list → BelowAll Below x (best_list item list)
  below_best x [] all = tt
  below_best x (y ∷ list) all = (all.0, below_filter Below (λ other. not (same_row item y other)) x (best_list item list) (below_best x list all.1))

  -- taking elements out keeps the others in order
  pub best_ascending : (list : List (List ℕ)) → IsAscending Below list → IsAscending Below (best_list item list)
  best_ascending [] up = tt
  best_ascending (x ∷ list) up =
      let p : List ℕ → Bool = λ other. not (same_row item x other) in
      (below_filter Below p x (best_list item list) (below_best x list up.0), ascending_filter Below p (best_list item list) (best_ascending list up.1))
