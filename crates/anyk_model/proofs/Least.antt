-- The best list of a ranking has the least witness of each row.
use Rattle.std.proofs.Common.{◌≡◌, ℕ, List, [], ◌∷◌, ◌++◌, inl, inr, refl, sym, ap, subst}
use Rattle.rankings.specs.Order.{IsMember, IsAscending, IsRanking}
use Rattle.rankings.proofs.Members.{below_member, member_left, member_right, member_either}
use Rattle.anyk_model.specs.Table.{Table}
use Rattle.anyk_model.specs.Query.{Query, key_of}
use Rattle.anyk_model.specs.Ranking.{Precedes, ranking_of}
use Rattle.anyk_model.proofs.Exists.{ranking_is}
use Rattle.anyk_model.specs.ListOrder.{before_asym, before_irrefl}
use Rattle.anyk_model.specs.BestList.{best_list, IsFirstOfRow, IsLeastOfRow}
use Rattle.anyk_model.proofs.Best.{best_first, first_best, best_ascending}

-- what is before a member, and what is after it
split_at : {A : Type 0} (x : A) (xs : List A) → IsMember x xs → (before : List A) × (after : List A) × (xs ≡ before ++ x ∷ after)
split_at x [] m = absurd m
split_at {A} x (y ∷ xs) (inl e) = ([], xs, ap (λ (z : A). z ∷ xs) (sym e))
split_at {A} x (y ∷ xs) (inr m) = let p = split_at x xs m in (y ∷ p.0, p.1, ap (λ (l : List A). y ∷ l) p.2)

module _ {A : Type 0} (Below : A → A → Type 0) (x : A) where
  all_before : (before after : List A) → IsAscending Below (before ++ x ∷ after) → (y : A) → IsMember y before → Below y x
  all_before [] after up y m = absurd m
  all_before (z ∷ before) after up y (inl e) = subst (λ w. Below w x) (sym e) (below_member Below z x (before ++ x ∷ after) up.0 (member_right x before (x ∷ after) (inl refl)))
  all_before (z ∷ before) after up y (inr m) = all_before before after up.1 y m

  all_after : (before after : List A) → IsAscending Below (before ++ x ∷ after) → (y : A) → IsMember y after → Below x y
  all_after [] after up y m = below_member Below x y after up.0 m
  all_after (z ∷ before) after up y m = all_after before after up.1 y m

module _ (query : Query) (tables : List Table) (item : ℕ) where
  -- the first member with its row is the least
  first_least : (rows : List ℕ) → IsFirstOfRow item rows (ranking_of query tables) → IsLeastOfRow query tables item rows
  first_least rows f =
      let ranking = ranking_is query tables in
      let up : IsAscending (Precedes query tables) (f.before ++ rows ∷ f.after) = subst (IsAscending (Precedes query tables)) f.parts ranking.ascending in
      record {
        witness = ranking.sound rows (subst (IsMember rows) (sym f.parts) (member_right rows f.before (rows ∷ f.after) (inl refl)));
        least = λ other w same earlier.
            elim (member_either other f.before (rows ∷ f.after) (subst (IsMember other) f.parts (ranking.complete other w))) [
              | inl m ↦ f.others other m same
              | inr m ↦ elim m [
                | inl e ↦ before_irrefl (key_of query tables rows) (subst (λ z. Precedes query tables z rows) e earlier)
                | inr later ↦ before_asym (key_of query tables other) (key_of query tables rows) earlier (all_after (Precedes query tables) rows f.before f.after up other later)
              ]
            ];
      }

  -- and the least is the first
  least_first : (rows : List ℕ) → IsLeastOfRow query tables item rows → IsFirstOfRow item rows (ranking_of query tables)
  least_first rows l =
      let ranking = ranking_is query tables in
      let s = split_at rows (ranking_of query tables) (ranking.complete rows l.witness) in
      let up : IsAscending (Precedes query tables) (s.0 ++ rows ∷ s.1) = subst (IsAscending (Precedes query tables)) s.2 ranking.ascending in
      record {
        before = s.0;
        after = s.1;
        parts = s.2;
        others = λ other m same. l.least other (ranking.sound other (subst (IsMember other) (sym s.2) (member_left other s.0 (rows ∷ s.1) m))) same
            (all_before (Precedes query tables) rows s.0 s.1 up other m);
      }

  pub best_ranking : IsRanking (List ℕ) (Precedes query tables) (IsLeastOfRow query tables item) (best_list item (ranking_of query tables))
  best_ranking = record {
    ascending = best_ascending (Precedes query tables) item (ranking_of query tables) (ranking_is query tables).ascending;
    sound = λ rows m. first_least rows (best_first item rows (ranking_of query tables) m);
    complete = λ rows l. first_best item rows (ranking_of query tables) (least_first rows l);
  }
