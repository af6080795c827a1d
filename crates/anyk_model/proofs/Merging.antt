-- One step of a merge: the first of the branches' heads is the head of what is left.
use Rattle.std.proofs.Common.{◌≡◌, ◌≢◌, ◌<◌, ◌⊎◌, ◌∙◌, ℕ, zero, suc, ℤ, pos, ◌<ℤ◌, List, [], ◌∷◌, length, get_or, inl, inr, refl, sym, ap, subst, arith}
use Rattle.std.proofs.Math.ListN.{set}
use Rattle.std.proofs.lemmas.Bool.{cases_eq}
use Rattle.std.proofs.lemmas.Int.{ints}
use Rattle.std.proofs.lemmas.List.{get_or-set_other, get_or-set_same, length-map}
use Rattle.rankings.specs.Order.{BelowAll, IsAscending, IsMember}
use Rattle.rankings.proofs.Members.{below_member}
use Rattle.rankings.proofs.Unique.{ascending_unique}
use Rattle.anyk_model.specs.Table.{Table}
use Rattle.anyk_model.specs.Query.{Query, rank_of}
use Rattle.anyk_model.specs.Ranking.{IsBefore, Precedes}
use Rattle.anyk_model.specs.ListOrder.{before_trans}
use Rattle.anyk_model.specs.TaggedRows.{PrecedesTagged, StandsBefore, Tagged, branch_at, sums_of, tagged}
use Rattle.anyk_model.specs.Union.{AreAscending, left_of}
use Rattle.anyk_model.proofs.Keys.{before_front}
use Rattle.anyk_model.specs.TaggedOrder.{tagged_order}
use Rattle.anyk_model.proofs.Unions.{left_is, same_branch}

number_before : (b c : ℕ) → b < c → pos b <ℤ pos c
number_before b c l = omega (arith, ints)

pub some_list : (lists : List (List (List ℕ))) (b : ℕ) (rows : List ℕ) (tail : List (List ℕ)) → get_or lists b [] ≡ rows ∷ tail → b < length lists
some_list [] b rows tail e = absurd (cc e)
some_list (list ∷ lists) zero rows tail e = omega arith
some_list (list ∷ lists) (suc b) rows tail e = let h = some_list lists b rows tail e in omega (arith, h)

module _ (queries : List Query) (tables : List Table) where
  abbrev Under : Tagged → Tagged → Type 0
  Under = PrecedesTagged queries tables

  -- a combination that stands before another one is before it
  stands_under : (b c : ℕ) (rows other : List ℕ) → StandsBefore queries tables b rows c other → Under (tagged b rows) (tagged c other)
  stands_under b c rows other (inl p) = inl p
  stands_under b c rows other (inr p) = inr (p.0, inl (number_before b c p.1))

  -- and it stands before all that follow the other in its branch
  stands_later : (b c : ℕ) (rows other later : List ℕ) → StandsBefore queries tables b rows c other
      → Precedes (branch_at queries c) tables other later → StandsBefore queries tables b rows c later
  stands_later b c rows other later stands p =
      elim (before_front (sums_of queries tables c other) (sums_of queries tables c later) _ _
      (length-map (branch_at queries c).order (rank_of (branch_at queries c) tables other) ∙ sym (length-map (branch_at queries c).order (rank_of (branch_at queries c) tables later))) p) [
        | inl q ↦ elim stands [
          | inl s ↦ inl (before_trans (sums_of queries tables b rows) (sums_of queries tables c other) (sums_of queries tables c later) s q)
          | inr s ↦ inl (subst (λ (xs : List ℤ). IsBefore xs (sums_of queries tables c later)) (sym s.0) q)
        ]
        | inr e ↦ elim stands [
          | inl s ↦ inl (subst (λ (xs : List ℤ). IsBefore (sums_of queries tables b rows) xs) e.0 s)
          | inr s ↦ inr (s.0 ∙ e.0, s.1)
        ]
      ]

  below_all : (x : Tagged) (list : List Tagged) → ((m : Tagged) → IsMember m list → Under x m) → BelowAll Under x list
  below_all x [] each = tt
  below_all x (m ∷ list) each = (each m (inl refl), below_all x list (λ y n. each y (inr n)))

  module _ (lists : List (List (List ℕ))) (b : ℕ) (rows : List ℕ) (tail : List (List ℕ)) (up : AreAscending queries tables lists) (at : get_or lists b [] ≡ rows ∷ tail) where
    own_list : get_or (set lists b tail) b [] ≡ tail
    own_list = get_or-set_same lists b tail [] (some_list lists b rows tail at)

    other_list : (c : ℕ) → c ≢ b → get_or (set lists b tail) c [] ≡ get_or lists c []
    other_list c apart = get_or-set_other lists b c tail [] apart

    head_up : IsAscending (Precedes (branch_at queries b) tables) (rows ∷ tail)
    head_up = subst (λ (l : List (List ℕ)). IsAscending (Precedes (branch_at queries b) tables) l) at (up b)

    -- the branch without its head
    pub tail_up : AreAscending queries tables (set lists b tail)
    tail_up c = elim (cases_eq c b) [
      | inl e ↦ subst (λ (k : ℕ). IsAscending (Precedes (branch_at queries k) tables) (get_or (set lists b tail) k [])) (sym e)
          (subst (λ (l : List (List ℕ)). IsAscending (Precedes (branch_at queries b) tables) l) (sym own_list) head_up.1)
      | inr d ↦ subst (λ (l : List (List ℕ)). IsAscending (Precedes (branch_at queries c) tables) l) (sym (other_list c d)) (up c)
    ]

    -- members of the lists before and after
    back : (m : Tagged) → IsMember m.rows (get_or (set lists b tail) m.branch []) → IsMember m.rows (get_or lists m.branch [])
    back m n = elim (cases_eq m.branch b) [
      | inl e ↦
          let n' : IsMember m.rows tail = subst (λ (l : List (List ℕ)). IsMember m.rows l) own_list (subst (λ (k : ℕ). IsMember m.rows (get_or (set lists b tail) k [])) e n) in
          subst (λ (k : ℕ). IsMember m.rows (get_or lists k [])) (sym e) (subst (λ (l : List (List ℕ)). IsMember m.rows l) (sym at) (inr n'))
      | inr d ↦ subst (λ (l : List (List ℕ)). IsMember m.rows l) (other_list m.branch d) n
    ]

    of_head : (m : Tagged) → m.branch ≡ b → IsMember m.rows (rows ∷ tail) → (m ≡ tagged b rows) ⊎ IsMember m.rows (get_or (set lists b tail) m.branch [])
    of_head m e (inl f) = let same : tagged m.branch m.rows ≡ tagged b rows = ap (λ (k : ℕ). tagged k m.rows) e ∙ ap (tagged b) f in inl same
    of_head m e (inr f) =
        let there : IsMember m.rows (get_or (set lists b tail) b []) = subst (λ (l : List (List ℕ)). IsMember m.rows l) (sym own_list) f in
        inr (subst (λ (k : ℕ). IsMember m.rows (get_or (set lists b tail) k [])) (sym e) there)

    apart : (m : Tagged) → IsMember m.rows (get_or lists m.branch []) → (m ≡ tagged b rows) ⊎ IsMember m.rows (get_or (set lists b tail) m.branch [])
    apart m n = elim (cases_eq m.branch b) [
      | inl e ↦ of_head m e (subst (λ (l : List (List ℕ)). IsMember m.rows l) at (subst (λ (k : ℕ). IsMember m.rows (get_or lists k [])) e n))
      | inr d ↦ inr (subst (λ (l : List (List ℕ)). IsMember m.rows l) (sym (other_list m.branch d)) n)
    ]

    module _ (least : (c : ℕ) (other : List ℕ) (others : List (List ℕ)) → c ≢ b → get_or lists c [] ≡ other ∷ others → StandsBefore queries tables b rows c other) where
      before_list : (c : ℕ) (r : List ℕ) → c ≢ b → (l : List (List ℕ)) → get_or lists c [] ≡ l → IsMember r l → StandsBefore queries tables b rows c r
      before_list c r d [] is n = absurd n
      before_list c r d (other ∷ others) is (inl e) = subst (λ (x : List ℕ). StandsBefore queries tables b rows c x) (sym e) (least c other others d is)
      before_list c r d (other ∷ others) is (inr n) =
          let ascends : IsAscending (Precedes (branch_at queries c) tables) (other ∷ others) = subst (λ (l : List (List ℕ)). IsAscending (Precedes (branch_at queries c) tables) l) is (up c) in
          stands_later b c rows other r (least c other others d is) (below_member (Precedes (branch_at queries c) tables) other r others ascends.0 n)

      under : (m : Tagged) → IsMember m.rows (get_or (set lists b tail) m.branch []) → Under (tagged b rows) m
      under m n = elim (cases_eq m.branch b) [
        | inl e ↦
            let n' : IsMember m.rows tail = subst (λ (l : List (List ℕ)). IsMember m.rows l) own_list (subst (λ (k : ℕ). IsMember m.rows (get_or (set lists b tail) k [])) e n) in
            let p : Under (tagged b rows) (tagged b m.rows) = same_branch queries tables b rows m.rows (below_member (Precedes (branch_at queries b) tables) rows m.rows tail head_up.0 n') in
            subst (λ (k : ℕ). Under (tagged b rows) (tagged k m.rows)) (sym e) p
        | inr d ↦
            stands_under b m.branch rows m.rows
            (before_list m.branch m.rows d (get_or lists m.branch []) refl (subst (λ (l : List (List ℕ)). IsMember m.rows l) (other_list m.branch d) n))
      ]

      -- The head that stands before all other branches' heads is the head of what is left.
      pub merge_step : left_of queries tables lists ≡ tagged b rows ∷ left_of queries tables (set lists b tail)
      merge_step =
          let now = left_is queries tables lists in
          let then = left_is queries tables (set lists b tail) in
          ascending_unique Under (tagged_order queries tables) (left_of queries tables lists) (tagged b rows ∷ left_of queries tables (set lists b tail))
          now.ascending (below_all (tagged b rows) (left_of queries tables (set lists b tail)) (λ m n. under m (then.sound m n)), then.ascending)
          (λ m n. elim (apart m (now.sound m n)) [ inl e ↦ inl e | inr later ↦ inr (then.complete m later) ])
          (λ m n. elim n [
            | inl e ↦ subst (λ (t : Tagged). IsMember t (left_of queries tables lists)) (sym e) (now.complete (tagged b rows) (subst (λ (l : List (List ℕ)). IsMember rows l) (sym at) (inl refl)))
            | inr later ↦ now.complete m (back m (then.sound m later))
          ])

-- nothing is left if every list is empty
pub merge_end : (queries : List Query) (tables : List Table) (lists : List (List (List ℕ))) → ((c : ℕ) → get_or lists c [] ≡ []) → left_of queries tables lists ≡ []
merge_end queries tables lists none = by (left_of queries tables lists) (left_is queries tables lists).sound
  where
    by : (list : List Tagged) → ((m : Tagged) → IsMember m list → IsMember m.rows (get_or lists m.branch [])) → list ≡ []
    by [] sound = refl
    by (m ∷ list) sound = absurd (subst (λ (l : List (List ℕ)). IsMember m.rows l) (none m.branch) (sound m (inl refl)))
