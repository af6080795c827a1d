-- Counting how many times a key names each column.
use Rattle.std.proofs.Common.{◌≡◌, ◌⊎◌, ◌+◌, ◌*◌, ◌<◌, ◌≤◌, ℕ, zero, suc, Bool, true, false, if◌then◌else◌, ℤ, pos, ◌+ℤ◌, ◌-ℤ◌, ◌*ℤ◌, neg_ℤ, List, [], ◌∷◌, ◌++◌, map, length, get_or, set, Option, Some, None, refl, sym, ap, subst, ◌∙◌, inl, inr, arith}
use Rattle.std.specs.Option.{option_or}
use lib.IntN.{suc_ℤ-*ℤ, pred_ℤ-*ℤ, zero-*ℤ, +ℤ_one, -ℤ_one}
use Rattle.std.proofs.lemmas.Int.{ints}
use Rattle.std.proofs.lemmas.List.{map-append}
use Rattle.std.proofs.Math.Seq.{map-set_same}
use Rattle.anyk_model.specs.Query.{Column, Term, total}
use Rattle.rankings.specs.Order.{IsMember}
use Rattle.query_bind.specs.Names.{first_of}
use Rattle.bound_query.specs.KeyParts.{sum_of_all}
use Rattle.bound_query.specs.StoredParts.{column_view}
use Rattle.query_bind.specs.Tallies.{AreTallies, StandOnce, columns_of, tally_size, tally_worth, term_worth, with_one}
use Rattle.query_bind.specs.declared.fault.BindFault.{BindFault}
use Rattle.query_bind.specs.declared.tallies.Tally.{Tally}
use Rattle.query_bind.proofs.Collect.{first_of_append, option_or_assoc}
use Rattle.rankings.proofs.Members.{member_last, member_left, member_parts}

-- ---- sums over lists

pub total_append : (xs ys : List ℤ) → total (xs ++ ys) ≡ total xs +ℤ total ys
total_append [] ys = omega (arith, ints)
total_append (x ∷ xs) ys = let h = total_append xs ys in omega (arith, ints, h)

pub sum_append : (xs ys : List ℕ) → sum_of_all (xs ++ ys) ≡ sum_of_all xs + sum_of_all ys
sum_append [] ys = omega arith
sum_append (x ∷ xs) ys = let h = sum_append xs ys in omega (arith, h)

module _ {A : Type 0} where
  pub total_push : (f : A → ℤ) (xs : List A) (x : A) → total (map f (xs ++ x ∷ [])) ≡ total (map f xs) +ℤ f x
  total_push f xs x =
      let h = total_append (map f xs) (f x ∷ []) in
      ap total (map-append f xs (x ∷ [])) ∙ omega (arith, ints, h)

  pub sum_push : (f : A → ℕ) (xs : List A) (x : A) → sum_of_all (map f (xs ++ x ∷ [])) ≡ sum_of_all (map f xs) + f x
  sum_push f xs x =
      let h = sum_append (map f xs) (f x ∷ []) in
      ap sum_of_all (map-append f xs (x ∷ [])) ∙ omega (arith, h)

  pub total_set : (f : A → ℤ) (xs : List A) (j : ℕ) (d y : A) (more : ℤ) → j < length xs → f y ≡ f (get_or xs j d) +ℤ more
      → total (map f (set xs j y)) ≡ total (map f xs) +ℤ more
  total_set f [] j d y more h e = absurd (omega arith)
  total_set f (x ∷ xs) zero d y more h e = omega (arith, ints, e)
  total_set f (x ∷ xs) (suc j) d y more h e = let rest = total_set f xs j d y more (omega (arith, h)) e in omega (arith, ints, rest)

  pub sum_set : (f : A → ℕ) (xs : List A) (j : ℕ) (d y : A) (more : ℕ) → j < length xs → f y ≡ f (get_or xs j d) + more
      → sum_of_all (map f (set xs j y)) ≡ sum_of_all (map f xs) + more
  sum_set f [] j d y more h e = absurd (omega arith)
  sum_set f (x ∷ xs) zero d y more h e = omega (arith, e)
  sum_set f (x ∷ xs) (suc j) d y more h e = let rest = sum_set f xs j d y more (omega (arith, h)) e in omega (arith, rest)

  pub at_most_sum : (f : A → ℕ) (xs : List A) (j : ℕ) (d : A) → j < length xs → f (get_or xs j d) ≤ sum_of_all (map f xs)
  at_most_sum f [] j d h = absurd (omega arith)
  at_most_sum f (x ∷ xs) zero d h = omega arith
  at_most_sum f (x ∷ xs) (suc j) d h = let rest = at_most_sum f xs j d (omega (arith, h)) in omega (arith, rest)

  pub member_set : (x : A) (xs : List A) (j : ℕ) (y : A) → IsMember x (set xs j y) → IsMember x xs ⊎ (x ≡ y)
  member_set x [] j y m = inl m
  member_set x (z ∷ xs) zero y (inl e) = inr e
  member_set x (z ∷ xs) zero y (inr m) = inl (inr m)
  member_set x (z ∷ xs) (suc j) y (inl e) = inl (inl e)
  member_set x (z ∷ xs) (suc j) y (inr m) = elim (member_set x xs j y m) [ inl a ↦ inl (inr a) | inr b ↦ inr b ]

  pub at_member : (xs : List A) (j : ℕ) (d : A) → j < length xs → IsMember (get_or xs j d) xs
  at_member [] j d h = absurd (omega arith)
  at_member (x ∷ xs) zero d h = inl refl
  at_member (x ∷ xs) (suc j) d h = inr (at_member xs j d (omega (arith, h)))

  -- an element with the same first fault as another one adds none
  pub first_again : (f : A → Option BindFault) (xs : List A) (j : ℕ) (d : A) → j < length xs → option_or (first_of f xs) (f (get_or xs j d)) ≡ first_of f xs
  first_again f [] j d h = absurd (omega arith)
  first_again f (x ∷ xs) zero d h = by_fault (f x) (first_of f xs)
    where
      by_fault : (a b : Option BindFault) → option_or (option_or a b) a ≡ option_or a b
      by_fault None None = refl
      by_fault None (Some e) = refl
      by_fault (Some e) b = refl
  first_again f (x ∷ xs) (suc j) d h =
      option_or_assoc (f x) (first_of f xs) (f (get_or xs j d)) ∙ ap (option_or (f x)) (first_again f xs j d (omega (arith, h)))

  pub first_set : (f : A → Option BindFault) (xs : List A) (j : ℕ) (d y : A) → f y ≡ f (get_or xs j d) → first_of f (set xs j y) ≡ first_of f xs
  first_set f [] j d y e = refl
  first_set f (x ∷ xs) zero d y e = ap (λ (o : Option BindFault). option_or o (first_of f xs)) e
  first_set f (x ∷ xs) (suc j) d y e = ap (option_or (f x)) (first_set f xs j d y e)

-- ---- one more term

net_more : (p m : ℕ) (x : ℤ) → (pos (p + 1) -ℤ pos m) *ℤ x ≡ (pos p -ℤ pos m) *ℤ x +ℤ x
net_more p m x =
    let one : pos (p + 1) -ℤ pos m ≡ (pos p -ℤ pos m) +ℤ pos 1 = omega (arith, ints) in
    ap (λ (z : ℤ). z *ℤ x) (one ∙ +ℤ_one (pos p -ℤ pos m)) ∙ suc_ℤ-*ℤ (pos p -ℤ pos m) x

net_less : (p m : ℕ) (x : ℤ) → (pos p -ℤ pos (m + 1)) *ℤ x ≡ (pos p -ℤ pos m) *ℤ x +ℤ neg_ℤ x
net_less p m x =
    let one : pos p -ℤ pos (m + 1) ≡ (pos p -ℤ pos m) -ℤ pos 1 = omega (arith, ints) in
    ap (λ (z : ℤ). z *ℤ x) (one ∙ -ℤ_one (pos p -ℤ pos m)) ∙ pred_ℤ-*ℤ (pos p -ℤ pos m) x

one_column : (b : Bool) (y : Tally) → (with_one b y).column ≡ y.column
one_column true y = refl
one_column false y = refl

one_worth : (worth : Column → ℤ) (b : Bool) (y : Tally)
    → tally_worth worth (with_one b y) ≡ tally_worth worth y +ℤ (if b then neg_ℤ (worth (column_view y.column)) else worth (column_view y.column))
one_worth worth true y = net_less y.plus y.minus (worth (column_view y.column))
one_worth worth false y = net_more y.plus y.minus (worth (column_view y.column))

times_more : (n s : ℕ) → (n + 1) * s ≡ n * s + s
times_more n s = omega arith

one_size : (size : Column → ℕ) (b : Bool) (y : Tally) → tally_size size (with_one b y) ≡ tally_size size y + size (column_view y.column)
one_size size true y =
    let e : y.plus + (y.minus + 1) ≡ (y.plus + y.minus) + 1 = omega arith in
    ap (λ (n : ℕ). n * size (column_view y.column)) e ∙ times_more (y.plus + y.minus) (size (column_view y.column))
one_size size false y =
    let e : (y.plus + 1) + y.minus ≡ (y.plus + y.minus) + 1 = omega arith in
    ap (λ (n : ℕ). n * size (column_view y.column)) e ∙ times_more (y.plus + y.minus) (size (column_view y.column))

pub tallies_none : AreTallies [] []
tallies_none = record { worth = λ worth. refl; size = λ size. refl; fault = λ fault_at. refl; named = λ y m. absurd m }

module _ (terms : List Term) (ys : List Tally) (t : Term) (so_far : AreTallies terms ys) where
  abbrev more : List Term
  more = terms ++ t ∷ []

  named_more : (y : Tally) → IsMember y ys → (s : Term) × IsMember s more × (s.column ≡ column_view y.column)
  named_more y m = let n = so_far.named y m in (n.0, member_left n.0 terms (t ∷ []) n.1, n.2)

  -- a column that was named before
  pub tallies_again : (j : ℕ) (d : Tally) → j < length ys → column_view (get_or ys j d).column ≡ t.column
      → AreTallies more (set ys j (with_one t.minus (get_or ys j d)))
  tallies_again j d h same =
      let old = get_or ys j d in
      let new = with_one t.minus old in
      let column : column_view new.column ≡ column_view old.column = ap column_view (one_column t.minus old) in
      record {
        worth = λ worth.
            let value : (if t.minus then neg_ℤ (worth (column_view old.column)) else worth (column_view old.column)) ≡ term_worth worth t =
            ap (λ (c : Column). if t.minus then neg_ℤ (worth c) else worth c) same in
            total_push (term_worth worth) terms t ∙ ap (λ (z : ℤ). z +ℤ term_worth worth t) (so_far.worth worth)
            ∙ sym (total_set (tally_worth worth) ys j d new (term_worth worth t) h (one_worth worth t.minus old ∙ ap (λ (z : ℤ). tally_worth worth old +ℤ z) value));
        size = λ size.
            sum_push (λ (s : Term). size s.column) terms t ∙ ap (λ (n : ℕ). n + size t.column) (so_far.size size)
            ∙ sym (sum_set (tally_size size) ys j d new (size t.column) h (one_size size t.minus old ∙ ap (λ (c : Column). tally_size size old + size c) same));
        fault = λ fault_at.
            let f : Tally → Option BindFault = λ (y : Tally). fault_at (column_view y.column) in
            first_of_append (λ (s : Term). fault_at s.column) terms (t ∷ [])
            ∙ ap (λ (o : Option BindFault). option_or o (option_or (fault_at t.column) None)) (so_far.fault fault_at)
            ∙ ap (option_or (first_of f ys)) (or_none (fault_at t.column) ∙ ap fault_at (sym same))
            ∙ first_again f ys j d h ∙ sym (first_set f ys j d new (ap fault_at column));
        named = λ y m. elim (member_set y ys j new m) [
          | inl old_one ↦ named_more y old_one
          | inr e ↦ (t, member_last t terms, sym same ∙ sym column ∙ ap (λ (z : Tally). column_view z.column) (sym e))
        ];
      }
    where
      or_none : (o : Option BindFault) → option_or o None ≡ o
      or_none None = refl
      or_none (Some e) = refl

  -- a column that is named for the first time
  pub tallies_first : (fresh : Tally) → column_view fresh.column ≡ t.column → fresh.plus ≡ 0 → fresh.minus ≡ 0
      → AreTallies more (ys ++ with_one t.minus fresh ∷ [])
  tallies_first fresh same no_plus no_minus =
      let new = with_one t.minus fresh in
      let column : column_view new.column ≡ column_view fresh.column = ap column_view (one_column t.minus fresh) in
      record {
        worth = λ worth.
            let value : (if t.minus then neg_ℤ (worth (column_view fresh.column)) else worth (column_view fresh.column)) ≡ term_worth worth t =
            ap (λ (c : Column). if t.minus then neg_ℤ (worth c) else worth c) same in
            let none : tally_worth worth fresh ≡ pos 0 =
            ap (λ (n : ℕ). (pos n -ℤ pos fresh.minus) *ℤ worth (column_view fresh.column)) no_plus
            ∙ ap (λ (n : ℕ). (pos 0 -ℤ pos n) *ℤ worth (column_view fresh.column)) no_minus ∙ zero-*ℤ (worth (column_view fresh.column)) in
            let one : tally_worth worth new ≡ term_worth worth t =
            one_worth worth t.minus fresh ∙ ap (λ (z : ℤ). tally_worth worth fresh +ℤ z) value ∙ ap (λ (z : ℤ). z +ℤ term_worth worth t) none ∙ left_zero (term_worth worth t) in
            total_push (term_worth worth) terms t ∙ ap (λ (z : ℤ). z +ℤ term_worth worth t) (so_far.worth worth)
            ∙ ap (λ (z : ℤ). total (map (tally_worth worth) ys) +ℤ z) (sym one) ∙ sym (total_push (tally_worth worth) ys new);
        size = λ size.
            let zeros : fresh.plus + fresh.minus ≡ 0 = omega (arith, no_plus, no_minus) in
            let none : tally_size size fresh ≡ 0 = ap (λ (n : ℕ). n * size (column_view fresh.column)) zeros ∙ no_times (size (column_view fresh.column)) in
            let value : size (column_view fresh.column) ≡ size t.column = ap size same in
            let one : tally_size size new ≡ size t.column = omega (arith, one_size size t.minus fresh, none, value) in
            sum_push (λ (s : Term). size s.column) terms t ∙ ap (λ (n : ℕ). n + size t.column) (so_far.size size)
            ∙ ap (λ (n : ℕ). sum_of_all (map (tally_size size) ys) + n) (sym one) ∙ sym (sum_push (tally_size size) ys new);
        fault = λ fault_at.
            let f : Tally → Option BindFault = λ (y : Tally). fault_at (column_view y.column) in
            first_of_append (λ (s : Term). fault_at s.column) terms (t ∷ [])
            ∙ ap (λ (o : Option BindFault). option_or o (option_or (fault_at t.column) None)) (so_far.fault fault_at)
            ∙ ap (λ (c : Column). option_or (first_of f ys) (option_or (fault_at c) None)) (sym (column ∙ same)) ∙ sym (first_of_append f ys (new ∷ []));
        named = λ y m. elim (member_parts y new ys m) [
          | inl old_one ↦ named_more y old_one
          | inr e ↦ (t, member_last t terms, sym same ∙ sym column ∙ ap (λ (z : Tally). column_view z.column) (sym e))
        ];
      }
    where
      left_zero : (z : ℤ) → pos 0 +ℤ z ≡ z
      left_zero z = omega (arith, ints)

      no_times : (n : ℕ) → 0 * n ≡ 0
      no_times n = omega arith

-- each term is counted once
pub ones_length : {A : Type 0} (xs : List A) → sum_of_all (map (λ (x : A). 1) xs) ≡ length xs
ones_length [] = refl
ones_length (x ∷ xs) = let h = ones_length xs in omega (arith, h)

-- ---- columns that are in a list once

pub stand_push : (cs : List (ℕ × ℕ)) (c : ℕ × ℕ) → StandOnce cs → (IsMember c cs → ⊥) → StandOnce (cs ++ c ∷ [])
stand_push [] c once absent = (λ m. m, tt)
stand_push (d ∷ cs) c once absent = (
  λ m. elim (member_parts d c cs m) [ inl there ↦ once.0 there | inr e ↦ absent (inl (sym e)) ],
  stand_push cs c once.1 (λ m. absent (inr m)),
)

-- a tally of a column that is counted again
pub once_again : (ys : List Tally) (j : ℕ) (d : Tally) (minus : Bool) → StandOnce (columns_of ys)
    → StandOnce (columns_of (set ys j (with_one minus (get_or ys j d))))
once_again ys j d minus =
    subst StandOnce (sym (map-set_same (λ (y : Tally). y.column) ys j (with_one minus (get_or ys j d)) d (one_column minus (get_or ys j d))))

-- a tally of a column that has none
pub once_first : (ys : List Tally) (fresh : Tally) (minus : Bool) → (IsMember fresh.column (columns_of ys) → ⊥) → StandOnce (columns_of ys)
    → StandOnce (columns_of (ys ++ with_one minus fresh ∷ []))
once_first ys fresh minus absent once =
    subst StandOnce (sym (map-append (λ (y : Tally). y.column) ys (with_one minus fresh ∷ []) ∙ ap (λ (c : ℕ × ℕ). columns_of ys ++ c ∷ []) (one_column minus fresh)))
    (stand_push (columns_of ys) fresh.column once absent)
