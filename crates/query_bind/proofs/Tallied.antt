-- What the tallies of a key add to its items.
use Rattle.std.proofs.Common.{◌≡◌, ◌+◌, ◌-◌, ◌*◌, ◌<◌, ◌≤◌, ◌==◌, ℕ, zero, suc, min, Bool, true, false, cond, if◌then◌else◌, ℤ, pos, negsuc, ◌+ℤ◌, ◌*ℤ◌, neg_ℤ, nat_abs, List, [], ◌∷◌, ◌++◌, map, length, take, get_or, set, replicate, Option, Some, None, unwrap_or, refl, sym, ap, subst, ◌∙◌, inl, inr, arith}
use Rattle.std.specs.Option.{option_or}
use Rattle.std.specs.List.{AllByRecursion, range_with_len}
use lib.IntN.{neg_ℤ-+ℤ, one, *ℤ-one, *ℤ-zero, *ℤ-negsuc, *ℤ_comm, +ℤ_idl}
use Rattle.std.proofs.lemmas.Int.{ints, unsigned_abs-mul}
use Rattle.std.proofs.lemmas.Nat.{mul-le}
use Rattle.std.proofs.lemmas.Bool.{cases_eq}
use Rattle.std.proofs.lemmas.Bool.Decides.{Decides-eqb}
use Rattle.std.proofs.lemmas.List.{append-nil, ext_get_or, get_or-map, get_or-replicate, get_or-set_other, get_or-set_same, length-map, length-replicate, length-set}
use Rattle.std.proofs.lemmas.List.FromFn.{fill_by_all, get_or-map-range_with_len, length-map-range_with_len}
use Rattle.anyk_model.specs.Table.{Table, field_at, table_at}
use Rattle.anyk_model.specs.Weight.{weight_of}
use Rattle.anyk_model.specs.Query.{Item, Column, Term, OrderKey, total}
use Rattle.query_bind.specs.Answers.{IsBindFault}
use Rattle.query_bind.specs.Fits.{BoundInside}
use Rattle.query_bind.specs.Measures.{AreSmall, added, most_u128}
use Rattle.query_bind.specs.Names.{first_of}
use Rattle.bound_query.specs.KeyParts.{sum_of_all}
use Rattle.bound_query.specs.StoredParts.{column_view, item_view, items_view, term_view}
use Rattle.query_bind.specs.Tallies.{AreTallies, net, signed, tallies_in, tallies_size, tallies_sum, tally_size, tally_worth, term_worth}
use Rattle.bound_query.specs.WeighedQuery.{ItemParts, item_parts, kept, key_parts, row_parts}
use Rattle.bound_query.specs.Weights.{cap_of, column_size, column_weights, most_sum, part_of, table_in, terms_in, terms_size, worth_at}
use Rattle.query_bind.specs.WeightFaults.{column_fault, key_fault}
use Rattle.bound_query.specs.declared.bound.BoundItem.{BoundItem}
use Rattle.bound_query.specs.declared.bound.BoundTerm.{BoundTerm}
use Rattle.query_bind.specs.declared.fault.BindFault.{BindFault}
use Rattle.query_bind.specs.declared.fault.BindFault.TheVariants as fault
use Rattle.query_bind.specs.declared.tallies.Tally.{Tally}
use Rattle.rankings.proofs.Members.{all_member}
use Rattle.query_bind.proofs.Collect.{first_at, first_of_append}
use Rattle.query_bind.proofs.Measuring.{weight_at}
use Rattle.bound_query.proofs.Parts.{column_bounds, nat_abs_add, nat_abs_neg}
use Rattle.rankings.proofs.Members.{member_unmap}
use Rattle.query_bind.proofs.Tallying.{at_member, sum_push, total_push}

-- ---- the elements of a list that are of one item

-- the tallies of an item, with one more
in_append : (item : ℕ) (xs ys : List Tally) → tallies_in item (xs ++ ys) ≡ tallies_in item xs ++ tallies_in item ys
in_append item [] ys = refl
in_append item (x ∷ xs) ys = by_test (x.column.0 == item) (in_append item xs ys)
  where
    by_test : (b : Bool) → tallies_in item (xs ++ ys) ≡ tallies_in item xs ++ tallies_in item ys
        → cond b (x ∷ tallies_in item (xs ++ ys)) (tallies_in item (xs ++ ys)) ≡ cond b (x ∷ tallies_in item xs) (tallies_in item xs) ++ tallies_in item ys
    by_test true h = ap (λ (l : List Tally). x ∷ l) h
    by_test false h = h

in_own : (ys : List Tally) (y : Tally) → tallies_in y.column.0 (ys ++ y ∷ []) ≡ tallies_in y.column.0 ys ++ y ∷ []
in_own ys y =
    let is : (y.column.0 == y.column.0) ≡ true = (Decides-eqb y.column.0 y.column.0).1 refl in
    in_append y.column.0 ys (y ∷ []) ∙ ap (λ (b : Bool). tallies_in y.column.0 ys ++ cond b (y ∷ []) []) is

in_other : (item : ℕ) (ys : List Tally) (y : Tally) → (y.column.0 ≡ item → ⊥) → tallies_in item (ys ++ y ∷ []) ≡ tallies_in item ys
in_other item ys y differ =
    in_append item ys (y ∷ []) ∙ by_test (y.column.0 == item) refl
  where
    by_test : (b : Bool) → (y.column.0 == item) ≡ b → tallies_in item ys ++ cond b (y ∷ []) [] ≡ tallies_in item ys
    by_test true e = absurd (differ ((Decides-eqb y.column.0 item).0 e))
    by_test false e = append-nil (tallies_in item ys)

-- a value that counts only in one item
abbrev at_item : {V : Type 0} → ℕ → V → (Column → V) → Column → V
at_item item none f c = cond (c.item == item) (f c) none

module _ (item : ℕ) where
  terms_worth : (worth : Column → ℤ) (ts : List Term)
      → total (map (term_worth (at_item item (pos 0) worth)) ts) ≡ total (map (term_worth worth) (terms_in item ts))
  terms_worth worth [] = refl
  terms_worth worth (t ∷ ts) = by_test (t.column.item == item) t.minus (terms_worth worth ts)
    where
      by_test : (b m : Bool) → total (map (term_worth (at_item item (pos 0) worth)) ts) ≡ total (map (term_worth worth) (terms_in item ts))
          → (if m then neg_ℤ (cond b (worth t.column) (pos 0)) else cond b (worth t.column) (pos 0)) +ℤ total (map (term_worth (at_item item (pos 0) worth)) ts)
          ≡ total (map (λ (s : Term). if s.minus then neg_ℤ (worth s.column) else worth s.column) (cond b (record { minus = m; column = t.column } ∷ terms_in item ts) (terms_in item ts)))
      by_test true true h = omega (arith, ints, h)
      by_test true false h = omega (arith, ints, h)
      by_test false true h = omega (arith, ints, h)
      by_test false false h = omega (arith, ints, h)

  tallies_worth : (worth : Column → ℤ) (ys : List Tally)
      → total (map (tally_worth (at_item item (pos 0) worth)) ys) ≡ total (map (tally_worth worth) (tallies_in item ys))
  tallies_worth worth [] = refl
  tallies_worth worth (y ∷ ys) = by_test (y.column.0 == item) (tallies_worth worth ys)
    where
      by_test : (b : Bool) → total (map (tally_worth (at_item item (pos 0) worth)) ys) ≡ total (map (tally_worth worth) (tallies_in item ys))
          → net y *ℤ cond b (worth (column_view y.column)) (pos 0) +ℤ total (map (tally_worth (at_item item (pos 0) worth)) ys)
          ≡ total (map (tally_worth worth) (cond b (y ∷ tallies_in item ys) (tallies_in item ys)))
      by_test true h = ap (λ (z : ℤ). tally_worth worth y +ℤ z) h
      by_test false h =
          let none : net y *ℤ pos 0 ≡ pos 0 = *ℤ-zero (net y) in
          omega (arith, ints, none, h)

  terms_sizes : (size : Column → ℕ) (ts : List Term)
      → sum_of_all (map (λ (t : Term). at_item item 0 size t.column) ts) ≡ sum_of_all (map (λ (t : Term). size t.column) (terms_in item ts))
  terms_sizes size [] = refl
  terms_sizes size (t ∷ ts) = by_test (t.column.item == item) (terms_sizes size ts)
    where
      by_test : (b : Bool) → sum_of_all (map (λ (s : Term). at_item item 0 size s.column) ts) ≡ sum_of_all (map (λ (s : Term). size s.column) (terms_in item ts))
          → cond b (size t.column) 0 + sum_of_all (map (λ (s : Term). at_item item 0 size s.column) ts)
          ≡ sum_of_all (map (λ (s : Term). size s.column) (cond b (t ∷ terms_in item ts) (terms_in item ts)))
      by_test true h = ap (λ (n : ℕ). size t.column + n) h
      by_test false h = omega (arith, h)

  tallies_sizes : (size : Column → ℕ) (ys : List Tally)
      → sum_of_all (map (tally_size (at_item item 0 size)) ys) ≡ sum_of_all (map (tally_size size) (tallies_in item ys))
  tallies_sizes size [] = refl
  tallies_sizes size (y ∷ ys) = by_test (y.column.0 == item) (tallies_sizes size ys)
    where
      by_test : (b : Bool) → sum_of_all (map (tally_size (at_item item 0 size)) ys) ≡ sum_of_all (map (tally_size size) (tallies_in item ys))
          → (y.plus + y.minus) * cond b (size (column_view y.column)) 0 + sum_of_all (map (tally_size (at_item item 0 size)) ys)
          ≡ sum_of_all (map (tally_size size) (cond b (y ∷ tallies_in item ys) (tallies_in item ys)))
      by_test true h = ap (λ (n : ℕ). tally_size size y + n) h
      by_test false h = omega (arith, h)

  -- whether something is kept for the item, as a fault
  abbrev here : Column → Option BindFault
  here = at_item item None (λ (c : Column). Some fault.NoMemory)

  abbrev kept_if : Option BindFault → List ℤ → List ℤ
  kept_if None parts = []
  kept_if (Some e) parts = parts

  terms_kept : (ts : List Term) (parts : List ℤ) → kept (terms_in item ts) parts ≡ kept_if (first_of (λ (t : Term). here t.column) ts) parts
  terms_kept [] parts = refl
  terms_kept (t ∷ ts) parts = by_test (t.column.item == item) (terms_kept ts parts)
    where
      by_test : (b : Bool) → kept (terms_in item ts) parts ≡ kept_if (first_of (λ (s : Term). here s.column) ts) parts
          → kept (cond b (t ∷ terms_in item ts) (terms_in item ts)) parts
          ≡ kept_if (option_or (cond b (Some fault.NoMemory) None) (first_of (λ (s : Term). here s.column) ts)) parts
      by_test true h = refl
      by_test false h = h

  tallies_kept : (ys : List Tally) (parts : List ℤ) → kept (tallies_in item ys) parts ≡ kept_if (first_of (λ (y : Tally). here (column_view y.column)) ys) parts
  tallies_kept [] parts = refl
  tallies_kept (y ∷ ys) parts = by_test (y.column.0 == item) (tallies_kept ys parts)
    where
      by_test : (b : Bool) → kept (tallies_in item ys) parts ≡ kept_if (first_of (λ (z : Tally). here (column_view z.column)) ys) parts
          → kept (cond b (y ∷ tallies_in item ys) (tallies_in item ys)) parts
          ≡ kept_if (option_or (cond b (Some fault.NoMemory) None) (first_of (λ (z : Tally). here (column_view z.column)) ys)) parts
      by_test true h = refl
      by_test false h = h

-- ---- sizes

sum_of_terms : (tables : List Table) (items : List Item) (ts : List Term) → sum_of_all (map (λ (t : Term). column_size tables items t.column) ts) ≡ terms_size tables items ts
sum_of_terms tables items [] = refl
sum_of_terms tables items (t ∷ ts) = ap (λ (n : ℕ). column_size tables items t.column + n) (sum_of_terms tables items ts)

module _ (tables : List Table) (items : List Item) where
  in_smaller : (item : ℕ) (ys : List Tally) → tallies_size tables items (tallies_in item ys) ≤ tallies_size tables items ys
  in_smaller item [] = omega arith
  in_smaller item (y ∷ ys) = by_test (y.column.0 == item) (in_smaller item ys)
    where
      by_test : (b : Bool) → tallies_size tables items (tallies_in item ys) ≤ tallies_size tables items ys
          → tallies_size tables items (cond b (y ∷ tallies_in item ys) (tallies_in item ys)) ≤ tally_size (column_size tables items) y + tallies_size tables items ys
      by_test true h = omega (arith, h)
      by_test false h = omega (arith, h)

  net_small : (y : Tally) → nat_abs (net y) ≤ y.plus + y.minus
  net_small y = omega (arith, ints)

  tally_small : (row : ℕ) (y : Tally) → nat_abs (tally_worth (worth_at tables items row) y) ≤ tally_size (column_size tables items) y
  tally_small row y =
      let w = worth_at tables items row (column_view y.column) in
      let product : nat_abs (net y *ℤ w) ≡ nat_abs (net y) * nat_abs w = unsigned_abs-mul (net y) w in
      let below = mul-le (nat_abs (net y)) (nat_abs w) (y.plus + y.minus) (column_size tables items (column_view y.column)) (net_small y)
      (column_bounds tables items row (column_view y.column)) in
      omega (arith, product, below)

  tallies_small : (row : ℕ) (ys : List Tally) → nat_abs (tallies_sum tables items row ys) ≤ tallies_size tables items ys
  tallies_small row [] = omega arith
  tallies_small row (y ∷ ys) =
      let h = tallies_small row ys in
      let s = tally_small row y in
      let a = nat_abs_add (tally_worth (worth_at tables items row) y) (tallies_sum tables items row ys) in
      omega (arith, h, s, a)

-- ---- signs

signed_add : (d : Bool) (a b : ℤ) → signed d (a +ℤ b) ≡ signed d a +ℤ signed d b
signed_add true a b = neg_ℤ-+ℤ a b
signed_add false a b = refl

neg_times : (a b : ℤ) → neg_ℤ a *ℤ b ≡ neg_ℤ (a *ℤ b)
neg_times a b = *ℤ_comm (neg_ℤ a) b ∙ times_neg b a ∙ ap neg_ℤ (*ℤ_comm b a)
  where
    neg_neg : (z : ℤ) → neg_ℤ (neg_ℤ z) ≡ z
    neg_neg z = omega (arith, ints)

    times_neg : (m k : ℤ) → m *ℤ neg_ℤ k ≡ neg_ℤ (m *ℤ k)
    times_neg m (pos zero) =
        let none : m *ℤ pos 0 ≡ pos 0 = *ℤ-zero m in
        none ∙ ap neg_ℤ (sym none)
    times_neg m (pos (suc n)) = *ℤ-negsuc m n
    times_neg m (negsuc n) = sym (neg_neg (m *ℤ pos (suc n))) ∙ ap neg_ℤ (sym (*ℤ-negsuc m n))

signed_times : (d : Bool) (a b : ℤ) → signed d a *ℤ b ≡ signed d (a *ℤ b)
signed_times true a b = neg_times a b
signed_times false a b = refl

signed_small : (d : Bool) (z : ℤ) → nat_abs (signed d z) ≡ nat_abs z
signed_small true z = nat_abs_neg z
signed_small false z = refl

-- ---- what is known of a tally whose column is read

module _ (tables : List Table) (items : List Item) where
  -- its item is there, each row of its column has one of these weights, and this is the most that they can add
  pub record IsMeasured (y : Tally) (weights : List ℤ) (size : ℕ) : Type 0 where
    pub there : y.column.0 < length items
    pub values : map Some weights ≡ column_weights tables items (column_view y.column)
    pub measured : size ≡ min ((y.plus + y.minus) * column_size tables items (column_view y.column)) most_u128
    pub sound : column_fault tables items (column_view y.column) ≡ None

-- ---- what is known of the items after some tallies

module _ (tables : List Table) (items : List Item) (d : Bool) where
  abbrev rows_of : ℕ → ℕ
  rows_of item = length (table_in tables items item).rows

  abbrev part_after : List Tally → ℕ → ℤ
  part_after ys row = signed d (tallies_sum tables items row ys)

  abbrev parts_after : ℕ → List Tally → ItemParts
  parts_after item ys = record {
    cap = tallies_size tables items (tallies_in item ys);
    parts = kept (tallies_in item ys) (map (part_after (tallies_in item ys)) (range_with_len 1 (rows_of item)));
  }

  -- the sum of the sizes, cut to 128 bits, and what the items have if the sum is in range
  pub record HasWeighed (ys : List Tally) (sum : ℕ) (list : List ItemParts) : Type 0 where
    pub cut : sum ≡ min most_u128 (tallies_size tables items ys)
    pub sound : first_of (λ (y : Tally). column_fault tables items (column_view y.column)) ys ≡ None
    pub count : length list ≡ length items
    pub parts : tallies_size tables items ys ≤ most_sum → (item : ℕ) (e : ItemParts) → item < length items → get_or list item e ≡ parts_after item ys

  pub weighed_none : HasWeighed [] 0 (replicate (length items) (record { cap = 0; parts = [] }))
  weighed_none = record {
    cut = omega arith;
    sound = refl;
    count = length-replicate (length items) (record { cap = 0; parts = [] });
    parts = λ fit item e h. get_or-replicate (length items) item (record { cap = 0; parts = [] }) e h;
  }

  size_push : (ys : List Tally) (y : Tally) → tallies_size tables items (ys ++ y ∷ []) ≡ tallies_size tables items ys + tally_size (column_size tables items) y
  size_push ys y = sum_push (tally_size (column_size tables items)) ys y

  -- the part of a row that is kept, or 0 if none is kept
  part_there : (zs : List Tally) (n i : ℕ) → i < n → get_or (kept zs (map (part_after zs) (range_with_len 1 n))) i (pos 0) ≡ part_after zs (i + 1)
  part_there [] n i h = signed_none d
    where
      signed_none : (b : Bool) → pos 0 ≡ signed b (pos 0)
      signed_none true = refl
      signed_none false = refl
  part_there (z ∷ zs) n i h = get_or-map-range_with_len (part_after (z ∷ zs)) 1 n i (i + 1) (pos 0) h (omega arith)

  part_push : (row : ℕ) (zs : List Tally) (y : Tally)
      → part_after (zs ++ y ∷ []) row ≡ part_after zs row +ℤ signed d (net y) *ℤ worth_at tables items row (column_view y.column)
  part_push row zs y =
      let w = worth_at tables items row (column_view y.column) in
      ap (signed d) (total_push (tally_worth (worth_at tables items row)) zs y) ∙ signed_add d (tallies_sum tables items row zs) (net y *ℤ w)
      ∙ ap (λ (z : ℤ). part_after zs row +ℤ z) (sym (signed_times d (net y) w))

  kept_push : (zs : List Tally) (y : Tally) (parts : List ℤ) → kept (zs ++ y ∷ []) parts ≡ parts
  kept_push [] y parts = refl
  kept_push (z ∷ zs) y parts = refl

  -- one more tally, whose column has these weights
  module _ {ys : List Tally} {sum : ℕ} {list : List ItemParts} (so_far : HasWeighed ys sum list)
      {y : Tally} {weights : List ℤ} {size : ℕ} (read : IsMeasured tables items y weights size) where
    abbrev item : ℕ
    item = y.column.0

    abbrev next : ℕ
    next = min most_u128 (sum + size)

    cut_next : next ≡ min most_u128 (tallies_size tables items (ys ++ y ∷ []))
    cut_next = omega (arith, so_far.cut, read.measured, size_push ys y)

    sound_next : first_of (λ (z : Tally). column_fault tables items (column_view z.column)) (ys ++ y ∷ []) ≡ None
    sound_next =
        let f : Tally → Option BindFault = λ (z : Tally). column_fault tables items (column_view z.column) in
        first_of_append f ys (y ∷ []) ∙ ap (λ (o : Option BindFault). option_or o (option_or (f y) None)) so_far.sound ∙ ap (λ (o : Option BindFault). option_or o None) read.sound

    weights_long : length weights ≡ rows_of item
    weights_long =
        let f : List (List ℕ) → Option ℤ = λ row. weight_of (get_or row y.column.1 []) in
        sym (length-map weights (λ (z : ℤ). let o : Option ℤ = Some z in o)) ∙ ap length read.values ∙ length-map (table_in tables items item).rows f

    weight_there : (i : ℕ) → i < rows_of item → get_or weights i (pos 0) ≡ worth_at tables items (i + 1) (column_view y.column)
    weight_there i h =
        let long = weights_long in
        let at : Some (get_or weights i (pos 0)) ≡ weight_of (field_at (table_in tables items item) (i + 1 - 1) y.column.1) =
        sym (get_or-map (λ (z : ℤ). let o : Option ℤ = Some z in o) weights i (pos 0) None (omega (arith, h, long)))
        ∙ ap (λ (l : List (Option ℤ)). get_or l i None) read.values ∙ weight_at (table_in tables items item) y.column.1 i h in
        ap (λ (o : Option ℤ). unwrap_or o (pos 0)) at

    pub weighed_past : most_sum < next → HasWeighed (ys ++ y ∷ []) next list
    weighed_past past = record {
      cut = cut_next;
      sound = sound_next;
      count = so_far.count;
      parts = λ fit i e h. let c = cut_next in absurd (omega (arith, past, fit, c));
    }

    module _ (in_range : next ≤ most_sum) {before : ItemParts} (is : before ≡ get_or list item before) where
      total_fits : tallies_size tables items (ys ++ y ∷ []) ≤ most_sum
      total_fits = let c = cut_next in omega (arith, in_range, c)

      rest_fits : tallies_size tables items ys ≤ most_sum
      rest_fits = let t = total_fits in omega (arith, t, size_push ys y)

      before_is : before ≡ parts_after item ys
      before_is = is ∙ so_far.parts rest_fits item before read.there

      size_is : size ≡ tally_size (column_size tables items) y
      size_is = let t = total_fits in omega (arith, read.measured, t, size_push ys y)

      part_before : (i : ℕ) → i < rows_of item → get_or before.parts i (pos 0) ≡ part_after (tallies_in item ys) (i + 1)
      part_before i h = ap (λ (b : ItemParts). get_or b.parts i (pos 0)) before_is ∙ part_there (tallies_in item ys) (rows_of item) i h

      pub cap_small : before.cap + size ≤ most_sum
      cap_small =
          let t = total_fits in
          let s = in_smaller tables items item ys in
          let b : before.cap ≡ tallies_size tables items (tallies_in item ys) = ap (λ (p : ItemParts). p.cap) before_is in
          omega (arith, t, s, b, size_is, size_push ys y)

      pub parts_small : AreSmall (signed d (net y)) before.parts weights
      parts_small i h =
          let inside : i < rows_of item = omega (arith, h, weights_long) in
          let w = worth_at tables items (i + 1) (column_view y.column) in
          let more : signed d (net y) *ℤ get_or weights i (pos 0) ≡ signed d (net y *ℤ w) =
          ap (λ (z : ℤ). signed d (net y) *ℤ z) (weight_there i inside) ∙ signed_times d (net y) w in
          let part : get_or before.parts i (pos 0) ≡ part_after (tallies_in item ys) (i + 1) = part_before i inside in
          let t = total_fits in
          let s = in_smaller tables items item ys in
          let a = signed_small d (net y *ℤ w) in
          let b = tally_small tables items (i + 1) y in
          let p = tallies_small tables items (i + 1) (tallies_in item ys) in
          let q = signed_small d (tallies_sum tables items (i + 1) (tallies_in item ys)) in
          let r = nat_abs_add (part_after (tallies_in item ys) (i + 1)) (signed d (net y *ℤ w)) in
          let e = size_push ys y in (
            subst (λ (z : ℤ). nat_abs z ≤ most_sum) (sym more) (omega (arith, a, b, t, e)),
            subst (λ (z : ℤ). nat_abs (get_or before.parts i (pos 0) +ℤ z) ≤ most_sum) (sym more)
                (subst (λ (z : ℤ). nat_abs (z +ℤ signed d (net y *ℤ w)) ≤ most_sum) (sym part) (omega (arith, a, b, p, q, r, s, t, e))),
          )

      parts_next : added (signed d (net y)) before.parts weights ≡ (parts_after item (ys ++ y ∷ [])).parts
      parts_next =
          let n = rows_of item in
          let zs = tallies_in item ys in
          let f : ℕ → ℤ = λ i. get_or before.parts i (pos 0) +ℤ signed d (net y) *ℤ get_or weights i (pos 0) in
          let g : ℕ → ℤ = part_after (zs ++ y ∷ []) in
          let each : (i : ℕ) → i < n → f i ≡ g (i + 1) =
          λ i h. (λ j. part_before i h j +ℤ signed d (net y) *ℤ weight_there i h j) ∙ sym (part_push (i + 1) zs y) in
          ap (λ (k : ℕ). map f (range_with_len 0 k)) weights_long ∙ shifted f g 0 1 n (λ k h. ap f (omega arith) ∙ each k h ∙ ap g (omega arith))
          ∙ sym (kept_push zs y (map g (range_with_len 1 n)))
          ∙ ap (λ (l : List Tally). kept l (map (part_after l) (range_with_len 1 n))) (sym (in_own ys y))
        where
          shifted : (f g : ℕ → ℤ) (a b n : ℕ) → ((k : ℕ) → k < n → f (a + k) ≡ g (b + k)) → map f (range_with_len a n) ≡ map g (range_with_len b n)
          shifted f g a b zero e = refl
          shifted f g a b (suc n) e =
              let first : f a ≡ g b = ap f (omega arith) ∙ e 0 (omega arith) ∙ ap g (omega arith) in
              let rest = shifted f g (a + 1) (b + 1) n (λ k h. ap f (omega arith) ∙ e (k + 1) (omega (arith, h)) ∙ ap g (omega arith)) in
              (λ j. first j ∷ rest j)

      cap_next : before.cap + size ≡ (parts_after item (ys ++ y ∷ [])).cap
      cap_next =
          let b : before.cap ≡ tallies_size tables items (tallies_in item ys) = ap (λ (p : ItemParts). p.cap) before_is in
          let own = ap (tallies_size tables items) (in_own ys y) in
          omega (arith, b, size_is, own, size_push (tallies_in item ys) y)

      pub weighed_more : (new : ItemParts) → new ≡ record { cap = before.cap + size; parts = added (signed d (net y)) before.parts weights }
          → HasWeighed (ys ++ y ∷ []) next (set list item new)
      weighed_more new made =
          let new-is : new ≡ parts_after item (ys ++ y ∷ []) =
          made ∙ ap (λ (n : ℕ). let p : ItemParts = record { cap = n; parts = added (signed d (net y)) before.parts weights } in p) cap_next
          ∙ ap (λ (l : List ℤ). let p : ItemParts = record { cap = tallies_size tables items (tallies_in item (ys ++ y ∷ [])); parts = l } in p) parts_next in
          record {
            cut = cut_next;
            sound = sound_next;
            count = length-set list item new ∙ so_far.count;
            parts = λ fit i e h. elim (cases_eq i item) [
              | inl same ↦
                  ap (λ (k : ℕ). get_or (set list item new) k e) same ∙ get_or-set_same list item new e (omega (arith, read.there, so_far.count)) ∙ new-is
                  ∙ ap (λ (k : ℕ). parts_after k (ys ++ y ∷ [])) (sym same)
              | inr other ↦
                  get_or-set_other list item i new e other ∙ so_far.parts rest_fits i e h
                  ∙ ap (λ (l : List Tally). let p : ItemParts = record {
                    cap = tallies_size tables items l;
                    parts = kept l (map (part_after l) (range_with_len 1 (rows_of i)));
                  } in p) (sym (in_other i ys y (λ s. other (sym s))))
            ];
          }

-- ---- at the end

module _ (tables : List Table) (items : List Item) (key : OrderKey) (ys : List Tally) (all : AreTallies key.terms ys) where
  pub tallied_size : tallies_size tables items ys ≡ terms_size tables items key.terms
  tallied_size = sym (all.size (column_size tables items)) ∙ sum_of_terms tables items key.terms

  pub tallied_fault : first_of (λ (y : Tally). column_fault tables items (column_view y.column)) ys ≡ key_fault tables items key
  tallied_fault = sym (all.fault (column_fault tables items))

  -- the fault of a column is that of the key, if no column before it has one
  pub tallied_tells : (i : ℕ) (d : Tally) (e : BindFault) → i < length ys
      → first_of (λ (y : Tally). column_fault tables items (column_view y.column)) (take i ys) ≡ None
      → IsBindFault (column_fault tables items (column_view (get_or ys i d).column)) e → IsBindFault (key_fault tables items key) e
  tallied_tells i d e h before (inl m) = inl m
  tallied_tells i d e h before (inr f) =
      inr (sym tallied_fault ∙ first_at (λ (y : Tally). column_fault tables items (column_view y.column)) ys i d e h before f)

  tallied_cap : (item : ℕ) → tallies_size tables items (tallies_in item ys) ≡ cap_of tables items item key
  tallied_cap item =
      sym (tallies_sizes item (column_size tables items) ys) ∙ sym (all.size (at_item item 0 (column_size tables items)))
      ∙ terms_sizes item (column_size tables items) key.terms ∙ sum_of_terms tables items (terms_in item key.terms)

  tallied_part : (item row : ℕ) → part_after tables items key.descending (tallies_in item ys) row ≡ part_of tables items item row key
  tallied_part item row =
      ap (signed key.descending) (sym (tallies_worth item (worth_at tables items row) ys)
      ∙ sym (all.worth (at_item item (pos 0) (worth_at tables items row))) ∙ terms_worth item (worth_at tables items row) key.terms)

  tallied_parts : (item : ℕ) → parts_after tables items key.descending item ys ≡ item_parts tables items key item
  tallied_parts item =
      let n = length (table_in tables items item).rows in
      let f = part_after tables items key.descending (tallies_in item ys) in
      let g : ℕ → ℤ = λ row. part_of tables items item row key in
      let parts : map f (range_with_len 1 n) ≡ map g (range_with_len 1 n) = map_same f g (range_with_len 1 n) (tallied_part item) in
      let kept_is : kept (tallies_in item ys) (map f (range_with_len 1 n)) ≡ row_parts tables items key item =
      tallies_kept item ys (map f (range_with_len 1 n)) ∙ ap (λ (o : Option BindFault). kept_if item o (map f (range_with_len 1 n))) (sym (all.fault (here item)))
      ∙ sym (terms_kept item key.terms (map f (range_with_len 1 n))) ∙ ap (kept (terms_in item key.terms)) parts in
      (λ j. record { cap = tallied_cap item j; parts = kept_is j })
    where
      map_same : (f g : ℕ → ℤ) (ns : List ℕ) → ((n : ℕ) → f n ≡ g n) → map f ns ≡ map g ns
      map_same f g [] e = refl
      map_same f g (n ∷ ns) e = (λ j. e n j ∷ map_same f g ns e j)

  pub key_parts_lem : (sum : ℕ) (list : List ItemParts) → HasWeighed tables items key.descending ys sum list → sum ≤ most_sum → list ≡ key_parts tables items key
  key_parts_lem sum list known in_range =
      let none : ItemParts = record { cap = 0; parts = [] } in
      let fit : tallies_size tables items ys ≤ most_sum = omega (arith, known.cut, in_range) in
      ext_get_or none list (key_parts tables items key) (known.count ∙ sym (length-map-range_with_len (item_parts tables items key) 0 (length items)))
      (λ i h.
      let inside : i < length items = omega (arith, h, known.count) in
      known.parts fit i none inside ∙ tallied_parts i ∙ sym (get_or-map-range_with_len (item_parts tables items key) 0 (length items) i i none inside (omega arith)))

-- the tallies of a slice of the terms are those of the terms
pub tallied_slice : {stored slice : List BoundTerm} {ys made : List Tally} → slice ≡ stored → ys ≡ made → AreTallies (map term_view slice) made → AreTallies (map term_view stored) ys
tallied_slice {stored = stored} {made = made} is same all =
    subst (λ (l : List Tally). AreTallies (map term_view stored) l) (sym same) (subst (λ (l : List BoundTerm). AreTallies (map term_view l) made) is all)

-- ---- the columns of tallies exist

pub tally_inside : (tables : List Table) (items : List BoundItem) (stored : List BoundTerm) (ys : List Tally)
    → AllByRecursion (λ (t : BoundTerm). BoundInside tables items t.column) stored → AreTallies (map term_view stored) ys
    → (i : ℕ) (d : Tally) → i < length ys → BoundInside tables items (get_or ys i d).column
tally_inside tables items stored ys inside all i d h =
    let y = get_or ys i d in
    let n = all.named y (at_member ys i d h) in
    let u = member_unmap term_view n.0 stored n.1 in
    let same : column_view u.0.column ≡ column_view y.column = sym (ap (λ (t : Term). t.column) u.2) ∙ n.2 in
    let pair : u.0.column ≡ y.column = ap (λ (c : Column). (c.item, c.place)) same in
    subst (λ (c : ℕ × ℕ). BoundInside tables items c) pair (all_member (λ (t : BoundTerm). BoundInside tables items t.column) u.0 stored inside u.1)

module _ (tables : List Table) (items : List BoundItem) (c : ℕ × ℕ) (r : BoundItem) (h : BoundInside tables items c) where
  stored_at : get_or (items_view items) c.0 (record { table = 0; alias = [] }) ≡ item_view (get_or items c.0 r)
  stored_at = get_or-map item_view items c.0 r (record { table = 0; alias = [] }) h.item

  pub inside_table : (get_or items c.0 r).table < length tables
  inside_table = subst (λ (i : Item). i.table < length tables) stored_at h.table

  pub inside_place : c.1 < length (table_at tables (get_or items c.0 r).table).names
  inside_place = subst (λ (i : Item). c.1 < length (table_at tables i.table).names) stored_at h.place

  pub inside_narrow : length (table_at tables (get_or items c.0 r).table).names ≤ 64
  inside_narrow = subst (λ (i : Item). length (table_at tables i.table).names ≤ 64) stored_at h.narrow

-- the weights of a first column that counts once
pub added_first : (weights : List ℤ) → added (pos 1) [] weights ≡ weights
unfolding one
added_first weights =
    let once : (i : ℕ) → i < length weights → get_or weights i (pos 0) ≡ pos 0 +ℤ pos 1 *ℤ get_or weights i (pos 0) =
    λ i h. let w = get_or weights i (pos 0) in sym (+ℤ_idl (pos 1 *ℤ w) ∙ *ℤ_comm (pos 1) w ∙ *ℤ-one w) in
    sym (fill_by_all (λ i. pos 0 +ℤ pos 1 *ℤ get_or weights i (pos 0)) weights (length weights) (pos 0) refl once)
