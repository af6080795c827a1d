-- The parts of a key add up to it, and the caps bound them.
use Rattle.std.proofs.Common.{◌≡◌, ◌⊎◌, ◌+◌, ◌-◌, ◌<◌, ◌≤◌, ◌==◌, ℕ, zero, suc, Bool, true, false, cond, if◌then◌else◌, ℤ, pos, negsuc, ◌+ℤ◌, neg_ℤ, nat_abs, List, [], ◌∷◌, map, length, get_or, slice_index, Option, Some, None, unwrap_or, refl, sym, ap, ◌∙◌, inl, inr, arith}
use Rattle.std.specs.List.{AllByRecursion, range_with_len}
use Rattle.std.proofs.lemmas.Int.{ints}
use Rattle.std.proofs.lemmas.Bool.Decides.{Decides-eqb}
use Rattle.anyk_model.specs.Table.{Table, field_at}
use Rattle.anyk_model.specs.Weight.{weight_of}
use Rattle.anyk_model.specs.Query.{Query, Item, Column, Term, OrderKey, rank_of, sum_of, total}
use Rattle.bound_query.specs.NamedPlaces.{KeyInside, TermInside}
use Rattle.bound_query.specs.KeyParts.{caps_sum, numbers_of, parts_sum, sum_of_all}
use Rattle.bound_query.proofs.Sums.{sum_ap, sum_zero}
use Rattle.bound_query.specs.Weights.{cap_of, column_size, greatest, part_of, row_term, size_of, table_in, terms_in, terms_size, worth_at}

-- ---- a value that counts only at one number of a range

eq_or_not : (m a : ℕ) → ((m == a) ≡ true) ⊎ ((m == a) ≡ false)
eq_or_not m a = by_test (m == a) refl
  where
    by_test : (b : Bool) → (m == a) ≡ b → ((m == a) ≡ true) ⊎ ((m == a) ≡ false)
    by_test true e = inl e
    by_test false e = inr e

-- a sum in which the number m counts for more, by what is added to it
module _ {K : Type 0} (add : K → K → K) (sum : List K → K) (cons : (x : K) (xs : List K) → sum (x ∷ xs) ≡ add x (sum xs))
    (regroup : (a b c : K) → add (add a b) c ≡ add a (add b c)) (swap : (a b c : K) → add a (add b c) ≡ add b (add a c)) (m : ℕ) (v f : ℕ → K) where
  abbrev picked : ℕ → K
  picked i = cond (m == i) (add (v i) (f i)) (f i)

  -- what the number a adds, by what the test gives
  one_step : (a n : ℕ) (b : Bool) → (m == a) ≡ b
      → sum (map picked (range_with_len a (suc n))) ≡ add (cond b (add (v a) (f a)) (f a)) (sum (map picked (range_with_len (a + 1) n)))
  one_step a n b e =
      cons (picked a) (map picked (range_with_len (a + 1) n))
      ∙ ap (λ (t : Bool). add (cond t (add (v a) (f a)) (f a)) (sum (map picked (range_with_len (a + 1) n)))) e

  past : (a n : ℕ) → m < a → sum (map picked (range_with_len a n)) ≡ sum (map f (range_with_len a n))
  past a zero h = refl
  past a (suc n) h =
      let differ : (m == a) ≡ false = elim (eq_or_not m a) [ inl e ↦ absurd (let s : m ≡ a = (Decides-eqb m a).0 e in omega (arith, s)) | inr e ↦ e ] in
      one_step a n false differ ∙ ap (add (f a)) (past (a + 1) n (omega (arith, h))) ∙ sym (cons (f a) (map f (range_with_len (a + 1) n)))

  sum_picked : (a n : ℕ) → a ≤ m → m < a + n → sum (map picked (range_with_len a n)) ≡ add (v m) (sum (map f (range_with_len a n)))
  sum_picked a zero low high = absurd (omega arith)
  sum_picked a (suc n) low high = elim (eq_or_not m a) [
    | inl e ↦
        let same : m ≡ a = (Decides-eqb m a).0 e in
        one_step a n true e ∙ ap (add (add (v a) (f a))) (past (a + 1) n (omega (arith, same))) ∙ regroup (v a) (f a) (sum (map f (range_with_len (a + 1) n)))
        ∙ ap (add (v a)) (sym (cons (f a) (map f (range_with_len (a + 1) n)))) ∙ ap (λ (k : ℕ). add (v k) (sum (map f (range_with_len a (suc n))))) (sym same)
    | inr e ↦
        let other : m ≡ a → ⊥ = λ s. let t : (m == a) ≡ true = (Decides-eqb m a).1 s in cc in
        one_step a n false e ∙ ap (add (f a)) (sum_picked (a + 1) n (omega (arith, other)) (omega (arith, high))) ∙ swap (f a) (v m) (sum (map f (range_with_len (a + 1) n)))
        ∙ ap (add (v m)) (sym (cons (f a) (map f (range_with_len (a + 1) n))))
  ]

pub picks : (m : ℕ) (v f : ℕ → ℤ) (a n : ℕ) → a ≤ m → m < a + n
    → total (map (λ i. cond (m == i) (v i +ℤ f i) (f i)) (range_with_len a n)) ≡ v m +ℤ total (map f (range_with_len a n))
picks m v f a n low high = sum_picked ◌+ℤ◌ total (λ x xs. refl) (λ x y z. omega (arith, ints)) (λ x y z. omega (arith, ints)) m v f a n low high

pub counts : (m : ℕ) (v f : ℕ → ℕ) (a n : ℕ) → a ≤ m → m < a + n
    → sum_of_all (map (λ i. cond (m == i) (v i + f i) (f i)) (range_with_len a n)) ≡ v m + sum_of_all (map f (range_with_len a n))
counts m v f a n low high = sum_picked ◌+◌ sum_of_all (λ x xs. refl) (λ x y z. omega arith) (λ x y z. omega arith) m v f a n low high

total_zero : (ns : List ℕ) → total (map (λ (i : ℕ). pos 0) ns) ≡ pos 0
total_zero [] = refl
total_zero (n ∷ ns) = let h = total_zero ns in omega (arith, ints, h)

total_ap : (f g : ℕ → ℤ) (ns : List ℕ) → ((i : ℕ) → f i ≡ g i) → total (map f ns) ≡ total (map g ns)
total_ap f g [] e = refl
total_ap f g (n ∷ ns) e = (λ j. e n j +ℤ total_ap f g ns e j)

total_neg : (f : ℕ → ℤ) (ns : List ℕ) → total (map (λ (i : ℕ). neg_ℤ (f i)) ns) ≡ neg_ℤ (total (map f ns))
total_neg f [] = refl
total_neg f (n ∷ ns) = let h = total_neg f ns in omega (arith, ints, h)

module _ (tables : List Table) (items : List Item) (rows : List ℕ) where
  abbrev added : List Term → ℕ → ℤ
  added terms i = total (map (row_term tables items (slice_index rows i)) (terms_in i terms))

  added_cons : (t : Term) (terms : List Term) (i : ℕ)
      → added (t ∷ terms) i ≡ cond (t.column.item == i) (row_term tables items (slice_index rows i) t +ℤ added terms i) (added terms i)
  added_cons t terms i = by_test (t.column.item == i)
    where
      by_test : (b : Bool) → total (map (row_term tables items (slice_index rows i)) (cond b (t ∷ terms_in i terms) (terms_in i terms)))
          ≡ cond b (row_term tables items (slice_index rows i) t +ℤ added terms i) (added terms i)
      by_test true = refl
      by_test false = refl

  abbrev whole : Term → ℤ
  whole t = row_term tables items (slice_index rows t.column.item) t

  pub terms_add : (terms : List Term) → AllByRecursion (TermInside tables items) terms → total (map (added terms) (numbers_of items)) ≡ total (map whole terms)
  terms_add [] h = total_zero (numbers_of items)
  terms_add (t ∷ terms) h =
      total_ap (added (t ∷ terms)) (λ i. cond (t.column.item == i) (row_term tables items (slice_index rows i) t +ℤ added terms i) (added terms i)) (numbers_of items) (added_cons t terms)
      ∙ picks t.column.item (λ i. row_term tables items (slice_index rows i) t) (added terms) 0 (length items) (omega arith) (omega (arith, h.0.item))
      ∙ ap (λ (z : ℤ). whole t +ℤ z) (terms_add terms h.1)

-- the parts of a combination add up to the key's sum, negated if the order descends
pub parts_add : (query : Query) (tables : List Table) (rows : List ℕ) (key : OrderKey) → KeyInside tables query.items key
    → parts_sum tables query.items rows key ≡ rank_of query tables rows key
parts_add query tables rows key h = by_order key.descending
  where
    by_order : (b : Bool) → total (map (λ (i : ℕ). if b then neg_ℤ (added tables query.items rows key.terms i) else added tables query.items rows key.terms i) (numbers_of query.items))
        ≡ (if b then neg_ℤ (sum_of query tables rows key) else sum_of query tables rows key)
    by_order true = total_neg (added tables query.items rows key.terms) (numbers_of query.items) ∙ ap neg_ℤ (terms_add tables query.items rows key.terms h)
    by_order false = terms_add tables query.items rows key.terms h

-- ---- caps

module _ (tables : List Table) (items : List Item) where
  abbrev size_in : List Term → ℕ → ℕ
  size_in terms i = terms_size tables items (terms_in i terms)

  size_cons : (t : Term) (terms : List Term) (i : ℕ)
      → size_in (t ∷ terms) i ≡ cond (t.column.item == i) (column_size tables items t.column + size_in terms i) (size_in terms i)
  size_cons t terms i = by_test (t.column.item == i)
    where
      by_test : (b : Bool) → terms_size tables items (cond b (t ∷ terms_in i terms) (terms_in i terms))
          ≡ cond b (column_size tables items t.column + size_in terms i) (size_in terms i)
      by_test true = refl
      by_test false = refl

  sizes_add : (terms : List Term) → AllByRecursion (TermInside tables items) terms → sum_of_all (map (size_in terms) (numbers_of items)) ≡ terms_size tables items terms
  sizes_add [] h = sum_zero (numbers_of items)
  sizes_add (t ∷ terms) h =
      sum_ap (size_in (t ∷ terms)) (λ i. cond (t.column.item == i) (column_size tables items t.column + size_in terms i) (size_in terms i)) (numbers_of items) (size_cons t terms)
      ∙ counts t.column.item (λ i. column_size tables items t.column) (size_in terms) 0 (length items) (omega arith) (omega (arith, h.0.item))
      ∙ ap (λ (z : ℕ). column_size tables items t.column + z) (sizes_add terms h.1)

  -- the caps of all items add up to the sum of the greatest weights
  pub caps_add : (key : OrderKey) → KeyInside tables items key → caps_sum tables items key ≡ terms_size tables items key.terms
  caps_add key h = sizes_add key.terms h

-- ---- bounds

pub nat_abs_neg : (z : ℤ) → nat_abs (neg_ℤ z) ≡ nat_abs z
nat_abs_neg (pos zero) = refl
nat_abs_neg (pos (suc n)) = refl
nat_abs_neg (negsuc n) = refl

pub nat_abs_add : (a b : ℤ) → nat_abs (a +ℤ b) ≤ nat_abs a + nat_abs b
nat_abs_add a b = omega (arith, ints)

weight_small : (rows : List (List (List ℕ))) (k place : ℕ)
    → size_of (weight_of (get_or (get_or rows k []) place [])) ≤ greatest (map size_of (map (λ row. weight_of (get_or row place [])) rows))
weight_small [] k place = omega arith
weight_small (r ∷ rows) zero place = omega arith
weight_small (r ∷ rows) (suc k) place = let h = weight_small rows k place in omega (arith, h)

option_size : (o : Option ℤ) → nat_abs (unwrap_or o (pos 0)) ≤ size_of o
option_size None = omega arith
option_size (Some z) = omega arith

signed_size : (minus : Bool) (z : ℤ) → nat_abs (if minus then neg_ℤ z else z) ≡ nat_abs z
signed_size true z = nat_abs_neg z
signed_size false z = refl

module _ (tables : List Table) (items : List Item) (row : ℕ) where
  pub column_bounds : (c : Column) → nat_abs (worth_at tables items row c) ≤ column_size tables items c
  column_bounds c =
      let o = weight_of (field_at (table_in tables items c.item) (row - 1) c.place) in
      let p = option_size o in
      let w = weight_small (table_in tables items c.item).rows (row - 1) c.place in
      omega (arith, p, w)

  pub term_small : (t : Term) → nat_abs (row_term tables items row t) ≤ column_size tables items t.column
  term_small t =
      let s = signed_size t.minus (worth_at tables items row t.column) in
      let w = column_bounds t.column in
      omega (arith, s, w)

  pub terms_small : (terms : List Term) → nat_abs (total (map (row_term tables items row) terms)) ≤ terms_size tables items terms
  terms_small [] = omega arith
  terms_small (t ∷ terms) =
      let h = terms_small terms in
      let s = term_small t in
      let a = nat_abs_add (row_term tables items row t) (total (map (row_term tables items row) terms)) in
      omega (arith, h, s, a)

  -- a part is at most the cap of its item
  pub part_capped : (item : ℕ) (key : OrderKey) → nat_abs (part_of tables items item row key) ≤ cap_of tables items item key
  part_capped item key =
      let s = signed_size key.descending (total (map (row_term tables items row) (terms_in item key.terms))) in
      let h = terms_small (terms_in item key.terms) in
      omega (arith, s, h)
