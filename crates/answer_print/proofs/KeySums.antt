-- The terms of an order key, added one after another.
use Rattle.std.proofs.Common.{◌≡◌, ◌+◌, ◌<◌, ◌≤◌, ℕ, zero, suc, Bool, true, false, if◌then◌else◌, ℤ, pos, ◌+ℤ◌, ◌-ℤ◌, neg_ℤ, nat_abs, unwrap_or, List, [], ◌∷◌, ◌++◌, map, length, take, get_or, slice_index, subst, sym, ap, ◌∙◌, arith, FitsSigned}
use mir.Syntax.{w128}
use Rattle.std.proofs.lemmas.Int.{ints, fits_signed_from_abs}
use Rattle.std.proofs.lemmas.List.{get_or-map, length-map, map-append, take_all, take_more}
use Rattle.anyk_model.specs.Table.{Table}
use Rattle.anyk_model.specs.Weight.{weight_of}
use Rattle.anyk_model.specs.Query.{OrderKey, Query, Term, term_value, total, value_of}
use Rattle.bound_query.specs.NamedPlaces.{KeyInside, TermInside}
use Rattle.bound_query.specs.StoredParts.{term_view}
use Rattle.bound_query.specs.WeighedQuery.{BoundQuery, Fits}
use Rattle.bound_query.specs.declared.bound.BoundTerm.{BoundTerm}
use Rattle.bound_query.proofs.Lists.{all_at}
use Rattle.bound_query.specs.Weights.{KeyInRange, column_size, key_at, most_sum, terms_size}
use Rattle.bound_query.proofs.Parts.{column_bounds, nat_abs_add, term_small}

total_more : (xs : List ℤ) (x : ℤ) → total (xs ++ x ∷ []) ≡ total xs +ℤ x
total_more [] x = omega (arith, ints)
total_more (y ∷ xs) x = let h = total_more xs x in omega (arith, ints, h)

module _ (query : Query) (tables : List Table) (rows : List ℕ) where
  -- what the first terms add
  abbrev pub added : ℕ → List Term → ℤ
  added n terms = total (map (term_value query tables rows) (take n terms))

  abbrev size : Term → ℕ
  size t = column_size tables query.items t.column

  -- a term adds at most the greatest weight of its column
  pub value_small : (t : Term) → nat_abs (term_value query tables rows t) ≤ size t
  value_small t = term_small tables query.items (slice_index rows t.column.item) t

  added_small : (n : ℕ) (terms : List Term) → nat_abs (added n terms) ≤ terms_size tables query.items terms
  added_small zero terms = omega arith
  added_small (suc n) [] = omega arith
  added_small (suc n) (t ∷ terms) =
      let h = added_small n terms in
      let one = value_small t in
      let both = nat_abs_add (term_value query tables rows t) (added n terms) in
      omega (arith, h, one, both)

  pub sum_small : (terms : List Term) → nat_abs (total (map (term_value query tables rows) terms)) ≤ terms_size tables query.items terms
  sum_small [] = omega arith
  sum_small (t ∷ terms) =
      let h = sum_small terms in
      let one = value_small t in
      let both = nat_abs_add (term_value query tables rows t) (total (map (term_value query tables rows) terms)) in
      omega (arith, h, one, both)

  -- one more term
  pub added_more : (n : ℕ) (terms : List Term) (t d : Term) (sum value : ℤ) → sum ≡ added n terms → t ≡ get_or terms n d → value ≡ term_value query tables rows t → n < length terms
      → sum +ℤ value ≡ added (n + 1) terms
  added_more n terms t d sum value before at is inside =
      ap (λ (z : ℤ). z +ℤ value) before ∙ ap (λ (z : ℤ). added n terms +ℤ z) (is ∙ ap (term_value query tables rows) at)
      ∙ sym (total_more (map (term_value query tables rows) (take n terms)) (term_value query tables rows (get_or terms n d)))
      ∙ ap total (sym (map-append (term_value query tables rows) (take n terms) (get_or terms n d ∷ [])))
      ∙ ap (λ (l : List Term). total (map (term_value query tables rows) l)) (sym (take_more terms n d inside))

  -- no term is left
  pub added_all : (n : ℕ) (terms : List Term) → length terms ≤ n → added n terms ≡ total (map (term_value query tables rows) terms)
  added_all n terms all = ap (λ (l : List Term). total (map (term_value query tables rows) l)) (take_all n terms all)

  -- the sum fits, if the greatest weights of the columns of all terms have a sum that does
  pub added_fits : (n : ℕ) (terms : List Term) (z : ℤ) → terms_size tables query.items terms ≤ most_sum → z ≡ added n terms → FitsSigned w128 z
  added_fits n terms z within is =
      let small = added_small n terms in
      fits_signed_from_abs w128 z (omega (arith, small, within, ap nat_abs is))

  -- the column of a term has no greater weights than all terms together
  pub size_within : (n : ℕ) (terms : List Term) (d : Term) → n < length terms → size (get_or terms n d) ≤ terms_size tables query.items terms
  size_within n [] d inside = absurd (omega arith)
  size_within zero (t ∷ terms) d inside = omega arith
  size_within (suc n) (t ∷ terms) d inside = let h = size_within n terms d (omega (arith, inside)) in omega (arith, h)

  -- the weight that a term reads, and the same negated
  abbrev weight : Term → ℤ
  weight t = unwrap_or (weight_of (value_of query tables rows t.column)) (pos 0)

  pub negated_fits : (t : Term) (z : ℤ) → size t ≤ most_sum → z ≡ weight t → FitsSigned w128 (pos 0 -ℤ z)
  negated_fits t z within is =
      let small = column_bounds tables query.items (slice_index rows t.column.item) t.column in
      let same = ap nat_abs is in
      fits_signed_from_abs w128 (pos 0 -ℤ z) (omega (arith, ints, small, within, same))

  signed : (minus : Bool) (z w : ℤ) → z ≡ w → (minus ≡ true → pos 0 -ℤ z ≡ (if minus then neg_ℤ w else w)) × (minus ≡ false → z ≡ (if minus then neg_ℤ w else w))
  signed true z w is = ((λ t. omega (arith, ints, is)), (λ t. absurd (cc t)))
  signed false z w is = ((λ t. absurd (cc t)), (λ t. is))

  pub value_negated : (t : Term) (z : ℤ) → z ≡ weight t → t.minus ≡ true → pos 0 -ℤ z ≡ term_value query tables rows t
  value_negated t z is minus = (signed t.minus z (weight t) is).0 minus

  pub value_kept : (t : Term) (z : ℤ) → z ≡ weight t → t.minus ≡ false → z ≡ term_value query tables rows t
  value_kept t z is plus = (signed t.minus z (weight t) is).1 plus

-- ---- a term of a key of a query that fits its tables

abbrev pub no_term : BoundTerm
no_term = record { minus = false; column = (0, 0) }

pub record HasTerm (bound : BoundQuery) (tables : List Table) (key : OrderKey) (stored : List BoundTerm) (i : ℕ) : Type 0 where
  pub place : i < length key.terms
  pub same : term_view (get_or stored i no_term) ≡ get_or key.terms i (term_view no_term)
  pub inside : TermInside tables bound.query.items (term_view (get_or stored i no_term))
  pub small : column_size tables bound.query.items (term_view (get_or stored i no_term)).column ≤ most_sum
  pub range : terms_size tables bound.query.items key.terms ≤ most_sum

pub term_there : (bound : BoundQuery) (tables : List Table) → Fits bound tables → (k : ℕ) → k < length bound.query.order
    → (stored : List BoundTerm) → map term_view stored ≡ (key_at bound.query.order k).terms → (i : ℕ) → i < length stored
    → HasTerm bound tables (key_at bound.query.order k) stored i
term_there bound tables fits k there stored shown i within =
    let items = bound.query.items in
    let key = key_at bound.query.order k in
    let place : i < length key.terms = omega (arith, within, ap length shown, length-map stored term_view) in
    let same : term_view (get_or stored i no_term) ≡ get_or key.terms i (term_view no_term) =
    sym (get_or-map term_view stored i no_term (term_view no_term) within) ∙ ap (λ (l : List Term). get_or l i (term_view no_term)) shown in
    let all = all_at (KeyInside tables items) bound.query.order k (record { terms = []; descending = false }) fits.within.order there in
    let range = all_at (KeyInRange tables items) bound.query.order k (record { terms = []; descending = false }) fits.range there in
    record {
      place = place;
      same = same;
      inside = subst (TermInside tables items) (sym same) (all_at (TermInside tables items) key.terms i (term_view no_term) all place);
      small = subst (λ (t : Term). column_size tables items t.column ≤ most_sum) (sym same)
          (omega (arith, size_within bound.query tables [] i key.terms (term_view no_term) place, range));
      range = range;
    }
