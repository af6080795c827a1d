-- The sums of order keys as they are compared, and two lists of them.
use Rattle.std.proofs.Common.{◌≡◌, ◌≢◌, ◌<◌, ◌≤◌, ◌+◌, ◌⊎◌, ◌∙◌, ℕ, ℤ, pos, ◌-ℤ◌, neg_ℤ, nat_abs, int_lt, nat_lt, Bool, true, false, if◌then◌else◌, List, [], ◌∷◌, map, length, drop, inl, inr, refl, sym, ap, arith, FitsSigned, length-drop}
use mir.Syntax.{w128}
use Rattle.std.proofs.lemmas.Int.{fits_signed_from_abs, ints}
use Rattle.std.proofs.lemmas.List.{get_or-map, length-map}
use Rattle.anyk_model.specs.Table.{Table}
use Rattle.anyk_model.specs.Query.{OrderKey, rank_of, sum_of}
use Rattle.anyk_model.specs.Ranking.{is_before}
use Rattle.bound_query.specs.WeighedQuery.{BoundQuery, Fits}
use Rattle.bound_query.specs.Weights.{KeyInRange, key_at}
use Rattle.bound_query.proofs.Parts.{nat_abs_neg}
use Rattle.bound_query.proofs.Lists.{all_at, drop_step}
use Rattle.answer_print.proofs.KeySums.{sum_small}

-- # One sum

negated : (b : Bool) (sum z : ℤ) → z ≡ sum → b ≡ true → pos 0 -ℤ z ≡ (if b then neg_ℤ sum else sum)
negated true sum z e t = omega (arith, ints, e)
negated false sum z e t = absurd (cc t)

rank_size : (b : Bool) (sum : ℤ) → nat_abs (if b then neg_ℤ sum else sum) ≡ nat_abs sum
rank_size true sum = nat_abs_neg sum
rank_size false sum = refl

module _ (bound : BoundQuery) (tables : List Table) (fits : Fits bound tables) (rows : List ℕ) (k : ℕ) (there : k < length bound.query.order) where
  abbrev key : OrderKey
  key = key_at bound.query.order k

  range : KeyInRange tables bound.query.items key
  range = all_at (KeyInRange tables bound.query.items) bound.query.order k (record { terms = []; descending = false }) fits.range there

  -- if the key descends, its sum is compared with the other sign
  pub descending_rank : (z : ℤ) → z ≡ sum_of bound.query tables rows key → key.descending ≡ true → pos 0 -ℤ z ≡ rank_of bound.query tables rows key
  descending_rank z is down = negated key.descending (sum_of bound.query tables rows key) z is down

  -- and it fits 128 bits as it is compared
  pub rank_fits : (z : ℤ) → z ≡ rank_of bound.query tables rows key → FitsSigned w128 z
  rank_fits z is =
      let small = sum_small bound.query tables rows key.terms in
      let same = rank_size key.descending (sum_of bound.query tables rows key) in
      fits_signed_from_abs w128 z (omega (arith, small, range, same, ap nat_abs is))

-- # Lists of sums

pub decided : (x y : ℤ) (xs ys : List ℤ) → x ≢ y → is_before (x ∷ xs) (y ∷ ys) ≡ int_lt x y
decided x y xs ys apart = by (int_lt x y) (int_lt y x) refl refl
  where
    by : (l r : Bool) → int_lt x y ≡ l → int_lt y x ≡ r → (if l then true else if r then false else is_before xs ys) ≡ l
    by true r p q = refl
    by false true p q = refl
    by false false p q = absurd (apart (grind (arith, ints)))

none_less : (x y : ℤ) → x ≡ y → int_lt x y ≡ false
none_less x y e = by (int_lt x y) refl
  where
    by : (l : Bool) → int_lt x y ≡ l → l ≡ false
    by true p = absurd (grind (arith, ints))
    by false p = refl

pub passed : (x y : ℤ) (xs ys : List ℤ) → x ≡ y → is_before (x ∷ xs) (y ∷ ys) ≡ is_before xs ys
passed x y xs ys e = by (int_lt x y) (int_lt y x) (none_less x y e) (none_less y x (sym e))
  where
    by : (l r : Bool) → l ≡ false → r ≡ false → (if l then true else if r then false else is_before xs ys) ≡ is_before xs ys
    by true r p q = absurd (cc p)
    by false true p q = absurd (cc q)
    by false false p q = refl

-- one list ends first, or both end
pub at-end : (us vs : List ℤ) (n m i : ℕ) → i + length us ≡ n → i + length vs ≡ m → (length us ≡ 0) ⊎ (length vs ≡ 0) → is_before us vs ≡ nat_lt n m
at-end [] [] n m i eu ev e = grind arith
at-end [] (v ∷ vs) n m i eu ev e = grind arith
at-end (u ∷ us) [] n m i eu ev e = grind arith
at-end (u ∷ us) (v ∷ vs) n m i eu ev (inl e) = absurd (omega (arith, e))
at-end (u ∷ us) (v ∷ vs) n m i eu ev (inr e) = absurd (omega (arith, e))

-- the sums from key k on
pub sums_from : (f : OrderKey → ℤ) (order : List OrderKey) (k : ℕ) → k < length order → drop k (map f order) ≡ f (key_at order k) ∷ drop (k + 1) (map f order)
sums_from f order k inside =
    let none : OrderKey = record { terms = []; descending = false } in
    drop_step (map f order) k (f none) (omega (arith, inside, length-map order f)) ∙ ap (λ (x : ℤ). x ∷ drop (k + 1) (map f order)) (get_or-map f order k none (f none) inside)

module _ (f g : OrderKey → ℤ) (ks ls : List OrderKey) (k : ℕ) (ink : k < length ks) (inl_ : k < length ls)
    (so : is_before (map f ks) (map g ls) ≡ is_before (drop k (map f ks)) (drop k (map g ls))) where
  at_key : is_before (map f ks) (map g ls) ≡ is_before (f (key_at ks k) ∷ drop (k + 1) (map f ks)) (g (key_at ls k) ∷ drop (k + 1) (map g ls))
  at_key = so ∙ (λ i. is_before (sums_from f ks k ink i) (sums_from g ls k inl_ i))

  -- the sums of key k differ
  pub key_decides : (x y : ℤ) → x ≡ f (key_at ks k) → y ≡ g (key_at ls k) → x ≢ y → is_before (map f ks) (map g ls) ≡ int_lt x y
  key_decides x y ex ey apart =
      at_key ∙ decided (f (key_at ks k)) (g (key_at ls k)) (drop (k + 1) (map f ks)) (drop (k + 1) (map g ls)) (λ e. apart (ex ∙ e ∙ sym ey)) ∙ ap (λ (z : ℤ). int_lt z (g (key_at ls k))) (sym ex) ∙ ap (λ (z : ℤ). int_lt x z) (sym ey)

  -- they do not
  pub key_passes : (x y : ℤ) → x ≡ f (key_at ks k) → y ≡ g (key_at ls k) → x ≡ y → is_before (map f ks) (map g ls) ≡ is_before (drop (k + 1) (map f ks)) (drop (k + 1) (map g ls))
  key_passes x y ex ey e = at_key ∙ passed (f (key_at ks k)) (g (key_at ls k)) (drop (k + 1) (map f ks)) (drop (k + 1) (map g ls)) (sym ex ∙ e ∙ ey)

-- all keys that both have are passed
pub keys_end : (f g : OrderKey → ℤ) (ks ls : List OrderKey) (k n m : ℕ) → n ≡ length ks → m ≡ length ls → k ≤ length ks → k ≤ length ls → (length ks ≤ k) ⊎ (length ls ≤ k)
    → is_before (map f ks) (map g ls) ≡ is_before (drop k (map f ks)) (drop k (map g ls)) → is_before (map f ks) (map g ls) ≡ nat_lt n m
keys_end f g ks ls k n m en em ink inl_ ends so =
    let a = length-drop k (map f ks) in
    let b = length-drop k (map g ls) in
    let c = length-map ks f in
    let d = length-map ls g in
    so ∙ at-end (drop k (map f ks)) (drop k (map g ls)) n m k (omega (arith, a, c, en, ink)) (omega (arith, b, d, em, inl_))
    (elim ends [ inl e ↦ inl (omega (arith, a, c, e)) | inr e ↦ inr (omega (arith, b, d, e)) ])
