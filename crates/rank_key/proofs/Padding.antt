-- Slots that are filled up with 0 to a given number.
use Rattle.std.proofs.Common.{◌≡◌, ℕ, zero, suc, ◌^◌, ◌<◌, ◌≤◌, ℤ, pos, List, [], ◌∷◌, length, map, replicate, get_or, All, refl, sym, ap, subst, ◌∙◌, arith, inl, inr}
use Rattle.std.proofs.Math.ListN.{set}
use Rattle.std.proofs.lemmas.Int.{ints}
use Rattle.std.proofs.lemmas.Bool.Decides.{nat_tests}
use Rattle.std.proofs.lemmas.List.{get_or-map, get_or-set_other, get_or-replicate, get_or_past, length-map, length-replicate}
use Rattle.std.proofs.lemmas.Bool.{cases_lt}
use Rattle.std.proofs.lemmas.List.Elements.{All-nil, All-cons, All-from_get_or, All-get_or, All-head, All-tail}
use Rattle.std.specs.Int.{FitsUnsigned, w32}
use Rattle.std.specs.Ordering.{nat_cmp, ordering_then}
use Rattle.std.specs.Cmp.Lexicographic.{slice_cmp}
use Rattle.std.specs.declared.cmp.Ordering.TheVariants.{Equal}
use Rattle.tdp_model.specs.KeyNumbers.{each_with, slots_of_list, key_of_lists}
use Rattle.tdp_model.proofs.KeyTuples.{two}
use Rattle.rank_key.specs.Keys.{NoneAfter}

-- the first e of the numbers, filled up with 0
abbrev pub padded : ℕ → List ℕ → List ℕ
padded zero us = []
padded (suc e) [] = 0 ∷ padded e []
padded (suc e) (u ∷ us) = u ∷ padded e us

pub length_padded : (e : ℕ) (us : List ℕ) → length (padded e us) ≡ e
length_padded zero us = refl
length_padded (suc e) [] = ap suc (length_padded e [])
length_padded (suc e) (u ∷ us) = ap suc (length_padded e us)

slots_of_padded : (e : ℕ) (us : List ℕ) → slots_of_list e (padded e us) ≡ slots_of_list e us
slots_of_padded zero us = refl
slots_of_padded (suc e) [] = two 0 0 (slots_of_list e (padded e [])) (slots_of_list e []) refl (slots_of_padded e [])
slots_of_padded (suc e) (u ∷ us) = two u u (slots_of_list e (padded e us)) (slots_of_list e us) refl (slots_of_padded e us)

-- filling up changes no key
pub key_of_padded : (d e : ℕ) (xs : List ℤ) (us : List ℕ) → key_of_lists d e xs (padded e us) ≡ key_of_lists d e xs us
key_of_padded zero e xs us = slots_of_padded e us
key_of_padded (suc d) e [] us = two (pos 0) (pos 0) (key_of_lists d e [] (padded e us)) (key_of_lists d e [] us) refl (key_of_padded d e [] us)
key_of_padded (suc d) e (x ∷ xs) us = two x x (key_of_lists d e xs (padded e us)) (key_of_lists d e xs us) refl (key_of_padded d e xs us)

none_first : (u : ℕ) (us : List ℕ) → NoneAfter 0 (u ∷ us) → u ≡ 0
none_first u us none = none 0 (omega arith)

none_rest : (u : ℕ) (us : List ℕ) → NoneAfter 0 (u ∷ us) → NoneAfter 0 us
none_rest u us none = λ i h. none (suc i) (omega arith)

none_tail : (e u : ℕ) (us : List ℕ) → NoneAfter (suc e) (u ∷ us) → NoneAfter e us
none_tail e u us none = λ i h. none (suc i) (omega (arith, h))

-- # Lists joined place by place

module _ (f : ℤ → ℤ → ℤ) (keeps_none : f (pos 0) (pos 0) ≡ pos 0) where
  cons_same : (x y : ℤ) (xs ys : List ℤ) → x ≡ y → xs ≡ ys → x ∷ xs ≡ y ∷ ys
  cons_same x y xs ys e h = ap (λ z. z ∷ xs) e ∙ ap (λ zs. y ∷ zs) h

  first_same : (x y : ℤ) (xs ys : List ℤ) → x ∷ xs ≡ y ∷ ys → x ≡ y
  first_same x y xs ys e = ap (λ zs. get_or zs 0 (pos 0)) e

  rest_of : List ℤ → List ℤ
  rest_of [] = []
  rest_of (x ∷ xs) = xs

  rest_same : (x y : ℤ) (xs ys : List ℤ) → x ∷ xs ≡ y ∷ ys → xs ≡ ys
  unfolding rest_of
  rest_same x y xs ys e = ap rest_of e

  pub padded_each_with : (e : ℕ) (us vs ws : List ℕ) → length us ≡ length vs → map pos ws ≡ each_with f (map pos us) (map pos vs)
      → map pos (padded e ws) ≡ each_with f (map pos (padded e us)) (map pos (padded e vs))
  padded_each_with zero us vs ws len h = refl
  padded_each_with (suc e) [] [] [] len h = cons_same _ _ _ _ (sym keeps_none) (padded_each_with e [] [] [] refl refl)
  padded_each_with (suc e) [] [] (w ∷ ws) len h = let never : ⊥ = cc in absurd never
  padded_each_with (suc e) [] (v ∷ vs) ws len h = absurd (omega arith)
  padded_each_with (suc e) (u ∷ us) [] ws len h = absurd (omega arith)
  padded_each_with (suc e) (u ∷ us) (v ∷ vs) [] len h = let never : ⊥ = cc in absurd never
  padded_each_with (suc e) (u ∷ us) (v ∷ vs) (w ∷ ws) len h =
      cons_same _ _ _ _ (first_same _ _ _ _ h) (padded_each_with e us vs ws (omega arith) (rest_same _ _ _ _ h))

  none_joined : (u v w : ℕ) → pos w ≡ f (pos u) (pos v) → u ≡ 0 → v ≡ 0 → w ≡ 0
  none_joined u v w h p q =
      let same : pos w ≡ pos 0 = h ∙ ap (λ a. f (pos a) (pos v)) p ∙ ap (λ b. f (pos 0) (pos b)) q ∙ keeps_none in omega (arith, ints, same)

  -- where both lists are 0, the joined one is
  pub none_after_each_with : (e : ℕ) (us vs ws : List ℕ) → length us ≡ length vs → map pos ws ≡ each_with f (map pos us) (map pos vs)
      → NoneAfter e us → NoneAfter e vs → NoneAfter e ws
  none_after_each_with e us vs [] len h none nil = λ i past. refl
  none_after_each_with e [] [] (w ∷ ws) len h none nil = let never : ⊥ = cc in absurd never
  none_after_each_with e [] (v ∷ vs) (w ∷ ws) len h none nil = absurd (omega arith)
  none_after_each_with e (u ∷ us) [] (w ∷ ws) len h none nil = absurd (omega arith)
  none_after_each_with zero (u ∷ us) (v ∷ vs) (w ∷ ws) len h none nil =
      let rest = none_after_each_with zero us vs ws (omega arith) (rest_same _ _ _ _ h) (none_rest u us none) (none_rest v vs nil) in
      let first = none_joined u v w (first_same _ _ _ _ h) (none_first u us none) (none_first v vs nil) in
      λ i past. from_both w ws first rest i
    where
      from_both : (w : ℕ) (ws : List ℕ) → w ≡ 0 → NoneAfter 0 ws → (i : ℕ) → get_or (w ∷ ws) i 0 ≡ 0
      from_both w ws first rest zero = first
      from_both w ws first rest (suc i) = rest i (omega arith)
  none_after_each_with (suc e) (u ∷ us) (v ∷ vs) (w ∷ ws) len h none nil =
      let rest = none_after_each_with e us vs ws (omega arith) (rest_same _ _ _ _ h) (none_tail e u us none) (none_tail e v vs nil) in
      λ i past. from_rest e w ws rest i past
    where
      from_rest : (e w : ℕ) (ws : List ℕ) → NoneAfter e ws → (i : ℕ) → suc e ≤ i → get_or (w ∷ ws) i 0 ≡ 0
      from_rest e w ws rest zero past = absurd (omega arith)
      from_rest e w ws rest (suc i) past = rest i (omega (arith, past))

  none_fits : (u v : ℕ) → u ≡ 0 → v ≡ 0 → FitsUnsigned w32 (f (pos u) (pos v))
  none_fits u v p q =
      let same : f (pos u) (pos v) ≡ pos 0 = ap (λ a. f (pos a) (pos v)) p ∙ ap (λ b. f (pos 0) (pos b)) q ∙ keeps_none in
      subst (FitsUnsigned w32) (sym same) (omega (arith, ints))

  -- joined lists fit if the ones that are filled up do
  pub fits_padded : (e : ℕ) (us vs : List ℕ) → length us ≡ length vs → NoneAfter e us → NoneAfter e vs
      → All (FitsUnsigned w32) (each_with f (map pos (padded e us)) (map pos (padded e vs))) → All (FitsUnsigned w32) (each_with f (map pos us) (map pos vs))
  fits_padded e [] [] len none nil fits = All-nil (FitsUnsigned w32)
  fits_padded e [] (v ∷ vs) len none nil fits = absurd (omega arith)
  fits_padded e (u ∷ us) [] len none nil fits = absurd (omega arith)
  fits_padded zero (u ∷ us) (v ∷ vs) len none nil fits =
      All-cons (FitsUnsigned w32) (f (pos u) (pos v)) _ (none_fits u v (none_first u us none) (none_first v vs nil))
      (fits_padded zero us vs (omega arith) (none_rest u us none) (none_rest v vs nil) (All-nil (FitsUnsigned w32)))
  fits_padded (suc e) (u ∷ us) (v ∷ vs) len none nil fits =
      All-cons (FitsUnsigned w32) (f (pos u) (pos v)) _ (All-head (FitsUnsigned w32) _ _ fits)
      (fits_padded e us vs (omega arith) (none_tail e u us none) (none_tail e v vs nil) (All-tail (FitsUnsigned w32) _ _ fits))

-- # Comparing, setting and making

none_tied : (u v : ℕ) → u ≡ 0 → v ≡ 0 → nat_cmp u v ≡ Equal
none_tied u v p q = grind (arith, nat_tests)

pub slice_cmp_padded : (e : ℕ) (us vs : List ℕ) → length us ≡ length vs → NoneAfter e us → NoneAfter e vs
    → slice_cmp nat_cmp (padded e us) (padded e vs) ≡ slice_cmp nat_cmp us vs
slice_cmp_padded zero [] [] len none nil = refl
slice_cmp_padded e [] (v ∷ vs) len none nil = absurd (omega arith)
slice_cmp_padded e (u ∷ us) [] len none nil = absurd (omega arith)
slice_cmp_padded zero (u ∷ us) (v ∷ vs) len none nil =
    slice_cmp_padded zero us vs (omega arith) (none_rest u us none) (none_rest v vs nil)
    ∙ ap (λ o. ordering_then o (slice_cmp nat_cmp us vs)) (sym (none_tied u v (none_first u us none) (none_first v vs nil)))
slice_cmp_padded (suc e) [] [] len none nil =
    ap (λ o. ordering_then o (slice_cmp nat_cmp (padded e []) (padded e []))) (none_tied 0 0 refl refl)
    ∙ slice_cmp_padded e [] [] refl (λ i h. refl) (λ i h. refl)
slice_cmp_padded (suc e) (u ∷ us) (v ∷ vs) len none nil =
    ap (ordering_then (nat_cmp u v)) (slice_cmp_padded e us vs (omega arith) (none_tail e u us none) (none_tail e v vs nil))

pub padded_set : (e : ℕ) (us : List ℕ) (i x : ℕ) → i < length us → padded e (set us i x) ≡ set (padded e us) i x
padded_set zero us i x h = refl
padded_set (suc e) [] i x h = absurd (omega arith)
padded_set (suc e) (u ∷ us) zero x h = refl
padded_set (suc e) (u ∷ us) (suc i) x h = ap (λ l. u ∷ l) (padded_set e us i x (omega (arith, h)))

pub padded_replicate : (e m : ℕ) → padded e (replicate m 0) ≡ replicate e 0
padded_replicate zero m = refl
padded_replicate (suc e) zero = ap (λ l. 0 ∷ l) (padded_replicate e zero)
padded_replicate (suc e) (suc m) = ap (λ l. 0 ∷ l) (padded_replicate e m)

pub none_after_set : (e : ℕ) (us : List ℕ) (i x : ℕ) → i < e → NoneAfter e us → NoneAfter e (set us i x)
none_after_set e us i x h none = λ j past. get_or-set_other {A = ℕ} us i j x 0 (λ same. absurd (omega arith)) ∙ none j past

pub none_after_replicate : (e m : ℕ) → NoneAfter e (replicate m 0)
none_after_replicate e m = λ i past. elim (cases_lt i m) [
  | inl within ↦ get_or-replicate {A = ℕ} m i 0 0 within
  | inr past ↦ get_or_past (replicate m 0) i 0 (omega (arith, length-replicate {A = ℕ} m 0))
]

-- slots that fit as whole numbers are below 2 ^ 32
pub slots_fit : (ws : List ℕ) (zs : List ℤ) → map pos ws ≡ zs → All (FitsUnsigned w32) zs → All (λ w. w < 2 ^ 32) ws
slots_fit ws zs is fits = All-from_get_or (λ w. w < 2 ^ 32) ws 0
    (λ i l.
    let at = All-get_or (FitsUnsigned w32) (map pos ws) i (pos 0) (omega (arith, length-map ws pos, l)) (subst (All (FitsUnsigned w32)) (sym is) fits) in
    small (get_or ws i 0) (subst (FitsUnsigned w32) (get_or-map pos ws i 0 (pos 0) l) at))
  where
    small : (w : ℕ) → FitsUnsigned w32 (pos w) → w < 2 ^ 32
    small w h = omega (arith, ints, h)
