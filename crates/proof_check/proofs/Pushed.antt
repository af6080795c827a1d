-- Lists with one more element at the end.
use Rattle.std.proofs.Common.{◌≡◌, ◌≢◌, ℕ, zero, suc, ◌+◌, ◌<◌, Bool, true, false, cond, nat_eq, List, [], ◌∷◌, ◌++◌, length, map, take, get_or}
use Rattle.std.proofs.Common.{Option, Some, None, position, refl, sym, ap, ◌∙◌, inl, inr, arith}
use Rattle.std.specs.List.{list_any, position_or_len}
use Rattle.std.proofs.lemmas.Bool.{cases_eq, cases_lt, lt-ltb}
use Rattle.std.proofs.lemmas.Bool.Decides.{Decides-eqb}
use Rattle.std.proofs.Math.ListN.{set}
use Rattle.std.proofs.lemmas.List.{get_or-map, get_or-set_same, get_or-set_other, get_or_push, length-map, map-set, set-get_or}
use Rattle.std.proofs.lemmas.List.Elements.{All-from_get_or}
use Rattle.std.proofs.lemmas.List.Folds.{list_any_none}
use Rattle.std.proofs.lemmas.List.Quantifiers.{position-Some}
use Rattle.std.proofs.lemmas.List.Sums.{fails_before_first}

pub get_left : {A : Type 0} (xs ys : List A) (i : ℕ) (d : A) → i < length xs → get_or (xs ++ ys) i d ≡ get_or xs i d
get_left [] ys i d l = absurd (omega (arith, l))
get_left (x ∷ xs) ys zero d l = refl
get_left (x ∷ xs) ys (suc i) d l = get_left xs ys i d (omega (arith, l))

-- the first elements of a list that begins with them
pub take_front : {A : Type 0} (xs ys : List A) (n : ℕ) → n ≡ length xs → take n (xs ++ ys) ≡ xs
take_front [] ys zero e = refl
take_front [] ys (suc n) e = absurd (omega (arith, e))
take_front (x ∷ xs) ys zero e = absurd (omega (arith, e))
take_front (x ∷ xs) ys (suc n) e = ap (λ zs. x ∷ zs) (take_front xs ys n (omega (arith, e)))

-- what holds of the first n elements and of the next one
pub pushed_more : {A : Type 0} (xs : List A) (y d : A) (f : ℕ → A) (n : ℕ) → length xs ≡ n → ((i : ℕ) → i < n → get_or xs i d ≡ f i)
    → y ≡ f n → (i : ℕ) → i < n + 1 → get_or (xs ++ (y ∷ [])) i d ≡ f i
pushed_more xs y d f n long so e i l = elim (cases_eq i n) [
  | inl s ↦ get_or_push xs y d i (long ∙ sym s) ∙ e ∙ ap f (sym s)
  | inr s ↦
      let low : i < n = omega (arith, l, s) in
      get_left xs (y ∷ []) i d (omega (arith, low, long)) ∙ so i low
]

pub empty_more : {A : Type 0} (xs : List (List A)) (y : List A) → y ≡ [] → ((v : ℕ) → get_or xs v [] ≡ []) → (v : ℕ)
    → get_or (xs ++ (y ∷ [])) v [] ≡ []
empty_more [] y e so zero = e
empty_more [] y e so (suc v) = refl
empty_more (x ∷ xs) y e so zero = so 0
empty_more (x ∷ xs) y e so (suc v) = empty_more xs y e (λ w. so (suc w)) v

-- ---- positions

pub missing_any : (link : ℕ) (xs : List ℕ) → None ≡ position (nat_eq link) xs → list_any (nat_eq link) xs ≡ false
missing_any link xs e = elim (cases_lt (position_or_len (nat_eq link) xs) (length xs)) [
  | inl l ↦
      let f : None ≡ Some (position_or_len (nat_eq link) xs) =
      e ∙ ap (λ b. cond b (Some (position_or_len (nat_eq link) xs)) None) (lt-ltb (position_or_len (nat_eq link) xs) (length xs) l) in
      cc
  | inr g ↦ list_any_none (nat_eq link) xs (All-from_get_or (λ x. nat_eq link x ≡ false) xs 0
      (λ i h. fails_before_first (nat_eq link) xs i 0 (omega (arith, h, g))))
]

pub missing_all : (link : ℕ) (xs : List ℕ) → None ≡ position (nat_eq link) xs → (b : ℕ) → b < length xs → get_or xs b 0 ≡ link → ⊥
missing_all link xs e b l same = elim (cases_lt (position_or_len (nat_eq link) xs) (length xs)) [
  | inl h ↦
      let f : None ≡ Some (position_or_len (nat_eq link) xs) =
      e ∙ ap (λ b. cond b (Some (position_or_len (nat_eq link) xs)) None) (lt-ltb (position_or_len (nat_eq link) xs) (length xs) h) in
      cc
  | inr g ↦
      let no : nat_eq link (get_or xs b 0) ≡ false = fails_before_first (nat_eq link) xs b 0 (omega (arith, l, g)) in
      let yes : nat_eq link (get_or xs b 0) ≡ true = (Decides-eqb link (get_or xs b 0)).1 (sym same) in
      cc
]

pub found_there : (link : ℕ) (xs : List ℕ) (b : ℕ) → position (nat_eq link) xs ≡ Some b → (b < length xs) × (get_or xs b 0 ≡ link)
found_there link xs b e =
    let at = position-Some (nat_eq link) xs b 0 e in
    (at.0, sym ((Decides-eqb link (get_or xs b 0)).0 at.1))

-- a number that is there is found
pub there_found : (link : ℕ) (xs : List ℕ) (b : ℕ) → b < length xs → get_or xs b 0 ≡ link
    → (k : ℕ) × (position (nat_eq link) xs ≡ Some k) × (k < length xs) × (get_or xs k 0 ≡ link)
there_found link xs b l same = by (position (nat_eq link) xs) refl
  where
    by : (o : Option ℕ) → position (nat_eq link) xs ≡ o
        → (k : ℕ) × (position (nat_eq link) xs ≡ Some k) × (k < length xs) × (get_or xs k 0 ≡ link)
    by None e = absurd (missing_all link xs (sym e) b l same)
    by (Some k) e = let at = found_there link xs k e in (k, e, at.0, at.1)

pub added_last : (ks : List ℕ) (k : ℕ) (b : Bool) → b ≡ false → cond b ks (ks ++ (k ∷ [])) ≡ ks ++ (k ∷ [])
added_last ks k true e = absurd (cc)
added_last ks k false e = refl

-- ---- parts of elements

module _ {A B : Type 0} (f : A → B) (xs : List A) (i : ℕ) where
  -- a new element with the same part
  pub same_part : (old new : A) → i < length xs → f new ≡ f (get_or xs i old) → map f (set xs i new) ≡ map f xs
  same_part old new l e =
      map-set f xs i new
      ∙ ap (set (map f xs) i) (e ∙ sym (get_or-map f xs i old (f old) l))
      ∙ set-get_or (map f xs) i (f old)

  pub new_part : (new : A) (d : B) → i < length xs → get_or (map f (set xs i new)) i d ≡ f new
  new_part new d l =
      ap (λ ys. get_or ys i d) (map-set f xs i new)
      ∙ get_or-set_same (map f xs) i (f new) d (let n = length-map xs f in omega (arith, l, n))

  pub old_part : (v : ℕ) (new : A) (d : B) → v ≢ i → get_or (map f (set xs i new)) v d ≡ get_or (map f xs) v d
  old_part v new d e = ap (λ ys. get_or ys v d) (map-set f xs i new) ∙ get_or-set_other (map f xs) i v (f new) d e

-- a list in an element that has one more element at its end
pub part_more : {A B : Type 0} (f : A → List B) (xs : List A) (i : ℕ) (old new : A) (y : B) → i < length xs → old ≡ get_or xs i old
    → f new ≡ f old ++ (y ∷ []) → map f (set xs i new) ≡ set (map f xs) i (get_or (map f xs) i [] ++ (y ∷ []))
part_more f xs i old new y l is e =
    map-set f xs i new
    ∙ ap (set (map f xs) i) (e ∙ ap (λ ys. ys ++ (y ∷ [])) (ap f is ∙ sym (get_or-map f xs i old [] l)))
