-- Members of a list, and what holds of all of them.
use Rattle.std.proofs.Common.{◌≡◌, ◌⊎◌, ◌<◌, ◌≤◌, ◌+◌, ℕ, zero, suc, Bool, true, false, cond, List, [], ◌∷◌, ◌++◌, map, filter, length, take, get_or, refl, sym, ap, subst, ◌∙◌, inl, inr, arith}
use Rattle.std.specs.List.{AllByRecursion, Contains, list_any, range_with_len}
use Rattle.std.proofs.lemmas.Bool.{cases_lt, or_cases, or_left, or_right}
use Rattle.std.proofs.lemmas.List.{take_all, take_more}
use Rattle.rankings.specs.Order.{IsMember, BelowAll}

-- what is below each element is below a member
pub below_member : {K : Type 0} (Below : K → K → Type 0) (x k : K) (ys : List K) → BelowAll Below x ys → IsMember k ys → Below x k
below_member Below x k [] all m = absurd m
below_member Below x k (y ∷ ys) all (inl e) = subst (λ z. Below x z) (sym e) all.0
below_member Below x k (y ∷ ys) all (inr m) = below_member Below x k ys all.1 m

-- what holds of each element holds of a member
pub all_member : {K : Type 0} (P : K → Type 0) (x : K) (xs : List K) → AllByRecursion P xs → IsMember x xs → P x
all_member P x [] all m = absurd m
all_member P x (y ∷ ys) all (inl e) = subst P (sym e) all.0
all_member P x (y ∷ ys) all (inr m) = all_member P x ys all.1 m

-- membership by recursion is membership by index
pub member_contains : {K : Type 0} (x : K) (xs : List K) → IsMember x xs → Contains xs x
member_contains x [] m = absurd m
member_contains x (y ∷ xs) (inl e) = (0, omega arith, sym e)
member_contains x (y ∷ xs) (inr m) = let c = member_contains x xs m in (suc c.0, omega (arith, c.1), c.2)

pub contains_member : {K : Type 0} (x : K) (xs : List K) (k : ℕ) → k < length xs → get_or xs k x ≡ x → IsMember x xs
contains_member x [] k inside at = absurd (omega arith)
contains_member x (y ∷ xs) zero inside at = inl (sym at)
contains_member x (y ∷ xs) (suc k) inside at = inr (contains_member x xs k (omega arith) at)

-- # Members of an appended list

pub member_left : {K : Type 0} (x : K) (xs ys : List K) → IsMember x xs → IsMember x (xs ++ ys)
member_left x [] ys m = absurd m
member_left x (y ∷ xs) ys (inl e) = inl e
member_left x (y ∷ xs) ys (inr m) = inr (member_left x xs ys m)

pub member_right : {K : Type 0} (x : K) (xs ys : List K) → IsMember x ys → IsMember x (xs ++ ys)
member_right x [] ys m = m
member_right x (y ∷ xs) ys m = inr (member_right x xs ys m)

pub member_either : {K : Type 0} (x : K) (xs ys : List K) → IsMember x (xs ++ ys) → IsMember x xs ⊎ IsMember x ys
member_either x [] ys m = inr m
member_either x (y ∷ xs) ys (inl e) = inl (inl e)
member_either x (y ∷ xs) ys (inr m) = elim (member_either x xs ys m) [ inl n ↦ inl (inr n) | inr n ↦ inr n ]

pub member_last : {A : Type 0} (x : A) (xs : List A) → IsMember x (xs ++ x ∷ [])
member_last x [] = inl refl
member_last x (y ∷ xs) = inr (member_last x xs)

pub member_parts : {A : Type 0} (x y : A) (xs : List A) → IsMember x (xs ++ y ∷ []) → IsMember x xs ⊎ (x ≡ y)
member_parts x y [] (inl e) = inr e
member_parts x y [] (inr m) = absurd m
member_parts x y (z ∷ xs) (inl e) = inl (inl e)
member_parts x y (z ∷ xs) (inr m) = elim (member_parts x y xs m) [ inl a ↦ inl (inr a) | inr b ↦ inr b ]

-- # Members of a mapped list

pub member_map : {X K : Type 0} (f : X → K) (x : X) (xs : List X) → IsMember x xs → IsMember (f x) (map f xs)
member_map f x [] m = absurd m
member_map f x (y ∷ xs) (inl e) = inl (ap f e)
member_map f x (y ∷ xs) (inr m) = inr (member_map f x xs m)

pub member_unmap : {X K : Type 0} (f : X → K) (k : K) (xs : List X) → IsMember k (map f xs) → (x : X) × IsMember x xs × (k ≡ f x)
member_unmap f k [] m = absurd m
member_unmap f k (y ∷ xs) (inl e) = (y, inl refl, e)
member_unmap f k (y ∷ xs) (inr m) = let r = member_unmap f k xs m in (r.0, inr r.1, r.2)

-- # Members by index

pub get_member : {K : Type 0} (xs : List K) (i : ℕ) (d : K) → i < length xs → IsMember (get_or xs i d) xs
get_member [] i d l = absurd (omega arith)
get_member (x ∷ xs) zero d l = inl refl
get_member (x ∷ xs) (suc i) d l = inr (get_member xs i d (omega arith))

pub member_get : {K : Type 0} (xs : List K) (k d : K) → IsMember k xs → (i : ℕ) × (i < length xs) × (get_or xs i d ≡ k)
member_get [] k d m = absurd m
member_get (x ∷ xs) k d (inl e) = (0, omega arith, sym e)
member_get (x ∷ xs) k d (inr m) = let r : (i : ℕ) × (i < length xs) × (get_or xs i d ≡ k) = member_get xs k d m in (suc r.0, omega arith, r.2)

-- an element at an index is a member
pub member_item : {A : Type 0} (xs : List A) (i : ℕ) (x : A) → i < length xs → x ≡ get_or xs i x → IsMember x xs
member_item {A = A} xs i x h is = subst (λ (z : A). IsMember z xs) (sym is) (get_member xs i x h)

-- what holds for the first i elements, and for one more
pub each_further : {A : Type 0} (P : A → Type 0) (xs : List A) (i : ℕ) (x : A) → i < length xs → x ≡ get_or xs i x
    → ((v : A) → IsMember v (take i xs) → P v) → P x → (v : A) → IsMember v (take (i + 1) xs) → P v
each_further {A = A} P xs i x h is known here v m =
    let more : take (i + 1) xs ≡ take i xs ++ x ∷ [] = take_more xs i x h ∙ ap (λ (z : A). take i xs ++ z ∷ []) (sym is) in
    elim (member_parts v x (take i xs) (subst (λ (l : List A). IsMember v l) more m)) [ inl old ↦ known v old | inr e ↦ subst P (sym e) here ]

pub each_all : {A : Type 0} (P : A → Type 0) (xs : List A) (i : ℕ) → length xs ≤ i → ((v : A) → IsMember v (take i xs) → P v) → (v : A) → IsMember v xs → P v
each_all {A = A} P xs i h known v m = known v (subst (λ (l : List A). IsMember v l) (sym (take_all i xs h)) m)

-- # Tests of members

pub any_member : {A : Type 0} (test : A → Bool) (xs : List A) → list_any test xs ≡ true → (x : A) × IsMember x xs × (test x ≡ true)
any_member test [] h = absurd (let e : false ≡ true = h in cc)
any_member test (x ∷ xs) h = elim (or_cases (test x) (list_any test xs) h) [
  | inl p ↦ (x, inl refl, p)
  | inr p ↦ let q = any_member test xs p in (q.0, inr q.1, q.2)
]

pub member_any : {A : Type 0} (test : A → Bool) (x : A) (xs : List A) → IsMember x xs → test x ≡ true → list_any test xs ≡ true
member_any test x [] m h = absurd m
member_any test x (y ∷ xs) (inl e) h = or_left (test y) (list_any test xs) (ap test (sym e) ∙ h)
member_any test x (y ∷ xs) (inr m) h = or_right (test y) (list_any test xs) (member_any test x xs m h)

-- # Members that pass a test

pub member_kept : {A : Type 0} (test : A → Bool) (x : A) (xs : List A) → IsMember x xs → test x ≡ true → IsMember x (filter test xs)
member_kept test x [] m h = absurd m
member_kept {A = A} test x (y ∷ xs) (inl e) h =
    subst (λ (l : List A). IsMember x l) (sym (ap (λ (b : Bool). cond b (y ∷ filter test xs) (filter test xs)) (ap test (sym e) ∙ h))) (inl e)
member_kept test x (y ∷ xs) (inr m) h = by_test (test y) (member_kept test x xs m h)
  where
    by_test : (b : Bool) → IsMember x (filter test xs) → IsMember x (cond b (y ∷ filter test xs) (filter test xs))
    by_test true k = inr k
    by_test false k = k

pub kept_member : {A : Type 0} (test : A → Bool) (x : A) (xs : List A) → IsMember x (filter test xs) → IsMember x xs × (test x ≡ true)
kept_member test x [] m = absurd m
kept_member {A = A} test x (y ∷ xs) m = by_test (test y) refl m (kept_member test x xs)
  where
    by_test : (b : Bool) → test y ≡ b → IsMember x (cond b (y ∷ filter test xs) (filter test xs)) → (IsMember x (filter test xs) → IsMember x xs × (test x ≡ true))
        → IsMember x (y ∷ xs) × (test x ≡ true)
    by_test true e (inl is) k = (inl is, ap test is ∙ e)
    by_test true e (inr n) k = let p = k n in (inr p.0, p.1)
    by_test false e n k = let p = k n in (inr p.0, p.1)

pub map_filter : {A B : Type 0} (f : A → B) (test : B → Bool) (xs : List A) → map f (filter (λ x. test (f x)) xs) ≡ filter test (map f xs)
map_filter f test [] = refl
map_filter {A = A} {B = B} f test (x ∷ xs) = by_test (test (f x)) ∙ ap (λ (l : List B). cond (test (f x)) (f x ∷ l) l) (map_filter f test xs)
  where
    by_test : (b : Bool) → map f (cond b (x ∷ filter (λ y. test (f y)) xs) (filter (λ y. test (f y)) xs))
        ≡ cond b (f x ∷ map f (filter (λ y. test (f y)) xs)) (map f (filter (λ y. test (f y)) xs))
    by_test true = refl
    by_test false = refl

-- # Members of a range of numbers

pub range_bounds : (a n k : ℕ) → IsMember k (range_with_len a n) → (a ≤ k) × (k < a + n)
range_bounds a zero k m = absurd m
range_bounds a (suc n) k (inl e) = (omega arith, omega arith)
range_bounds a (suc n) k (inr m) = let h = range_bounds (a + 1) n k m in (omega (arith, h.0), omega (arith, h.1))

pub range_member : (a n k : ℕ) → a ≤ k → k < a + n → IsMember k (range_with_len a n)
range_member a zero k low high = absurd (omega arith)
range_member a (suc n) k low high = elim (cases_lt a k) [
  | inl above ↦ inr (range_member (a + 1) n k (omega arith) (omega arith))
  | inr here ↦ inl (omega arith)
]
