-- Lists of any elements: with one more at the end, with another one in a place, and mapped.
use Rattle.std.proofs.Common.{◌≡◌, ℕ, zero, suc, ◌+◌, ◌<◌, List, [], ◌∷◌, ◌++◌, map, length, get_or, slice_set, refl, ap, arith}

pub map_length : {A B : Type 0} (f : A → B) (xs : List A) → length (map f xs) ≡ length xs
map_length f [] = refl
map_length f (x ∷ xs) = ap suc (map_length f xs)

pub map_more : {A B : Type 0} (f : A → B) (xs : List A) (x : A) → map f (xs ++ (x ∷ [])) ≡ map f xs ++ (f x ∷ [])
map_more f [] x = refl
map_more f (y ∷ xs) x = ap (λ z. f y ∷ z) (map_more f xs x)

pub map_at : {A B : Type 0} (f : A → B) (xs : List A) (i : ℕ) (a : A) (b : B) → i < length xs → get_or (map f xs) i b ≡ f (get_or xs i a)
map_at f [] i a b l = absurd (omega arith)
map_at f (x ∷ xs) zero a b l = refl
map_at f (x ∷ xs) (suc i) a b l = map_at f xs i a b (omega arith)

-- a list of lists is long enough for each list in it that has elements
pub row_inside : {A : Type 0} (xs : List (List A)) (r c : ℕ) → c < length (get_or xs r []) → r < length xs
row_inside [] r c l = absurd (omega arith)
row_inside (x ∷ xs) zero c l = omega arith
row_inside (x ∷ xs) (suc r) c l = let rest : r < length xs = row_inside xs r c l in omega (arith, rest)

pub at_more : {A : Type 0} (xs : List A) (x d : A) (i : ℕ) → i < length xs → get_or (xs ++ (x ∷ [])) i d ≡ get_or xs i d
at_more [] x d i l = absurd (omega arith)
at_more (y ∷ xs) x d zero l = refl
at_more (y ∷ xs) x d (suc i) l = at_more xs x d i (omega arith)

pub at_end : {A : Type 0} (xs : List A) (x d : A) → get_or (xs ++ (x ∷ [])) (length xs) d ≡ x
at_end [] x d = refl
at_end (y ∷ xs) x d = at_end xs x d

pub any_default : {A : Type 0} (xs : List A) (i : ℕ) (a b : A) → i < length xs → get_or xs i a ≡ get_or xs i b
any_default [] i a b l = absurd (omega arith)
any_default (x ∷ xs) zero a b l = refl
any_default (x ∷ xs) (suc i) a b l = any_default xs i a b (omega arith)

-- a field of each element, if one element is replaced by one with the same field
pub map_set : {A B : Type 0} (f : A → B) (xs : List A) (i : ℕ) (x d : A) → f x ≡ f (get_or xs i d) → map f (slice_set xs i x) ≡ map f xs
map_set f [] i x d e = refl
map_set f (y ∷ xs) zero x d e = ap (λ z. z ∷ map f xs) e
map_set f (y ∷ xs) (suc i) x d e = ap (λ z. f y ∷ z) (map_set f xs i x d e)

pub set_length : {A : Type 0} (xs : List A) (i : ℕ) (x : A) → length (slice_set xs i x) ≡ length xs
set_length [] i x = refl
set_length (y ∷ xs) zero x = refl
set_length (y ∷ xs) (suc i) x = ap suc (set_length xs i x)

pub set_map : {A B : Type 0} (f : A → B) (xs : List A) (i : ℕ) (x : A) → map f (slice_set xs i x) ≡ slice_set (map f xs) i (f x)
set_map f [] i x = refl
set_map f (y ∷ xs) zero x = refl
set_map f (y ∷ xs) (suc i) x = ap (λ z. f y ∷ z) (set_map f xs i x)

pub set_more : {A : Type 0} (xs : List A) (i : ℕ) (x y : A) → i < length xs → slice_set (xs ++ (y ∷ [])) i x ≡ slice_set xs i x ++ (y ∷ [])
set_more [] i x y l = absurd (omega arith)
set_more (z ∷ xs) zero x y l = refl
set_more (z ∷ xs) (suc i) x y l = ap (λ w. z ∷ w) (set_more xs i x y (omega arith))

pub get_behind : {A : Type 0} (xs : List A) (x : A) (i : ℕ) (d : A) → i ≡ length xs → get_or (xs ++ (x ∷ [])) i d ≡ x
get_behind [] x zero d e = refl
get_behind [] x (suc i) d e = absurd (omega arith)
get_behind (y ∷ xs) x zero d e = absurd (omega arith)
get_behind (y ∷ xs) x (suc i) d e = get_behind xs x i d (omega arith)

pub length_behind : {A : Type 0} (xs : List A) (x : A) → length (xs ++ (x ∷ [])) ≡ length xs + 1
length_behind [] x = refl
length_behind (y ∷ xs) x = omega (arith, length_behind xs x)

-- a list of one element
pub only_one : {A : Type 0} (xs : List A) (a : A) → length xs ≡ 1 → get_or xs 0 a ≡ a → xs ≡ a ∷ []
only_one [] a l e = absurd (omega arith)
only_one (x ∷ []) a l e = ap (λ z. z ∷ []) e
only_one (x ∷ (y ∷ xs)) a l e = absurd (omega arith)
