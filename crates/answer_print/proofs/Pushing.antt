-- One more field at the end of a record that grows in a loop.
use Rattle.std.proofs.Common.{Bool, true, false, if◌then◌else◌, ◌≡◌, ◌+◌, ◌<◌, ℕ, List, [], ◌∷◌, ◌++◌, map, length, take, get_or, sym, ap, ◌∙◌, append_assoc}
use Rattle.std.specs.List.{range_with_len}
use Rattle.std.proofs.lemmas.List.{map-append, take_more}
use Rattle.std.proofs.lemmas.List.FromFn.{map-range_with_len_more}

-- a loop over a list that writes what it makes of each element
pub element_more : {B X : Type 0} (f : X → B) (base : List B) (xs : List X) (i : ℕ) (x : X) (y : B)
    → y ≡ f (get_or xs i x) → i < length xs
    → (base ++ map f (take i xs)) ++ y ∷ [] ≡ base ++ map f (take (i + 1) xs)
element_more f base xs i x y here inside =
    append_assoc base (map f (take i xs)) (y ∷ []) ∙ ap (λ z. base ++ (map f (take i xs) ++ z ∷ [])) here
    ∙ ap (λ l. base ++ l) (sym (map-append f (take i xs) (get_or xs i x ∷ [])) ∙ ap (map f) (sym (take_more xs i x inside)))

-- a loop over numbers that writes what it makes of each number
pub number_more : {B : Type 0} (f : ℕ → B) (base : List B) (first n number : ℕ) → first + n ≡ number
    → (base ++ map f (range_with_len first n)) ++ f number ∷ [] ≡ base ++ map f (range_with_len first (n + 1))
number_more f base first n number at =
    append_assoc base (map f (range_with_len first n)) (f number ∷ []) ∙ ap (λ l. base ++ l) (sym (map-range_with_len_more f first n number at))

-- fields that are written if they are shown
pub shown : {B : Type 0} (shows : Bool) (ys : List B) → shows ≡ true → ys ≡ (if shows then ys else [])
shown shows ys is = rw is

pub hidden : {B : Type 0} (shows : Bool) (ys : List B) → shows ≡ false → [] ≡ (if shows then ys else [])
hidden shows ys is = rw is

-- two groups of fields, one after the other
pub two_groups : {B : Type 0} (base a b x y : List B) → a ≡ x → b ≡ y → (base ++ a) ++ b ≡ base ++ (x ++ y)
two_groups base a b x y first second = append_assoc base a b ∙ ap (λ l. base ++ (l ++ b)) first ∙ ap (λ l. base ++ (x ++ l)) second
