-- Rows of a raw tree read by their places.
use Rattle.std.proofs.Common.{◌≡◌, ℕ, zero, suc, ◌<◌, ◌≤◌, List, [], ◌∷◌, length, map, get_or, slice_get, Some, sym, ap, ◌∙◌, arith}
use Rattle.std.specs.List.{sum_by}
use Rattle.std.proofs.lemmas.List.{get_or-map, get_or_default, length-map}
use Rattle.std.proofs.lemmas.List.Sums.{sum_by-cons}
use Rattle.std.proofs.lemmas.Option.{slice_get_read, slice_get_within, get_or_from_slice_get}

-- one list is not longer than all together
pub length_within : {X : Type 0} (xss : List (List X)) (v : ℕ) → length (get_or xss v []) ≤ sum_by length xss
length_within [] v = omega arith
length_within (xs ∷ xss) zero = omega (arith, sum_by-cons length xs xss)
length_within (xs ∷ xss) (suc v) = omega (arith, sum_by-cons length xs xss, length_within xss v)

-- what a reader gives of a row
pub field_read : {X Y : Type 0} (f : X → Y) (xs : List X) (i : ℕ) (x : X) (d : Y) → slice_get xs i ≡ Some x → get_or (map f xs) i d ≡ f x
field_read f xs i x d e = get_or-map f xs i x d (slice_get_within xs i x e) ∙ ap f (get_or_from_slice_get xs i x x e)

pub field_had : {X Y : Type 0} (f : X → Y) (xs : List X) (i : ℕ) (x : X) → slice_get xs i ≡ Some x → slice_get (map f xs) i ≡ Some (f x)
field_had f xs i x e =
    let within : i < length xs = slice_get_within xs i x e in
    slice_get_read (map f xs) (length xs) i (f x) (sym (length-map xs f)) within (sym (field_read f xs i x (f x) e))

-- what a reader gives of a part of a row
pub part_read : {X Y Z : Type 0} (g : X → Y) (f : Y → Z) (xs : List X) (i : ℕ) (y : Y) (d : Z) → slice_get (map g xs) i ≡ Some y → get_or (map (λ x. f (g x)) xs) i d ≡ f y
part_read g f [] i y d e = cc
part_read g f (x ∷ xs) zero y d e = let h : g x ≡ y = cc in ap f h
part_read g f (x ∷ xs) (suc i) y d e = part_read g f xs i y d e

-- a list among others, as it is read
pub list_read : {X : Type 0} (xss : List (List X)) (v : ℕ) (xs : List X) → v < length xss → xs ≡ get_or xss v xs → get_or xss v [] ≡ xs
list_read xss v xs h e = get_or_default xss v [] xs h ∙ sym e
