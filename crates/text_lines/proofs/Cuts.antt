-- A text, cut at its first separator.
use Rattle.std.proofs.Common.{◌≡◌, ℕ, ◌+◌, ◌-◌, ◌<◌, List, [], ◌∷◌, length, take, drop, Some, None, Bool, true, false}
use Rattle.std.proofs.Common.{cond, ltb, eqb, refl, ap, ◌∙◌, arith, ltb}
use Rattle.std.specs.List.{slice_split, position, position_or_len}
use Rattle.std.specs.Str.Lines.{lines, lines_of_parts, strip_carriage_return}
use Rattle.std.proofs.lemmas.Bool.{ltb-true, ltb-false}
use Rattle.std.proofs.lemmas.List.Splits.{slice_split_first, slice_split_none, length-slice_split}
use Rattle.std.proofs.lemmas.List.Sums.{fails_before_first}
use Rattle.std.proofs.lemmas.List.{take_all, length-drop}

found : (b : Bool) (m n : ℕ) → cond b (Some m) None ≡ Some n → (b ≡ true) × (m ≡ n)
found true m n e = (refl, cc)
found false m n e = absurd cc

missed : (b : Bool) (m : ℕ) → cond b (Some m) None ≡ None → b ≡ false
missed true m e = absurd cc
missed false m e = refl

pub cut_at : (p : ℕ → Bool) (xs : List ℕ) (n : ℕ) → position p xs ≡ Some n
    → slice_split p xs ≡ take n xs ∷ slice_split p (drop (n + 1) xs)
cut_at p xs n e =
    let f = found (ltb (position_or_len p xs) (length xs)) (position_or_len p xs) n e in
    rw (f.1) at (slice_split_first p xs 0 (ltb-true _ _ f.0))

pub no_cut : (p : ℕ → Bool) (xs : List ℕ) → position p xs ≡ None → slice_split p xs ≡ xs ∷ []
no_cut p xs e =
    let none = missed (ltb (position_or_len p xs) (length xs)) (position_or_len p xs) e in
    slice_split_none p xs (λ k d h. fails_before_first p xs k d (omega (arith, ltb-false _ _ none)))

-- the lines, cut at the first line end
pub lines_cut : (x : List ℕ) (more : List (List ℕ)) → 0 < length more
    → lines_of_parts (x ∷ more) ≡ strip_carriage_return x ∷ lines_of_parts more
lines_cut x [] h = absurd (omega arith)
lines_cut x (y ∷ more) h = refl

pub first_of_lines : (bs : List ℕ) (n : ℕ) → position (λ b. eqb b 10) bs ≡ Some n
    → lines bs ≡ strip_carriage_return (take n bs) ∷ lines (drop (n + 1) bs)
first_of_lines bs n e =
    ap lines_of_parts (cut_at (λ b. eqb b 10) bs n e)
    ∙ lines_cut (take n bs) (slice_split (λ b. eqb b 10) (drop (n + 1) bs))
    (omega (arith, length-slice_split (λ b. eqb b 10) (drop (n + 1) bs)))

pub last_line : (bs : List ℕ) → position (λ b. eqb b 10) bs ≡ None → lines bs ≡ cond (eqb (length bs) 0) [] (bs ∷ [])
last_line bs e = ap lines_of_parts (no_cut (λ b. eqb b 10) bs e)

-- what a slice from a place on is
pub rest_from : (bs : List ℕ) (n : ℕ) → take (length bs - n) (drop n bs) ≡ drop n bs
rest_from bs n = take_all (length bs - n) (drop n bs) (omega (arith, length-drop n bs))
