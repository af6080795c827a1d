-- A text that was sent piece by piece, one for each element of a list.
use Rattle.std.proofs.Common.{◌≡◌, ◌≤◌, ◌<◌, ◌+◌, ℕ, List, [], ◌∷◌, ◌++◌, Err, sym, ap, ◌∙◌, append-nil, take, drop, length, get_or, take-append-drop, subst, flat_map}
use Rattle.std.specs.Io.KnownBytes.{Appends}
use Rattle.std.proofs.lemmas.List.{take_more}
use Rattle.std.proofs.lemmas.Grind.{flat_map-append}
use Rattle.outer_io.specs.SinkText.{Sent}
use Rattle.outer_io.specs.SinkState.{SinkState}
use Rattle.refusals.proofs.Sending.{Sent-then, Sent-stopped}

-- the texts of the elements before one, its own text, and those of the elements after it
split_at_piece : {X : Type 0} (f : X → List ℕ) (xs : List X) (i : ℕ) (x : X) → i < length xs
    → flat_map f xs ≡ flat_map f (take i xs) ++ f (get_or xs i x) ++ flat_map f (drop (i + 1) xs)
split_at_piece f xs i x h =
    ap (flat_map f) (sym (take-append-drop (i + 1) xs))
    ∙ flat_map-append f (take (i + 1) xs) (drop (i + 1) xs)
    ∙ ap (λ l. flat_map f l ++ flat_map f (drop (i + 1) xs)) (take_more xs i x h)
    ∙ ap (λ l. l ++ flat_map f (drop (i + 1) xs)) (flat_map-append f (take i xs) (get_or xs i x ∷ []) ∙ ap (λ l. flat_map f (take i xs) ++ l) (append-nil (f (get_or xs i x))))

-- the text of one element was cut short
pub Sent-cut : {X E : Type 0} (f : X → List ℕ) (a b c : SinkState) (xs : List X) (i : ℕ) (x : X) (e : E)
    → Appends a.written b.written (flat_map f (take i xs)) → a.faults ≤ b.faults → i < length xs → Sent b c (f (get_or xs i x)) (Err e) → Sent a c (flat_map f xs) (Err e)
Sent-cut f a b c xs i x e before earlier h cut =
    subst (λ text. Sent a c text (Err e)) (sym (split_at_piece f xs i x h))
    (Sent-stopped a c _ _ e (Sent-then a b c _ _ (Err e) before earlier cut))
