-- A list with one thing more at its end, as it is shown.
use Rattle.std.proofs.Common.{◌≡◌, ◌++◌, ◌∷◌, ◌∙◌, [], List, map, ap}
use Rattle.std.proofs.lemmas.List.{map-append}

pub pushed_as : {A B : Type 0} (f : A → B) (old new : List A) (x : A) (y : B) → new ≡ old ++ x ∷ [] → f x ≡ y → map f new ≡ map f old ++ y ∷ []
pushed_as {B = B} f old new x y is same = ap (map f) is ∙ map-append f old (x ∷ []) ∙ ap (λ (z : B). map f old ++ z ∷ []) same
