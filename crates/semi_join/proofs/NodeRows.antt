-- The rows that a node keeps, read by their places.
use Rattle.std.proofs.Common.{◌≡◌, ℕ, zero, suc, ◌<◌, List, [], ◌∷◌, map, length, get_or, slice_get, Option, Some, refl, sym, ap, subst, ◌∙◌, arith}
use Rattle.std.specs.List.{All}
use Rattle.std.proofs.lemmas.List.{length-map}
use Rattle.std.proofs.lemmas.Option.{slice_get_within, get_or_from_slice_get}
use Rattle.tdp_core.specs.declared.parts.NodeRow.{NodeRow}
use Rattle.tdp_core.specs.RawView.{RawView, rows_at, raw_row_at}
use Rattle.tdp_core.proofs.RawReads.{field_read}

some_at : {X : Type 0} (xs : List X) (ks : List ℕ) (g : ℕ → Option X) → map Some xs ≡ map g ks → (i : ℕ) → i < length ks → (x : X) × (g (get_or ks i 0) ≡ Some x) × (slice_get xs i ≡ Some x)
some_at [] [] g e i h = absurd (omega arith)
some_at [] (k ∷ ks) g e i h = cc
some_at (x ∷ xs) [] g e i h = absurd (omega arith)
some_at (x ∷ xs) (k ∷ ks) g e zero h = let f : Some x ≡ g k = cc in (x, sym f, refl)
some_at (x ∷ xs) (k ∷ ks) g e (suc i) h =
    let f : map Some xs ≡ map g ks = cc in
    let less : i < length ks = omega arith in
    some_at xs ks g f i less

map_twice : {X Y Z : Type 0} (f : Y → Z) (g : X → Y) (xs : List X) → map f (map g xs) ≡ map (λ x. f (g x)) xs
map_twice f g [] = refl
map_twice f g (x ∷ xs) = ap (λ l. f (g x) ∷ l) (map_twice f g xs)

module _ {R : Type 0} (raw : RawView R) (v : ℕ) (ks : List ℕ) (rows : List (NodeRow R)) (all : map Some rows ≡ map (raw_row_at raw v) ks) where
  pub rows_count : length rows ≡ length ks
  rows_count = sym (length-map rows (λ r. Some r)) ∙ ap length all ∙ length-map ks (raw_row_at raw v)

  -- what row i has is what its row of the raw tree has
  pub row_field : {Y : Type 0} (f : NodeRow R → Y) (d : Y) (i : ℕ) → i < length ks → get_or (map f rows) i d ≡ get_or (map (λ x. f x.row) (rows_at raw v)) (get_or ks i 0) d
  row_field f d i h =
      let at = some_at rows ks (raw_row_at raw v) all i h in
      field_read f rows i at.0 d at.2 ∙ sym (field_read f (map (λ x. x.row) (rows_at raw v)) (get_or ks i 0) at.0 d at.1)
      ∙ ap (λ l. get_or l (get_or ks i 0) d) (map_twice f (λ x. x.row) (rows_at raw v))

  -- and what holds of each row of the raw tree holds of it
  pub row_fact : (P : NodeRow R → Type 0) → All P (map (λ x. x.row) (rows_at raw v)) → (i : ℕ) → i < length ks → (x : NodeRow R) × P x × (slice_get rows i ≡ Some x)
  row_fact P each i h =
      let at = some_at rows ks (raw_row_at raw v) all i h in
      let within = slice_get_within (map (λ x. x.row) (rows_at raw v)) (get_or ks i 0) at.0 at.1 in
      (at.0, subst P (get_or_from_slice_get (map (λ x. x.row) (rows_at raw v)) (get_or ks i 0) at.0 at.0 at.1) (each (get_or ks i 0) at.0 within), at.2)
