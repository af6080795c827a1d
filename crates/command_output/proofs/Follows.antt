-- Members that a cursor was given one by one.
use Rattle.std.proofs.Common.{◌≡◌, ◌+◌, ◌-◌, ◌<◌, ◌≤◌, ℕ, zero, suc, List, [], ◌∷◌, ◌++◌, length, map, take, drop, set, get_or, Option, Some, None, IfSome, IsSomeAnd, Result, Ok, Err, OnOk, refl, sym, ap, subst, ◌∙◌, arith}
use Rattle.std.specs.Prelude.{slice_get}
use Rattle.std.proofs.lemmas.List.{drop_all, drop_more, get_or-map, get_or-set_same, get_or-take, set-get_or, set-set, length-drop, length-map, length-take, length-take-le, take_all}
use Rattle.std.proofs.lemmas.Option.{get_or_from_slice_get, slice_get_within}
use Rattle.std.specs.List.{AllByRecursion, concat}
use Rattle.rankings.proofs.Members.{all_member, contains_member}
use Rattle.anyk_model.specs.Output.{cut}
use Rattle.output_model.specs.Session.{next_text}
use Rattle.output_model.specs.SessionPieces.{next_pieces}
use Rattle.output_model.proofs.SessionPieces.{next_joined}

-- ---- what is left

module _ (line : List ℕ → List ℕ) (ending : List ℕ) (members : List (List ℕ)) where
  -- one member more is printed
  next_member : (p n m : ℕ) (x : List ℕ) → p < length members → n ≡ m + 1
      → next_pieces line ending (drop p members) n ≡ line (get_or members p x) ∷ next_pieces line ending (drop (p + 1) members) m
  next_member p n m x inside more =
      let is : n ≡ suc m = omega (arith, more) in
      ap (next_pieces line ending (drop p members)) is ∙ ap (λ (l : List (List ℕ)). next_pieces line ending l (suc m)) (drop_more members p x inside)

  -- none is left
  next_ending : (p n m : ℕ) → length members ≤ p → n ≡ m + 1 → next_text line ending (drop p members) n ≡ ending
  next_ending p n m end more =
      let is : n ≡ suc m = omega (arith, more) in
      ap (next_text line ending (drop p members)) is ∙ ap (λ (l : List (List ℕ)). next_text line ending l (suc m)) (drop_all p members end)

  -- no more members are asked for
  pub next_done : (p n : ℕ) → n ≡ 0 → next_text line ending (drop p members) n ≡ []
  next_done p n none = ap (next_text line ending (drop p members)) none

-- ---- the place of the cursor

-- as many were given as there are from its place, and as many as were asked for
pub given_all : (members : List (List ℕ)) (p given count : ℕ) → given ≤ length (drop p members) → given ≡ count → length (take count (drop p members)) ≡ given
given_all members p given count within all =
    let e = length-take-le count (drop p members) (omega (arith, within, all)) in omega (arith, e, all)

-- the list ended before
pub given_less : (members : List (List ℕ)) (p given count : ℕ) → given ≤ length (drop p members) → given < count → length members ≤ p + given
    → length (take count (drop p members)) ≡ given
given_less members p given count within less end =
    let all : length (drop p members) ≤ count = omega (arith, length-drop p members, end, less) in
    omega (arith, ap length (take_all count (drop p members) all), length-drop p members, end, within)

-- ---- the list

-- a limit leaves as many answers as members
cut-length : {A B : Type 0} (limit : Option ℕ) (f : A → B) (list : List A) → length (cut limit (map f list)) ≡ length (cut limit list)
cut-length None f list = length-map list f
cut-length (Some n) f list = omega (arith, length-take n (map f list), length-take n list, length-map list f)

cut_within : (limit : Option ℕ) (list : List (List ℕ)) (p : ℕ) → IfSome limit (λ n. p < n) → p < length list → p < length (cut limit list)
cut_within None list p below inside = inside
cut_within (Some n) list p below inside = omega (arith, length-take n list, below, inside)

-- no more are left than there are, and none past the limit
pub cut_short : {A : Type 0} (limit : Option ℕ) (list : List A) → length (cut limit list) ≤ length list
cut_short None list = omega arith
cut_short (Some n) list = omega (arith, length-take n list)

pub cut_ended : {A : Type 0} (limit : Option ℕ) (list : List A) (p : ℕ) → IsSomeAnd limit (λ n. n ≤ p) → length (cut limit list) ≤ p
cut_ended None list p past = absurd past
cut_ended (Some n) list p past = omega (arith, length-take n list, past)

pub cut_at : (limit : Option ℕ) (list : List (List ℕ)) (p : ℕ) (x : List ℕ) → IfSome limit (λ n. p < n) → get_or (cut limit list) p x ≡ get_or list p x
cut_at None list p x below = refl
cut_at (Some n) list p x below = get_or-take n list p x below

-- the member at the place of an answer
told_within : {A B : Type 0} (f : B → A) (answers : List B) (p : ℕ) (b : B) → slice_get answers p ≡ Some b → p < length (map f answers)
told_within f answers p b at = omega (arith, slice_get_within answers p b at, length-map answers f)

told_is : {A B : Type 0} (f : B → A) (answers : List B) (p : ℕ) (b : B) (x : A) → slice_get answers p ≡ Some b → f b ≡ get_or (map f answers) p x
told_is f answers p b x at =
    ap f (sym (get_or_from_slice_get answers p b b at)) ∙ sym (get_or-map f answers p b x (slice_get_within answers p b at))

-- what holds for all answers holds for it
pub told_all : {B : Type 0} (P : B → Type 0) (answers : List B) (p : ℕ) (b : B) → AllByRecursion P answers → slice_get answers p ≡ Some b → P b
told_all P answers p b all at =
    all_member P b answers all (contains_member b answers p (slice_get_within answers p b at) (get_or_from_slice_get answers p b b at))

-- ---- one member after another

-- no member was given yet, and all are left to give
pub next_start : (P : ℕ → ℕ → Type 0) (place count : ℕ) → P place count → P (place + 0) (count - 0)
next_start P place count h =
    let same : place ≡ place + 0 = omega arith in
    let also : count ≡ count - 0 = omega arith in
    subst (λ n. P (place + 0) n) also (subst (λ p. P p count) same h)

pub always : {A E : Type 0} {P : Type 0} (r : Result A E) → P → OnOk r P
always (Ok a) h = h
always (Err e) h = tt

pub both_ok : {A E : Type 0} {P Q R : Type 0} (r : Result A E) → (P → Q → R) → OnOk r P → OnOk r Q → OnOk r R
both_ok (Ok a) f p q = f p q
both_ok (Err e) f p q = tt

-- a place past the start
past_start : (members : List (List ℕ)) (p given q : ℕ) → q ≡ p + given → q < length members → given + 1 ≤ length (drop p members)
past_start members p given q is inside = omega (arith, length-drop p members, is, inside)

-- the pieces that are left, from the next member
next_given : (line : List ℕ → List ℕ) (ending : List ℕ) (limit : Option ℕ) (ranking : List (List ℕ)) (start given count place : ℕ) (x : List ℕ)
    → place ≡ start + given → given < count → IfSome limit (λ n. place < n) → place < length ranking
    → next_pieces line ending (drop (start + given) (cut limit ranking)) (count - given)
    ≡ line (get_or ranking place x) ∷ next_pieces line ending (drop (start + (given + 1)) (cut limit ranking)) (count - (given + 1))
next_given line ending limit ranking start given count place x is less below inside =
    let members = cut limit ranking in
    let within = cut_within limit ranking place below inside in
    let more : count - given ≡ (count - (given + 1)) + 1 = omega (arith, less) in
    let on : place + 1 ≡ start + (given + 1) = omega (arith, is) in
    ap (λ (p : ℕ). next_pieces line ending (drop p members) (count - given)) (sym is)
    ∙ next_member line ending members place (count - given) (count - (given + 1)) x within more
    ∙ ap (λ (m : List ℕ). line m ∷ next_pieces line ending (drop (place + 1) members) (count - (given + 1))) (cut_at limit ranking place x below)
    ∙ ap (λ (p : ℕ). line (get_or ranking place x) ∷ next_pieces line ending (drop p members) (count - (given + 1))) on

-- ---- the answers that stand for members

module _ {B : Type 0} (f : B → List ℕ) (limit : Option ℕ) (answers : List B) (start given place : ℕ) (is : place ≡ start + given) where
  -- the pieces that are left, from the member that the next answer stands for
  pub pieces_given : (line : List ℕ → List ℕ) (ending : List ℕ) (count : ℕ) (b : B) → given < count → IfSome limit (λ n. place < n) → slice_get answers place ≡ Some b
      → next_pieces line ending (drop (start + given) (cut limit (map f answers))) (count - given)
      ≡ line (f b) ∷ next_pieces line ending (drop (start + (given + 1)) (cut limit (map f answers))) (count - (given + 1))
  pieces_given line ending count b less below at =
      next_given line ending limit (map f answers) start given count place [] is less below (told_within f answers place b at)
      ∙ ap (λ (m : List ℕ). line m ∷ next_pieces line ending (drop (start + (given + 1)) (cut limit (map f answers))) (count - (given + 1)))
      (sym (told_is f answers place b [] at))

  -- the same of their text
  pub answer_given : (line : List ℕ → List ℕ) (ending : List ℕ) (count : ℕ) (b : B) → given < count → IfSome limit (λ n. place < n) → slice_get answers place ≡ Some b
      → next_text line ending (drop (start + given) (cut limit (map f answers))) (count - given)
      ≡ line (f b) ++ next_text line ending (drop (start + (given + 1)) (cut limit (map f answers))) (count - (given + 1))
  answer_given line ending count b less below at =
      next_joined line ending (drop (start + given) (cut limit (map f answers))) (count - given)
      ∙ ap concat (pieces_given line ending count b less below at)
      ∙ ap (λ (text : List ℕ). line (f b) ++ text) (sym (next_joined line ending (drop (start + (given + 1)) (cut limit (map f answers))) (count - (given + 1))))

  -- that member is within the list
  pub answer_inside : (b : B) → IfSome limit (λ n. place < n) → slice_get answers place ≡ Some b → given + 1 ≤ length (drop start (cut limit (map f answers)))
  answer_inside b below at =
      past_start (cut limit (map f answers)) start given place is (cut_within limit (map f answers) place below (told_within f answers place b at))

  -- there is no next answer
  pub answers_ended : length (cut limit answers) ≤ place → length (cut limit (map f answers)) ≤ start + given
  answers_ended end = omega (arith, is, end, cut-length limit f answers)

-- nothing but the ending is left
pub ending_left : (line : List ℕ → List ℕ) (ending : List ℕ) (members : List (List ℕ)) (start given count : ℕ) → length members ≤ start + given → given < count
    → next_text line ending (drop (start + given) members) (count - given) ≡ ending
ending_left line ending members start given count end less =
    next_ending line ending members (start + given) (count - given) (count - (given + 1)) end (omega (arith, less))

-- ---- one place of many

some_inside : {A : Type 0} (places : List (Option A)) (i : ℕ) (a : A) → get_or places i None ≡ Some a → i < length places
some_inside [] i a e = cc
some_inside (o ∷ places) zero a e = omega arith
some_inside (o ∷ places) (suc i) a e = let h = some_inside places i a e in omega (arith, h)

pub place_set : {A : Type 0} (places new : List (Option A)) (i : ℕ) (a b : A) → get_or places i None ≡ Some a → new ≡ set places i (Some b) → get_or new i None ≡ Some b
place_set places new i a b here is = ap (λ l. get_or l i None) is ∙ get_or-set_same places i (Some b) None (some_inside places i a here)

pub places_set : {A : Type 0} (old mid new : List (Option A)) (i : ℕ) (a b : A) → mid ≡ set old i (Some a) → new ≡ set mid i (Some b) → new ≡ set old i (Some b)
places_set old mid new i a b first second = second ∙ ap (λ l. set l i (Some b)) first ∙ set-set old i (Some a) (Some b)

-- a place is put where it is
pub place_kept : {A : Type 0} (places : List (Option A)) (i : ℕ) (a : A) → get_or places i None ≡ Some a → places ≡ set places i (Some a)
place_kept places i a at = sym (subst (λ v. set places i v ≡ places) at (set-get_or places i None))

pub same_place_in : (p q : ℕ) → ◌≡◌ {A = Option ℕ} (Some p) (Some q) → p ≡ q
same_place_in p q e = cc
