-- A script that keeps its rules by names uses only open cursors.
use Rattle.std.proofs.Common.{◌≡◌, ◌≢◌, ℕ, List, [], ◌∷◌, ◌++◌, Bool, true, false, not, ◌&&◌, ◌||◌, cond, Option, Some, None, IsSome, is_some, length, take, drop, ◌+◌, refl, sym, ap, ◌∙◌}
use Rattle.std.specs.Str.{bytes_eq}
use Rattle.std.proofs.lemmas.List.Folds.{list_any-append}
use Rattle.std.proofs.lemmas.Map.Views.{any-filter_same}
use Rattle.std.proofs.lemmas.Slice.Eq.{bytes_eq-Decides}
use Rattle.session_script.specs.declared.step.Step.{Step}
use Rattle.session_script.specs.declared.step.Step.TheVariants.{Open, Next, Fork, Rewind, Close}
use Rattle.session_script.specs.Script.{KeepsRules, is_open, names_after, names_without}
use Rattle.output_model.specs.Session.{Places, place_in, places_after, with_cursor}
use Rattle.command_output.specs.SessionRules.{CanFollow}

-- ---- names as texts

pub same_name : (a b : List ℕ) → bytes_eq a b ≡ true → a ≡ b
same_name a b e = (bytes_eq-Decides a b).0 e

pub name_same : (a b : List ℕ) → a ≡ b → bytes_eq a b ≡ true
name_same a b e = (bytes_eq-Decides a b).1 e

abbrev Same : Bool → Bool → Type 0
Same a b = a ≡ b

no_truth : {A : Type 0} → Same true false → A
no_truth e = cc

pub name_differs : (a b : List ℕ) → a ≢ b → bytes_eq a b ≡ false
name_differs a b differ = by (bytes_eq a b) refl
  where
    by : (t : Bool) → bytes_eq a b ≡ t → bytes_eq a b ≡ false
    by true e = absurd (differ (same_name a b e))
    by false e = e

-- the test is symmetric
turned : (a b : List ℕ) → bytes_eq a b ≡ bytes_eq b a
turned a b = by (bytes_eq a b) refl
  where
    by : (t : Bool) → bytes_eq a b ≡ t → bytes_eq a b ≡ bytes_eq b a
    by true e = e ∙ sym (name_same b a (sym (same_name a b e)))
    by false e = e ∙ sym (name_differs b a (λ same. no_truth (sym (name_same a b (sym same)) ∙ e)))

-- ---- the open names

-- the places are those of the open names
abbrev pub Opens : Places → List (List ℕ) → Type 0
Opens places names = (name : List ℕ) → is_some (places name) ≡ is_open names name

or_true : (b : Bool) → (b || true) ≡ true
or_true true = refl
or_true false = refl

or_false : (b : Bool) → (b || false) ≡ b
or_false true = refl
or_false false = refl

open_more : (names : List (List ℕ)) (name other : List ℕ) → is_open (names ++ name ∷ []) other ≡ (is_open names other || bytes_eq other name)
open_more names name other =
    list_any-append (λ x. bytes_eq x other) names (name ∷ [])
    ∙ ap (λ (b : Bool). is_open names other || b) (or_false (bytes_eq name other) ∙ turned name other)

opens_more : (places : Places) (names : List (List ℕ)) (name : List ℕ) (place : Option ℕ) → is_some place ≡ true → Opens places names
    → Opens (with_cursor places name place) (names ++ name ∷ [])
opens_more places names name place some opens other = by (bytes_eq other name) refl
  where
    by : (t : Bool) → bytes_eq other name ≡ t → is_some (cond (bytes_eq other name) place (places other)) ≡ is_open (names ++ name ∷ []) other
    by true e =
        ap (λ (b : Bool). is_some (cond b place (places other))) e ∙ some
        ∙ sym (open_more names name other ∙ ap (λ (b : Bool). is_open names other || b) e ∙ or_true (is_open names other))
    by false e =
        ap (λ (b : Bool). is_some (cond b place (places other))) e ∙ opens other
        ∙ sym (open_more names name other ∙ ap (λ (b : Bool). is_open names other || b) e ∙ or_false (is_open names other))

opens_moved : (places : Places) (names : List (List ℕ)) (name : List ℕ) (place : Option ℕ) → is_some place ≡ true → is_open names name ≡ true → Opens places names
    → Opens (with_cursor places name place) names
opens_moved places names name place some known opens other = by (bytes_eq other name) refl
  where
    by : (t : Bool) → bytes_eq other name ≡ t → is_some (cond (bytes_eq other name) place (places other)) ≡ is_open names other
    by true e =
        ap (λ (b : Bool). is_some (cond b place (places other))) e ∙ some ∙ sym (ap (is_open names) (same_name other name e) ∙ known)
    by false e = ap (λ (b : Bool). is_some (cond b place (places other))) e ∙ opens other

opens_without : (places : Places) (names : List (List ℕ)) (name : List ℕ) → Opens places names → Opens (with_cursor places name None) (names_without name names)
opens_without places names name opens other = by (bytes_eq other name) refl
  where
    kept : is_open (names_without name names) other ≡ (not (bytes_eq other name) && is_open names other)
    kept = any-filter_same (λ x. bytes_eq x other) (λ x. not (bytes_eq x name)) (not (bytes_eq other name))
        (λ x e. ap (λ (y : List ℕ). not (bytes_eq y name)) (same_name x other e)) names

    by : (t : Bool) → bytes_eq other name ≡ t → is_some (cond (bytes_eq other name) None (places other)) ≡ is_open (names_without name names) other
    by true e = ap (λ (b : Bool). is_some (cond b None (places other))) e ∙ sym (kept ∙ ap (λ (b : Bool). not b && is_open names other) e)
    by false e = ap (λ (b : Bool). is_some (cond b None (places other))) e ∙ opens other ∙ sym (kept ∙ ap (λ (b : Bool). not b && is_open names other) e)

-- ---- the rules

some_is : {A : Type 0} (o : Option A) → is_some o ≡ true → IsSome o
some_is None e = no_truth (sym e)
some_is (Some a) e = e

none_is : {A : Type 0} (o : Option A) → is_some o ≡ false → o ≡ None
none_is None e = refl
none_is (Some a) e = no_truth e

pub can_follow : (members : List (List ℕ)) (places : Places) (names : List (List ℕ)) (steps : List Step) → Opens places names → KeepsRules names steps
    → CanFollow members places steps
can_follow members places names [] opens rules = tt
can_follow members places names (Open name ∷ steps) opens rules = (
  none_is (places name) (opens name ∙ rules.1),
  can_follow members (places_after members places (Open name)) (names_after (Open name) names) steps (opens_more places names name (Some 0) refl opens) rules.2,
)
can_follow members places names (Next name count ∷ steps) opens rules = (
  some_is (places name) (opens name ∙ rules.1),
  can_follow members (places_after members places (Next name count)) (names_after (Next name count) names) steps
      (opens_moved places names name (Some (place_in places name + length (take count (drop (place_in places name) members)))) refl rules.1 opens) rules.2,
)
can_follow members places names (Fork name new ∷ steps) opens rules = (
  (some_is (places name) (opens name ∙ rules.1.0), none_is (places new) (opens new ∙ rules.1.1)),
  can_follow members (places_after members places (Fork name new)) (names_after (Fork name new) names) steps
      (opens_more places names new (places name) (opens name ∙ rules.1.0) opens) rules.2,
)
can_follow members places names (Rewind name ∷ steps) opens rules = (
  some_is (places name) (opens name ∙ rules.1),
  can_follow members (places_after members places (Rewind name)) (names_after (Rewind name) names) steps (opens_moved places names name (Some 0) refl rules.1 opens) rules.2,
)
can_follow members places names (Close name ∷ steps) opens rules = (
  some_is (places name) (opens name ∙ rules.1),
  can_follow members (places_after members places (Close name)) (names_after (Close name) names) steps (opens_without places names name opens) rules.2,
)
