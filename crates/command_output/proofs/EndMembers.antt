-- The ends of answers, as those of the combinations that they stand for.
use Rattle.std.proofs.Common.{◌≡◌, ◌+◌, ◌∷◌, ◌++◌, [], ℕ, zero, suc, List, length, map, take, nat_le, if◌then◌else◌, IfSome, option_map, Option, Some, None, codes, decimal, refl, sym, ap, subst, ◌∙◌}
use Rattle.std.specs.List.{AllByRecursion, last_or, slice_get}
use Rattle.std.proofs.lemmas.List.{length-map, take-map}
use Rattle.anyk_model.specs.Table.{Table}
use Rattle.anyk_model.specs.Query.{Query, IsCombination, row_counts}
use Rattle.anyk_model.specs.Output.{cut}
use Rattle.tdp_core.specs.AnswerView.{AnswerView}
use Rattle.bound_query.specs.Steps.{calls_for}
use Rattle.witness_key.specs.WitnessKey.{AreCombinations, combinations_in}
use Rattle.output_model.specs.Summary.{member_text, rows_in_all, summary_text}
use Rattle.command_output.specs.Ends.{HasEnds, ends_text}
use Rattle.command_output.specs.declared.first_and_last.FirstAndLast.{FirstAndLast}

-- ---- lists

cut_map : {A B : Type 0} (f : A → B) (limit : Option ℕ) (xs : List A) → cut limit (map f xs) ≡ map f (cut limit xs)
cut_map f None xs = refl
cut_map f (Some n) xs = take-map f n xs

pub calls_map : {A B : Type 0} (f : A → B) (limit : Option ℕ) (xs : List A) → calls_for limit (map f xs) ≡ calls_for limit xs
calls_map f None xs = ap (λ n. n + 1) (length-map xs f)
calls_map f (Some n) xs =
    ap (λ (k : ℕ). length (take n (map f xs)) + (if nat_le n k then 0 else 1)) (length-map xs f)
    ∙ ap (λ (k : ℕ). k + (if nat_le n (length xs) then 0 else 1)) (ap length (take-map f n xs) ∙ length-map (take n xs) f)

all_take : {A : Type 0} (P : A → Type 0) (n : ℕ) (xs : List A) → AllByRecursion P xs → AllByRecursion P (take n xs)
all_take P zero xs all = tt
all_take P (suc n) [] all = tt
all_take P (suc n) (x ∷ xs) all = (all.0, all_take P n xs all.1)

all_cut : {A : Type 0} (P : A → Type 0) (limit : Option ℕ) (xs : List A) → AllByRecursion P xs → AllByRecursion P (cut limit xs)
all_cut P None xs all = all
all_cut P (Some n) xs all = all_take P n xs all

-- ---- answers, and the combinations that they stand for

module _ (width : ℕ) (counts : List ℕ) where
  abbrev combination : AnswerView → List ℕ
  combination answer = take width answer.rows

  abbrev Chosen : AnswerView → Type 0
  Chosen answer = IsCombination counts (take width answer.rows)

  abbrev rows_of : Option AnswerView → Option (List ℕ)
  rows_of answer = option_map (λ (a : AnswerView). a.rows) answer

  first_same : (answers : List AnswerView) → option_map (take width) (rows_of (slice_get answers 0)) ≡ slice_get (map combination answers) 0
  first_same [] = refl
  first_same (answer ∷ answers) = refl

  first_chosen : (answers : List AnswerView) → AllByRecursion Chosen answers → IfSome (rows_of (slice_get answers 0)) (λ rows. IsCombination counts (take width rows))
  first_chosen [] all = tt
  first_chosen (answer ∷ answers) all = all.0

  last_same : (earlier : Option AnswerView) (answers : List AnswerView)
      → option_map (take width) (rows_of (last_or earlier answers)) ≡ last_or (option_map combination earlier) (map combination answers)
  last_same None [] = refl
  last_same (Some answer) [] = refl
  last_same earlier (answer ∷ answers) = last_same (Some answer) answers

  last_chosen : (earlier : Option AnswerView) (answers : List AnswerView) → IfSome (rows_of earlier) (λ rows. IsCombination counts (take width rows)) → AllByRecursion Chosen answers
      → IfSome (rows_of (last_or earlier answers)) (λ rows. IsCombination counts (take width rows))
  last_chosen earlier [] before all = before
  last_chosen earlier (answer ∷ answers) before all = last_chosen (Some answer) answers all.0 all.1

module _ (query : Query) (tables : List Table) (ends : FirstAndLast) (answers : List AnswerView) (all : AreCombinations query tables answers)
    (h : HasEnds (cut query.limit answers) ends) where
  abbrev width : ℕ
  width = length query.items

  abbrev counts : List ℕ
  counts = row_counts query.items tables

  abbrev given : List AnswerView
  given = cut query.limit answers

  all_given : AllByRecursion (Chosen width counts) given
  all_given = all_cut (Chosen width counts) query.limit answers all

  abbrev members : List (List ℕ)
  members = cut query.limit (combinations_in query answers)

  members_are : members ≡ map (combination width counts) given
  members_are = cut_map (combination width counts) query.limit answers

  pub first_rows : IfSome ends.first (λ rows. IsCombination counts (take (length query.items) rows))
  first_rows = subst (λ (o : Option (List ℕ)). IfSome o (λ rows. IsCombination counts (take (length query.items) rows))) (sym h.first)
      (first_chosen width counts given all_given)

  pub last_rows : IfSome ends.last (λ rows. IsCombination counts (take (length query.items) rows))
  last_rows = subst (λ (o : Option (List ℕ)). IfSome o (λ rows. IsCombination counts (take (length query.items) rows))) (sym h.last)
      (last_chosen width counts None given tt all_given)

  abbrev text_by : ℕ → Option (List ℕ) → Option (List ℕ) → List ℕ
  text_by count first last =
      codes "rows " ++ decimal (rows_in_all tables) ++ codes "\nanswers " ++ decimal count
      ++ codes "\nfirst " ++ member_text query tables first ++ codes "\nlast " ++ member_text query tables last ++ codes "\n"

  pub ends_text_lem : ends_text query tables ends ≡ summary_text query tables members
  ends_text_lem =
      let count : ends.count ≡ length members = h.count ∙ sym (ap length members_are ∙ length-map given (combination width counts)) in
      let first : option_map (take (length query.items)) ends.first ≡ slice_get members 0 =
      ap (option_map (take (length query.items))) h.first ∙ first_same width counts given ∙ ap (λ (l : List (List ℕ)). slice_get l 0) (sym members_are) in
      let last : option_map (take (length query.items)) ends.last ≡ last_or None members =
      ap (option_map (take (length query.items))) h.last ∙ last_same width counts None given ∙ ap (λ (l : List (List ℕ)). last_or None l) (sym members_are) in
      ap (λ (n : ℕ). text_by n (option_map (take (length query.items)) ends.first) (option_map (take (length query.items)) ends.last)) count
      ∙ ap (λ (o : Option (List ℕ)). text_by (length members) o (option_map (take (length query.items)) ends.last)) first
      ∙ ap (λ (o : Option (List ℕ)). text_by (length members) (slice_get members 0) o) last
