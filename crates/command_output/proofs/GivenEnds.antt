-- Answers that an engine gave one by one, whose ends are kept.
use Rattle.std.proofs.Common.{◌≡◌, ◌≤◌, ◌<◌, ◌+◌, ◌∷◌, ◌++◌, [], ℕ, List, length, take, drop, get_or, IfSome, option_map, Option, Some, None, refl, sym, ap, subst, ◌∙◌, arith, inl, inr}
use Rattle.std.specs.List.{last_or, slice_get}
use Rattle.std.specs.Option.{option_or}
use Rattle.std.proofs.lemmas.Bool.{cases_lt}
use Rattle.std.proofs.lemmas.List.{drop_all, drop_more, length-append, length-drop, take_all, take_more}
use Rattle.anyk_model.specs.Output.{cut}
use Rattle.tdp_core.specs.AnswerView.{AnswerView}
use Rattle.bound_query.specs.Steps.{steps_for}
use Rattle.bound_query.proofs.Pacing.{steps_more}
use Rattle.bound_query.proofs.Calls.{HasCalled, rises_from}
use Rattle.command_output.specs.Ends.{HasEnds}
use Rattle.command_output.specs.declared.first_and_last.FirstAndLast.{FirstAndLast}

-- the first i answers were given, and the engine has the others left
pub record HasTaken (answers : List AnswerView) (i : ℕ) (left : List AnswerView) (ends : FirstAndLast) (share : List ℕ → ℕ → ℕ) (size : List ℕ) (calls : ℕ) (size_now : List ℕ) (calls_now started spent : ℕ) : Type 0 where
  pub rest : left ≡ drop i answers
  pub within : i ≤ length answers
  pub kept : HasEnds (take i answers) ends
  pub called : HasCalled share size calls i size_now calls_now started spent

-- ---- one answer more at the end

last_behind : {A : Type 0} (o : Option A) (xs : List A) (x : A) → last_or o (xs ++ x ∷ []) ≡ Some x
last_behind o [] x = refl
last_behind o (y ∷ xs) x = last_behind (Some y) xs x

first_behind : {A B : Type 0} (f : A → B) (xs : List A) (x : A) → option_or (option_map f (slice_get xs 0)) (Some (f x)) ≡ option_map f (slice_get (xs ++ x ∷ []) 0)
first_behind f [] x = refl
first_behind f (y ∷ xs) x = refl

abbrev rows_of : AnswerView → List ℕ
rows_of answer = answer.rows

pub ends_more : (given : List AnswerView) (answer : AnswerView) (rows : List ℕ) (old new : FirstAndLast) → HasEnds given old → answer.rows ≡ rows
    → new.count ≡ old.count + 1 → new.first ≡ option_or old.first (Some rows) → new.last ≡ Some rows → HasEnds (given ++ answer ∷ []) new
ends_more given answer rows old new h same count first last = record {
  count = let before = h.count in omega (arith, count, before, length-append given (answer ∷ []));
  first = first ∙ ap (λ (o : Option (List ℕ)). option_or o (Some rows)) h.first
      ∙ ap (λ (r : List ℕ). option_or (option_map rows_of (slice_get given 0)) (Some r)) (sym same) ∙ first_behind rows_of given answer;
  last = last ∙ ap Some (sym same) ∙ sym (ap (option_map rows_of) (last_behind None given answer));
}

-- ---- the answers so far

module _ (answers : List AnswerView) (i : ℕ) where
  -- an answer was given, so one was left
  one_left : (answer : AnswerView) (rest : List AnswerView) → answer ∷ rest ≡ drop i answers → i < length answers
  one_left answer rest is = elim (cases_lt i (length answers)) [ inl inside ↦ inside | inr end ↦ none (drop_all i answers end) ]
    where
      none : drop i answers ≡ [] → i < length answers
      none empty = let impossible : answer ∷ rest ≡ [] = is ∙ empty in cc

  -- none was given, so none was left
  none_left : drop i answers ≡ [] → length answers ≤ i
  none_left empty = omega (arith, ap length empty, length-drop i answers)

  module _ (left : List AnswerView) (ends : FirstAndLast) (share : List ℕ → ℕ → ℕ) (size : List ℕ) (calls : ℕ) (size_now : List ℕ) (calls_now started spent : ℕ)
      (h : HasTaken answers i left ends share size calls size_now calls_now started spent) where
    pub taken_more : (answer : AnswerView) (rest : List AnswerView) (new : FirstAndLast) (size_later : List ℕ) (calls_later later : ℕ) → left ≡ answer ∷ rest
        → HasEnds (take i answers ++ answer ∷ []) new → HasCalled share size calls (i + 1) size_later calls_later started later
        → HasTaken answers (i + 1) rest new share size calls size_later calls_later started later
    taken_more answer rest new size_later calls_later later is ends_are called =
        let here : answer ∷ rest ≡ drop i answers = sym is ∙ h.rest in
        let inside = one_left answer rest here in
        let split : answer ∷ rest ≡ get_or answers i answer ∷ drop (i + 1) answers = here ∙ drop_more answers i answer inside in
        let same : answer ≡ get_or answers i answer = cc in
        let behind : rest ≡ drop (i + 1) answers = cc in
        let all : take i answers ++ answer ∷ [] ≡ take (i + 1) answers =
        ap (λ (a : AnswerView). take i answers ++ a ∷ []) same ∙ sym (take_more answers i answer inside) in
        record {
          rest = behind;
          within = omega (arith, inside);
          kept = subst (λ (given : List AnswerView). HasEnds given new) all ends_are;
          called = called;
        }

    -- the engine has none left
    pub taken_all : (limit : Option ℕ) → IfSome limit (λ n. i ≤ n) → left ≡ [] → HasEnds (cut limit answers) ends
    taken_all limit low empty = subst (λ (given : List AnswerView). HasEnds given ends) (by limit low) h.kept
      where
        end : length answers ≤ i
        end = none_left (sym h.rest ∙ empty)

        by : (limit : Option ℕ) → IfSome limit (λ n. i ≤ n) → take i answers ≡ cut limit answers
        by None low = take_all i answers end
        by (Some n) low = take_all i answers end ∙ sym (take_all n answers (omega (arith, low, end)))

    -- the limit is reached
    pub taken_limit : (limit : Option ℕ) → limit ≡ Some i → HasEnds (cut limit answers) ends
    taken_limit limit reached = subst (λ (o : Option ℕ). HasEnds (cut o answers) ends) (sym reached) h.kept

-- this many calls are within those that are asked for
pub calls_within : (share : List ℕ → ℕ → ℕ) (rises : (s : List ℕ) (c d : ℕ) → c ≤ d → share s c ≤ share s d) (size : List ℕ) (calls k most : ℕ) (size_now : List ℕ) (calls_now before now : ℕ)
    → HasCalled share size calls k size_now calls_now before now → k ≤ most → now ≤ before + steps_for (λ n. share size (calls + n)) most
calls_within share rises size calls k most size_now calls_now before now h few =
    omega (arith, steps_more (λ n. share size (calls + n)) (rises_from share rises size calls) k most few, h.spent)
