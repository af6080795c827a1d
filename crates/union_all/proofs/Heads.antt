-- The first answer of a branch and those that are left after it.
use Rattle.std.proofs.Common.{◌≡◌, ◌++◌, ◌∙◌, ℕ, ℤ, Option, None, Some, List, [], ◌∷◌, length, take, MatchOption, IfSome, IfNone, option_map, refl, ap, sym}
use Rattle.anyk_model.specs.Query.{Query}
use Rattle.tdp_core.specs.AnswerView.{AnswerView}
use Rattle.witness_key.specs.WitnessKey.{combinations_in}
use Rattle.union_all.specs.Merge.{first_of}

-- what is at hand is the first that is left
pub head_told : (query : Query) (head : Option (List ℕ)) (rest : List AnswerView) (left : List (List ℕ)) → (head ≡ None → rest ≡ [])
    → left ≡ first_of (length query.items) head ++ combinations_in query rest
    → MatchOption head (left ≡ []) (λ rows. (later : List (List ℕ)) × (left ≡ take (length query.items) rows ∷ later))
head_told query None rest left none is = is ∙ ap (combinations_in query) (none refl)
head_told query (Some rows) rest left none is = (combinations_in query rest, is)

-- the engine's next answer, and those that it has left after it
pub next_told : {A : Type 0} (query : Query) (rows : A → List ℕ) (key : A → List ℤ) (next : Option A) (old new : List AnswerView)
    → IfSome next (λ a. old ≡ record { rows = rows a; key = key a } ∷ new) → IfNone next ((old ≡ []) × (new ≡ []))
    → combinations_in query old ≡ first_of (length query.items) (option_map rows next) ++ combinations_in query new
next_told query rows key None old new some none = ap (combinations_in query) (none.0 ∙ sym none.1)
next_told query rows key (Some a) old new some none = ap (combinations_in query) some

pub none_told : {A : Type 0} (rows : A → List ℕ) (next : Option A) (old new : List AnswerView) → IfNone next ((old ≡ []) × (new ≡ [])) → option_map rows next ≡ None → new ≡ []
none_told rows None old new none is = none.1
none_told rows (Some a) old new none is = absurd (cc is)

-- none is left if none is at hand
pub none_at_hand : (query : Query) (head : Option (List ℕ)) (rest : List AnswerView) → head ≡ None → (head ≡ None → rest ≡ [])
    → first_of (length query.items) head ++ combinations_in query rest ≡ []
none_at_hand query None rest is none = ap (combinations_in query) (none refl)
none_at_hand query (Some rows) rest is none = absurd (cc is)

-- the first that is left is taken out
pub head_taken : (query : Query) (head : Option (List ℕ)) (rows : List ℕ) (rest : List AnswerView) (later : List (List ℕ)) → head ≡ Some rows
    → combinations_in query rest ≡ later → first_of (length query.items) head ++ combinations_in query rest ≡ take (length query.items) rows ∷ later
head_taken query head rows rest later is told =
    ap (λ (h : Option (List ℕ)). first_of (length query.items) h ++ combinations_in query rest) is ∙ ap (λ (l : List (List ℕ)). take (length query.items) rows ∷ l) told
