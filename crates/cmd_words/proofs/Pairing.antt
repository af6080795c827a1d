-- Arguments of the form TABLE=FILE, one after another.
use Rattle.std.proofs.Common.{◌≡◌, ◌<◌, ◌≤◌, ◌+◌, ℕ, List, [], ◌∷◌, ◌++◌, Some, Ok, true, map, take, get_or, length, sym, ap, subst, ◌∙◌}
use Rattle.std.specs.Prelude.{◌&&◌, Option, is_some, option_to_list, Result, IsErrAnd, IsErrOf}
use Rattle.std.proofs.lemmas.List.{map-append, take_all, take_more}
use Rattle.std.proofs.lemmas.List.Folds.{list_all-append}
use Rattle.std.proofs.lemmas.Grind.{flat_map-append}
use Rattle.cmd_words.specs.Pairs.{pair_of, pairs_of, are_pairs}
use Rattle.cmd_words.specs.NamedPairs.{named_pair}
use Rattle.cmd_words.specs.declared.fault.WordsFault.{WordsFault}
use Rattle.cmd_words.specs.declared.fault.WordsFault.TheVariants.{NoMemory, Usage}
use Rattle.cmd_words.specs.declared.pairs.Named.{Named}
use denote.Ref.{Bor}

-- a value is no fault, and a lack of memory is another one
module _ {T : Type 0} {A : Type 0} where
  pub no_fault : (x : T) (fault : WordsFault) → IsErrOf (Ok x) fault → A
  no_fault x fault is = cc

  pub no_usage : (r : Result T WordsFault) → IsErrAnd r (λ fault. fault ≡ NoMemory) → IsErrOf r Usage → A
  no_usage r gives is = let none : Usage ≡ NoMemory = rw is at gives in cc

-- the first arguments are all of them
module _ (P : List (Bor (List ℕ)) → Type 0) (words : List (Bor (List ℕ))) (k : ℕ) where
  pub at_all : length words ≤ k → P (take k words) → P words
  at_all end holds = subst P (take_all k words end) holds

-- one more argument after the first ones
module _ (words : List (Bor (List ℕ))) (k : ℕ) (d : Bor (List ℕ)) (within : k < length words) where
  firsts : map (λ word. word.now) (take (k + 1) words) ≡ map (λ word. word.now) (take k words) ++ (get_or words k d).now ∷ []
  firsts = ap (map (λ word. word.now)) (take_more words k d within) ∙ map-append (λ word. word.now) (take k words) (get_or words k d ∷ [])

  module _ (pair : List ℕ × List ℕ) (read : Some pair ≡ pair_of (get_or words k d).now) where
    pub pairs_more : (named : List Named) (more : Named) → map named_pair named ≡ pairs_of (map (λ word. word.now) (take k words)) → named_pair more ≡ pair
        → map named_pair (named ++ more ∷ []) ≡ pairs_of (map (λ word. word.now) (take (k + 1) words))
    pairs_more named more before same =
        map-append named_pair named (more ∷ [])
        ∙ ap (λ (pairs : List (List ℕ × List ℕ)). pairs ++ named_pair more ∷ []) before
        ∙ ap (λ (p : List ℕ × List ℕ). pairs_of (map (λ word. word.now) (take k words)) ++ p ∷ []) same
        ∙ ap (λ (found : Option (List ℕ × List ℕ)). pairs_of (map (λ word. word.now) (take k words)) ++ (option_to_list found ++ [])) read
        ∙ sym (flat_map-append (λ word. option_to_list (pair_of word)) (map (λ word. word.now) (take k words)) ((get_or words k d).now ∷ []))
        ∙ ap pairs_of (sym firsts)

    pub all_more : are_pairs (map (λ word. word.now) (take k words)) ≡ true → are_pairs (map (λ word. word.now) (take (k + 1) words)) ≡ true
    all_more before =
        ap are_pairs firsts ∙ list_all-append (λ word. is_some (pair_of word)) (map (λ word. word.now) (take k words)) ((get_or words k d).now ∷ [])
        ∙ ap (λ b. b && (is_some (pair_of (get_or words k d).now) && true)) before ∙ ap (λ (found : Option (List ℕ × List ℕ)). is_some found && true) (sym read)
