-- The lines of the answers that were given so far.
use Rattle.std.proofs.Common.{◌≡◌, ◌<◌, ◌≤◌, ◌+◌, ℕ, List, [], ◌∷◌, ◌++◌, length, take, Option, Some, None, IfSome}
use Rattle.std.proofs.Common.{nat_le, not, true, false, sym, ap, ◌∙◌, arith, append_assoc, append-nil, length-append}
use Rattle.std.specs.List.{flat_map}
use Rattle.std.proofs.lemmas.Bool.Decides.{nat_tests}
use Rattle.std.proofs.lemmas.List.{flat_map_more, take_all, take_at}
use Rattle.anyk_model.specs.Output.{cut}
use Rattle.bound_query.specs.Steps.{reaches}
use Rattle.proof_model.specs.Writing.{answer_text}

-- i members of `all` were given, and `rest` is left
pub record HasListed (all : List (List ℕ)) (i : ℕ) (rest : List (List ℕ)) (old new : List ℕ) : Type 0 where
  pub given : List (List ℕ)
  pub split : all ≡ given ++ rest
  pub count : length given ≡ i
  pub text : new ≡ old ++ flat_map answer_text given

module _ (all : List (List ℕ)) (i : ℕ) (rest : List (List ℕ)) (old new : List ℕ)
    (h : HasListed all i rest old new) where
  -- one more
  pub listed_more : (rows : List ℕ) (later : List (List ℕ)) (text : List ℕ) → rest ≡ rows ∷ later
      → text ≡ new ++ answer_text rows
      → HasListed all (i + 1) later old text
  listed_more rows later text is more = record {
    given = h.given ++ rows ∷ [];
    split = h.split ∙ ap (λ l. h.given ++ l) is ∙ sym (append_assoc h.given (rows ∷ []) later);
    count = let n = h.count in let m = length-append h.given (rows ∷ []) in omega (arith, n, m);
    text = more ∙ ap (λ l. l ++ answer_text rows) h.text ∙ flat_map_more answer_text old h.given rows;
  }

  -- the list ended before the limit
  module _ (none : rest ≡ []) where
    whole : all ≡ h.given
    whole = h.split ∙ ap (λ l. h.given ++ l) none ∙ append-nil h.given

    cut_all : (limit : Option ℕ) → IfSome limit (λ n. i < n) → cut limit all ≡ h.given
    cut_all None low = whole
    cut_all (Some n) low = ap (take n) whole ∙ take_all n h.given (let c = h.count in omega (arith, c, low))

    pub ended_text : (limit : Option ℕ) → IfSome limit (λ n. i < n) → new ≡ old ++ flat_map answer_text (cut limit all)
    ended_text limit low = h.text ∙ ap (λ l. old ++ flat_map answer_text l) (sym (cut_all limit low))

    pub ended_early : (limit : Option ℕ) → IfSome limit (λ n. i < n) → true ≡ not (reaches limit all)
    ended_early None low = cc
    ended_early (Some n) low =
        let past : nat_le n (length all) ≡ false = grind (arith, nat_tests, ap length whole ∙ h.count, low) in
        sym (ap not past)

  -- the limit was reached
  module _ (limit : Option ℕ) (met : limit ≡ Some i) where
    pub met_text : new ≡ old ++ flat_map answer_text (cut limit all)
    met_text =
        h.text ∙ ap (λ l. old ++ flat_map answer_text l)
        (sym (ap (λ o. cut o all) met ∙ ap (take i) h.split ∙ take_at h.given rest i h.count))

    pub met_limit : false ≡ not (reaches limit all)
    met_limit =
        let long : i ≤ length all = omega (arith, h.count, ap length h.split, length-append h.given rest) in
        let within : nat_le i (length all) ≡ true = grind (arith, nat_tests, long) in
        sym (ap (λ o. not (reaches o all)) met ∙ ap not within)
