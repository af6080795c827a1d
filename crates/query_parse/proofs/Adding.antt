-- Lists that grow by what a reader reads, as long as something comes before a further one.
use Rattle.std.proofs.Common.{◌≡◌, ◌∙◌, ◌∷◌, [], ℕ, ◌<◌, List, length, Some, Result, Ok, Err, refl, sym, ap, subst}
use Rattle.query_parse.specs.declared.fault.ParseFault.{ParseFault}
use Rattle.query_select.specs.declared.token.Token.{Token}
use Rattle.query_select.specs.Lexeme.{Lexeme, lexemes}
use Rattle.query_parse.specs.Reading.{Steps, Read, Next, ◌>>=◌, all_at, several_at, IsParseFault, Gives, Added, found}
use Rattle.query_parse.proofs.Columns.{fails_on}
use Rattle.query_parse.proofs.Handed.{found_gives, given, faulty}
use Rattle.query_parse.proofs.Loops.{with_front, goes_on, ends}
use Rattle.query_parse.proofs.Stepping.{fewer}

module _ {A R : Type 0} (tokens_of : R → List Token) where
  -- a thing, and the tokens after it
  abbrev seen : A × R → A × List Lexeme
  seen x = (x.0, lexemes (tokens_of x.1))

  module _ (end : ℕ) (one : List Lexeme → Read A) (read : Result (A × R) ParseFault) (old new : List A) where
    pub added_is : (ts : List Lexeme) (rest : R) → Gives end seen read (one ts) → (h : Added (λ x. x ∷ []) old new read (Ok rest)) → one ts ≡ Ok (h.0, lexemes (tokens_of rest))
    added_is ts rest g h = given end seen read (h.0, rest) (one ts) h.1 g

    module _ (next : List Lexeme → Next A) where
      pub first_added : (ts : List Lexeme) (rest : R) → old ≡ [] → Gives end seen read (one ts) → Added (λ x. x ∷ []) old new read (Ok rest)
          → with_front new (all_at next (lexemes (tokens_of rest))) ≡ several_at one next ts
      first_added ts rest empty g h = rw (h.2, empty, added_is ts rest g h) (regrouped (all_at next (lexemes (tokens_of rest))))
        where
          regrouped : (r : Read (List A)) → with_front (h.0 ∷ []) r ≡ (r >>= λ more. Ok (h.0 ∷ more.0, more.1))
          regrouped (Ok x) = refl
          regrouped (Err left) = refl

      pub first_faulty : (ts : List Lexeme) (e : ParseFault) → Gives end seen read (one ts) → Added {B = R} (λ x. x ∷ []) old new read (Err e) → IsParseFault end e (several_at one next ts)
      first_faulty ts e g h = fails_on end e (one ts) _ (faulty end seen read e (one ts) h g)

      module _ (s : Steps next) (after : R) (ts : List Token) (leads : next (lexemes ts) ≡ found (one (lexemes (tokens_of after)))) (g : Gives end seen read (one (lexemes (tokens_of after)))) where
        further : (rest : R) → (h : Added (λ x. x ∷ []) old new read (Ok rest)) → next (lexemes ts) ≡ Ok (Some (h.0, lexemes (tokens_of rest)))
        further rest h = leads ∙ ap found (added_is (lexemes (tokens_of after)) rest g h)

        pub goes_on_with : (rest : R) (total : Read (List A)) → Added (λ x. x ∷ []) old new read (Ok rest) → with_front old (all_at next (lexemes ts)) ≡ total
            → with_front new (all_at next (lexemes (tokens_of rest))) ≡ total
        goes_on_with rest total h so_far =
            subst (λ (l : List A). with_front l (all_at next (lexemes (tokens_of rest))) ≡ total) (sym h.2) (goes_on s old h.0 (lexemes ts) (lexemes (tokens_of rest)) total (further rest h) so_far)

        pub shortens_with : (rest : R) → Added (λ x. x ∷ []) old new read (Ok rest) → length (tokens_of rest) < length ts
        shortens_with rest h = fewer s ts (tokens_of rest) h.0 (further rest h)

        pub ends_with : (e : ParseFault) (total : Read (List A)) → Added {B = R} (λ x. x ∷ []) old new read (Err e) → with_front old (all_at next (lexemes ts)) ≡ total → IsParseFault end e total
        ends_with e total h so_far =
            let stopped : IsParseFault end e (one (lexemes (tokens_of after))) = faulty end seen read e (one (lexemes (tokens_of after))) h g in
            let found_stopped = found_gives end (λ (x : A × List Lexeme). x) (Err e) (one (lexemes (tokens_of after))) stopped in
            ends s end e old (lexemes ts) total (subst (IsParseFault end e) (sym leads) found_stopped) so_far
