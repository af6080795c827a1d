-- Readers whose parts come one after another.
use Rattle.std.proofs.Common.{◌≡◌, ◌==◌, ◌∷◌, ℕ, List, [], length, Option, None, Result, Ok, Err, true, false, refl, sym, ap, arith, subst}
use Rattle.std.proofs.lemmas.Bool.{eqb-true}
use Rattle.query_select.specs.declared.token.Kind.TheVariants as kind
use Rattle.query_select.specs.declared.token.Token.{Token}
use Rattle.query_select.specs.declared.select.Equality.{Equality}
use Rattle.query_select.specs.declared.select.ItemRef.{ItemRef}
use Rattle.query_select.specs.declared.select.KeyRef.{KeyRef}
use Rattle.query_select.specs.declared.select.Select.{Select}
use Rattle.query_select.specs.declared.select.SelectList.{SelectList}
use Rattle.query_select.specs.Lexeme.{Lexeme, lexemes}
use Rattle.query_parse.specs.declared.fault.ParseFault.{ParseFault}
use Rattle.query_parse.specs.Reading.{◌>>=◌, Ended, IsParseFault, Gives, Read, branch_at, ended_at, finish_at, limit_at, next_branch_at, queries_at, query_at, branches_at, optional_at, order_at, selection_at, several_at, sources_at}
use Rattle.query_parse.proofs.Columns.{fails_on}

abbrev Lists : Type 0
Lists = List ItemRef × List Equality

-- ---- a query up to its order keys

module _ (ts : List Lexeme) where
  pub selection_fails : (end : ℕ) (e : ParseFault) → IsParseFault end e (selection_at ts) → IsParseFault end e (branch_at ts)
  unfolding branch_at
  selection_fails end e h = fails_on end e (selection_at ts) _ h

  module _ (list : SelectList) (after : List Lexeme) (selects : selection_at ts ≡ Ok (list, after)) where
    pub sources_fail : (end : ℕ) (e : ParseFault) → IsParseFault end e (sources_at after) → IsParseFault end e (branch_at ts)
    unfolding branch_at
    sources_fail end e h = rw selects (fails_on end e (sources_at after) _ h)

    module _ (items : Lists) (rest : List Lexeme) (from : sources_at after ≡ Ok (items, rest)) where
      pub branch_read : (keys : List KeyRef) (left : List Lexeme) (select : Select) → order_at rest ≡ Ok (keys, left)
          → select ≡ record { list = list; items = items.0; equalities = items.1; keys = keys; limit = None } → branch_at ts ≡ Ok (select, left)
      unfolding branch_at
      branch_read keys left select order is = rw (selects, from, order) (ap (λ (s : Select). Ok (s, left)) (sym is))

-- ---- the end of a query

module _ {A : Type 0} (read : A) (ts after : List Lexeme) (digits : Option Lexeme) (limit : limit_at ts ≡ Ok (digits, after)) (sign : Option Lexeme) where
  pub nothing_more : (rest : List Token) → optional_at kind.Semicolon after ≡ (sign, lexemes rest) → (length rest == 0) ≡ true → ended_at read ts ≡ Ok (read, digits)
  unfolding finish_at
  nothing_more [] is e = rw (limit, is) refl
  nothing_more (t ∷ rest) is e = absurd (omega (arith, eqb-true (length (t ∷ rest)) 0 e))

  pub something_more : (rest : List Token) → optional_at kind.Semicolon after ≡ (sign, lexemes rest) → (length rest == 0) ≡ false → ended_at read ts ≡ Err (lexemes rest)
  unfolding finish_at
  something_more [] is e = cc
  something_more (t ∷ rest) is e = rw (limit, is) refl

-- what was read, and what is behind it
pub ended_as : {A B D : Type 0} (end : ℕ) (after : B → List Lexeme) (digits : D → Option Lexeme) (read : Result (A × B) ParseFault) (x : A × B) (r : Result (A × D) ParseFault) → read ≡ Ok x
    → Gives end (λ y. (y.0, digits y.1)) r (ended_at x.0 (after x.1)) → Ended end after digits read r
ended_as end after digits read x r is h = subst (λ (q : Result _ ParseFault). Ended end after digits q r) (sym is) h

pub query_gives : {B D : Type 0} (end : ℕ) (after : B → List Lexeme) (digits : D → Option Lexeme) (ts : List Lexeme) (read : Result (Select × B) ParseFault) (r : Result (Select × D) ParseFault)
    → Gives end (λ x. (x.0, after x.1)) read (branch_at ts) → Ended end after digits read r → Gives end (λ x. (x.0, digits x.1)) r (query_at ts)
unfolding query_at
query_gives end after digits ts (Ok x) r g h = rw g h
query_gives {D = D} end after digits ts (Err e) r g h = subst (λ (q : Result (Select × D) ParseFault). Gives end (λ x. (x.0, digits x.1)) q (query_at ts)) (sym h) (fails_on end e (branch_at ts) _ g)

-- a thing that was read, seen as another
ended_map : {A C : Type 0} (see : A → C) (thing : A) (ts : List Lexeme) → ended_at (see thing) ts ≡ (ended_at thing ts >>= λ x. Ok (see x.0, x.1))
ended_map {A} {C} see thing ts = by_limit (limit_at ts)
  where
    by_end : (digits : Option Lexeme) (done : Result (Unit {0}) (List Lexeme)) → (done >>= λ d. let o : Result (C × Option Lexeme) (List Lexeme) = Ok (see thing, digits) in o) ≡ ((done >>= λ d. let o : Result (A × Option Lexeme) (List Lexeme) = Ok (thing, digits) in o) >>= λ x. Ok (see x.0, x.1))
    by_end digits (Ok d) = refl
    by_end digits (Err left) = refl

    by_limit : (limit : Read (Option Lexeme)) → (limit >>= λ d. finish_at d.1 >>= λ u. let o : Result (C × Option Lexeme) (List Lexeme) = Ok (see thing, d.0) in o) ≡ ((limit >>= λ d. finish_at d.1 >>= λ u. let o : Result (A × Option Lexeme) (List Lexeme) = Ok (thing, d.0) in o) >>= λ x. Ok (see x.0, x.1))
    by_limit (Ok d) = by_end d.0 (finish_at d.1)
    by_limit (Err left) = refl

pub queries_give : {V B D : Type 0} (listed : V → List Select) (end : ℕ) (after : B → List Lexeme) (digits : D → Option Lexeme) (ts : List Lexeme) (read : Result (V × B) ParseFault) (r : Result (V × D) ParseFault)
    → Gives end (λ x. (listed x.0, after x.1)) read (several_at branch_at (next_branch_at true) ts) → Ended end after digits read r → Gives end (λ x. (listed x.0, digits x.1)) r (queries_at true ts)
unfolding queries_at branches_at
queries_give {V} listed end after digits ts (Ok x) r g h = rw (g, ended_map listed x.0 (after x.1)) (seen r h)
  where
    seen : (r : Result (V × _) ParseFault) → Gives end (λ y. (y.0, digits y.1)) r (ended_at x.0 (after x.1)) → Gives end (λ y. (listed y.0, digits y.1)) r (ended_at x.0 (after x.1) >>= λ y. let o : Result (List Select × Option Lexeme) (List Lexeme) = Ok (listed y.0, y.1) in o)
    seen (Ok y) g = ap (λ (q : Result (V × Option Lexeme) (List Lexeme)). q >>= λ y. let o : Result (List Select × Option Lexeme) (List Lexeme) = Ok (listed y.0, y.1) in o) g
    seen (Err e) g = fails_on end e (ended_at x.0 (after x.1)) _ g
queries_give {V} {D = D} listed end after digits ts (Err e) r g h =
    subst (λ (q : Result (V × D) ParseFault). Gives end (λ x. (listed x.0, digits x.1)) q (queries_at true ts)) (sym h) (fails_on end e (several_at branch_at (next_branch_at true) ts) _ g)
