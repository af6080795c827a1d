-- The first of some tokens, and those after it.
use Rattle.std.proofs.Common.{◌≡◌, ℕ, ◌-◌, ◌<◌, ◌≤◌, List, [], ◌∷◌, length, take, drop, get_or, Option, Some, None, Ok, Err, Bool, true, false, if◌then◌else◌, refl, sym, ap, arith}
use Rattle.std.proofs.lemmas.List.{take_all}
use Rattle.query_select.specs.declared.token.Kind.{Kind}
use Rattle.query_select.specs.declared.token.Token.{Token}
use Rattle.query_select.specs.Kinds.{same}
use Rattle.query_select.specs.Lexeme.{Lexeme, lexeme, lexemes}
use Rattle.query_parse.specs.Reading.{Read, expect_at, optional_at, place_of}

pub first_place : (end : ℕ) (ts : List Token) (d : Token) → 1 ≤ length ts → (get_or ts 0 d).at ≡ place_of end (lexemes ts)
first_place end [] d h = absurd (omega arith)
first_place end (t ∷ ts) d h = refl

rest_is : (t : Token) (ts : List Token) → take (length (t ∷ ts) - 1) (drop 1 (t ∷ ts)) ≡ ts
rest_is t ts = take_all (length (t ∷ ts) - 1) ts (omega arith)

module _ (k : Kind) where
  pub expected : (ts : List Token) (d : Token) → 1 ≤ length ts → same (get_or ts 0 d).kind k ≡ true
      → expect_at k (lexemes ts) ≡ Ok (lexeme (get_or ts 0 d), lexemes (take (length ts - 1) (drop 1 ts)))
  unfolding expect_at
  expected [] d h e = absurd (omega arith)
  expected (t ∷ ts) d h e = rw e (ap (λ (l : List Token). Ok (lexeme t, lexemes l)) (sym (rest_is t ts)))

  pub there : (ts : List Token) (d : Token) → 1 ≤ length ts → same (get_or ts 0 d).kind k ≡ true
      → optional_at k (lexemes ts) ≡ (Some (lexeme (get_or ts 0 d)), lexemes (take (length ts - 1) (drop 1 ts)))
  unfolding optional_at
  there [] d h e = absurd (omega arith)
  there (t ∷ ts) d h e = rw e (ap (λ (l : List Token). (Some (lexeme t), lexemes l)) (sym (rest_is t ts)))

  pub another_there : (ts : List Token) (d : Token) → 1 ≤ length ts → same (get_or ts 0 d).kind k ≡ false → optional_at k (lexemes ts) ≡ (None, lexemes ts)
  unfolding optional_at
  another_there [] d h e = absurd (omega arith)
  another_there (t ∷ ts) d h e = rw e refl

  pub none_there : (ts : List Token) → length ts < 1 → optional_at k (lexemes ts) ≡ (None, lexemes ts)
  unfolding optional_at
  none_there [] h = refl
  none_there (t ∷ ts) h = absurd (omega arith)

  -- a token that has to be there
  abbrev Taken : Lexeme → List Lexeme → Bool → Option Lexeme × List Lexeme
  Taken t ts b = if b then (Some t, ts) else (None, t ∷ ts)

  abbrev Expected : Lexeme → List Lexeme → Bool → Read Lexeme
  Expected t ts b = if b then Ok (t, ts) else Err (t ∷ ts)

  taken : (t u : Lexeme) (ts rest : List Lexeme) (b : Bool) → Taken t ts b ≡ (Some u, rest) → Expected t ts b ≡ Ok (u, rest)
  taken t u ts rest true e =
      let first : Some t ≡ Some u = ap (λ (p : Option Lexeme × List Lexeme). p.0) e in
      let same_token : t ≡ u = cc in
      let same_rest : ts ≡ rest = ap (λ (p : Option Lexeme × List Lexeme). p.1) e in
      λ i. Ok (same_token i, same_rest i)
  taken t u ts rest false e = let none : None ≡ Some u = ap (λ (p : Option Lexeme × List Lexeme). p.0) e in absurd cc

  left : (t : Lexeme) (ts : List Lexeme) (b : Bool) → Taken t ts b ≡ (None, t ∷ ts) → Expected t ts b ≡ Err (t ∷ ts)
  left t ts true e = let none : Some t ≡ None = ap (λ (p : Option Lexeme × List Lexeme). p.0) e in absurd cc
  left t ts false e = refl

  pub passed : (ts : List Lexeme) (t : Lexeme) (rest : List Lexeme) → optional_at k ts ≡ (Some t, rest) → expect_at k ts ≡ Ok (t, rest)
  unfolding optional_at expect_at
  passed [] t rest e = let none : None ≡ Some t = ap (λ (p : Option Lexeme × List Lexeme). p.0) e in absurd cc
  passed (u ∷ ts) t rest e = taken u t ts rest (same u.kind k) e

  pub stuck : (ts : List Lexeme) → optional_at k ts ≡ (None, ts) → expect_at k ts ≡ Err ts
  unfolding optional_at expect_at
  stuck [] e = refl
  stuck (u ∷ ts) e = left u ts (same u.kind k) e
