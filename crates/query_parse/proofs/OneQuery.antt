-- One query is queries of which there may not be several.
use Rattle.std.proofs.Common.{◌≡◌, ℕ, zero, suc, ◌^◌, ◌<◌, ◌≤◌, List, [], ◌∷◌, ◌++◌, length, Bool, true, false, Option, Result, Ok, Err, refl, sym, ap, ◌∙◌, subst, arith}
use Rattle.std.specs.Prelude.{IfSome}
use Rattle.std.proofs.lemmas.Bool.{false≢true}
use Rattle.query_select.specs.declared.select.Select.{Select}
use Rattle.query_select.specs.Lexeme.{Lexeme}
use Rattle.query_parse.specs.Reading.{Read, Clauses, Branches, ◌>>=◌, many_at, all_at, limit_at, finish_at, branch_at, query_at, next_branch_at, branches_at, queries_at}
use Rattle.query_parse.specs.Grammar.{none, more, branch, IsQuery, query, next_branch, IsQueries, queries, AreQuery, AreQueries}
use Rattle.query_parse.specs.Parse.{IsParsed, IsParsedAll, limit_of, select_of, as_one_branch}
use Rattle.query_parse.specs.FirstFault.{Stops, IsFirstFault}
use Rattle.query_parse.proofs.Stuck.{queries_found, first_fault_of}

pub query_alone : (many : Bool) {ts : List Lexeme} {x : Clauses} → IsQuery ts x → IsQueries many ts (x.0 ∷ [], x.1)
query_alone many (query found limit ends) = queries found none limit ends

pub data IsAlone : List Lexeme → Branches → Type 0 where
  alone : {ts : List Lexeme} {s : Select} {n : Option Lexeme} → IsQuery ts (s, n) → IsAlone ts (s ∷ [], n)

pub alone_query : {ts : List Lexeme} {x : Branches} → IsQueries false ts x → IsAlone ts x
alone_query (queries found none limit ends) = alone (query found limit ends)
alone_query (queries first (more (next_branch allowed u w b) others) limit ends) = absurd (false≢true allowed)

first_or : Select → List Select → Select
first_or other [] = other
first_or other (s ∷ ss) = s

the_query : {ts : List Lexeme} {y : Branches} → IsAlone ts y → (x : Clauses) → y ≡ (x.0 ∷ [], x.1) → IsQuery ts x
unfolding first_or
the_query {ts} (alone {s = s} q) x e =
    let select = ap (λ (z : Branches). first_or s z.0) e in
    let limit = ap (λ (z : Branches). z.1) e in
    let same : ◌≡◌ {A = Clauses} (s, _) x = λ i. (select i, limit i) in
    subst (IsQuery ts) same q

pub from_alone : (ts : List Lexeme) → AreQueries false ts → AreQuery ts
from_alone ts q = is_query (alone_query q.1)
  where
    is_query : {y : Branches} → IsAlone ts y → AreQuery ts
    is_query (alone q) = (_, q)

pub to_alone : (ts : List Lexeme) → AreQuery ts → AreQueries false ts
to_alone ts q = ((q.0.0 ∷ [], q.0.1), query_alone false q.1)

-- ---- reading one query reads queries of which there may not be several

no_more_at : (n : ℕ) (ts : List Lexeme) → many_at (next_branch_at false) n ts ≡ Ok ([], ts)
unfolding many_at next_branch_at
no_more_at zero ts = refl
no_more_at (suc n) ts = refl

-- the queries that one query is
abbrev alone_of : Result Clauses (List Lexeme) → Result Branches (List Lexeme)
alone_of r = r >>= λ x. Ok (x.0 ∷ [], x.1)

by_end : (s : Select) (n : Option Lexeme) (r : Result (Unit {0}) (List Lexeme))
    → (r >>= λ _. Ok (s ∷ [], n)) ≡ alone_of (r >>= λ _. Ok (s, n))
by_end s n (Ok _) = refl
by_end s n (Err left) = refl

by_limit : (s : Select) (r : Read (Option Lexeme))
    → (r >>= λ d. finish_at d.1 >>= λ _. Ok (s ∷ [], d.0)) ≡ alone_of (r >>= λ d. finish_at d.1 >>= λ _. Ok (s, d.0))
by_limit s (Ok d) = by_end s d.0 (finish_at d.1)
by_limit s (Err left) = refl

abbrev all_after : Read Select → Read (List Select)
all_after r = r >>= λ first. all_at (next_branch_at false) first.1 >>= λ others. Ok (first.0 ∷ others.0, others.1)

by_branch : (r : Read Select)
    → (all_after r >>= λ b. limit_at b.1 >>= λ d. finish_at d.1 >>= λ _. Ok (b.0, d.0))
    ≡ alone_of (r >>= λ b. limit_at b.1 >>= λ d. finish_at d.1 >>= λ _. Ok (b.0, d.0))
by_branch (Ok b) = rw (no_more_at (length b.1) b.1) (by_limit b.0 (limit_at b.1))
by_branch (Err left) = refl

alone_at : (ts : List Lexeme) → queries_at false ts ≡ alone_of (query_at ts)
unfolding queries_at branches_at query_at
alone_at ts = by_branch (branch_at ts)

pub query_found : (ts : List Lexeme) (x : Clauses) → query_at ts ≡ Ok x → IsQuery ts x
query_found ts x e =
    the_query (alone_query (queries_found false ts (x.0 ∷ [], x.1) (alone_at ts ∙ ap alone_of e))) x refl

-- ---- the place of the fault is the same

stops_as : (A B : List Lexeme → Type 0) → ((ts : List Lexeme) → B ts → A ts)
    → (front left : List Lexeme) → Stops A front left → Stops B front left
stops_as A B g front [] stops = λ b. stops (g front b)
stops_as A B g front (t ∷ left) stops = λ after b. stops after (g (front ++ t ∷ after) b)

fault_as : (A B : List Lexeme → Type 0) → ((ts : List Lexeme) → A ts → B ts) → ((ts : List Lexeme) → B ts → A ts)
    → (ts left : List Lexeme) → IsFirstFault A ts left → IsFirstFault B ts left
fault_as A B f g ts left h = record {
  front = h.front;
  parts = h.parts;
  begins = record { others = h.begins.others; is_text = f (h.front ++ h.begins.others) h.begins.is_text };
  stops = stops_as A B g h.front left h.stops;
}

pub first_fault : (ts left : List Lexeme) → query_at ts ≡ Err left → IsFirstFault AreQuery ts left
first_fault ts left e =
    let several = first_fault_of false ts left (alone_at ts ∙ ap alone_of e) in
    fault_as (AreQueries false) AreQuery from_alone to_alone ts left several

-- ---- what `parse` reads, `parse_all` reads as one branch

-- a branch has no limit of its own
branch_alone : {ts : List Lexeme} {x : Clauses} → IsQuery ts x
    → IsQueries true ts ((as_one_branch (select_of x)).branches, x.1)
branch_alone (query (branch s l f i w o) limit ends) = queries (branch s l f i w o) none limit ends

pub one_branch : (bytes : List ℕ) (select : Select) → IsParsed bytes select → IsParsedAll bytes (as_one_branch select)
one_branch bytes select h =
    let items : length h.clauses.0.items ≤ 16 = rw h.is at h.items in
    let keys : length h.clauses.0.keys ≤ 8 = rw h.is at h.keys in
    let limit : IfSome (limit_of h.clauses.1) (λ n. n < 2 ^ 64) = rw h.is at h.limit in
    subst (λ (s : Select). IsParsedAll bytes (as_one_branch s)) (sym h.is) (record {
      clauses = ((as_one_branch (select_of h.clauses)).branches, h.clauses.1);
      says = record { short = h.says.short; queries = branch_alone h.says.query };
      branches = omega arith;
      items = omega (arith, items);
      keys = (keys, tt);
      limit = limit;
      is = refl;
    })
