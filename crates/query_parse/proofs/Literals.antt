-- The query, or the queries, that a text writes, by computation: for a text that is known byte by byte,
-- `answer` and `answer_all` compute under `unfolding query_grammar_on_literals`, so that `refl` is all
-- that is left to give.
use Rattle.std.proofs.Common.{◌≡◌, ℕ, ◌^◌, ◌<◌, ◌≤◌, List, length, Option, Some, None, Result, Ok, Err, Bool, true, false, cond, ltb, refl, sym, subst}
use Rattle.std.specs.Prelude.{IfSome}
use Rattle.std.proofs.lemmas.Bool.{ltb-true, ltb-false}
use Rattle.query_parse.specs.declared.fault.ParseFault.{ParseFault}
use Rattle.query_parse.specs.declared.fault.ParseFault.TheVariants as fault
use Rattle.query_select.specs.declared.select.Select.{Select}
use Rattle.query_select.specs.declared.select.SelectAll.{SelectAll}
use Rattle.query_select.specs.Lexeme.{Lexeme}
use Rattle.query_parse.specs.Reading.{Clauses, Branches, query_at, queries_at}
use Rattle.query_select.specs.Tokens.{tokens_of}
use Rattle.query_parse.specs.Parse.{IsParsed, IsParsedAll, Says, SaysAll, decimal, limit_of, select_of, all_of, items_in}
use Rattle.query_parse.proofs.Answered.{says_read, says_all_read}
use Rattle.query_parse.proofs.Exactly.{answer, answer_read, answer_limit, answer_all, answer_read_all, answer_keys}
use Rattle.query_parse.proofs.Limited.{have_many_keys, few_keys_each}

abbrev Answered : {A : Type 0} → Result A ParseFault → Result A ParseFault → Type 0
Answered a b = a ≡ b

one_value : {A : Type 0} {a b : A} → Answered (Ok a) (Ok b) → b ≡ a
one_value e = cc

by_limit : {A : Type 0} (x y : A) (d : Lexeme) (b : Bool) → ltb (decimal d.body) (2 ^ 64) ≡ b
    → Answered (cond b (Ok x) (Err (fault.LimitRange d.at))) (Ok y) → (y ≡ x) × (decimal d.body < 2 ^ 64)
by_limit x y d true is e = (one_value e, ltb-true _ _ is)
by_limit x y d false is e = absurd cc

within_limit : {A : Type 0} (x y : A) (d : Option Lexeme) → Answered (answer_limit x d) (Ok y)
    → (y ≡ x) × IfSome (limit_of d) (λ n. n < 2 ^ 64)
within_limit x y None e = (one_value e, tt)
within_limit x y (Some d) e = by_limit x y d (ltb (decimal d.body) (2 ^ 64)) refl e

by_counts : (bytes : List ℕ) (x : Clauses) (select : Select) (many_items many_keys : Bool) → Says bytes x
    → ltb 16 (length x.0.items) ≡ many_items → ltb 8 (length x.0.keys) ≡ many_keys
    → Answered (cond many_items (Err fault.TooManyItems) (cond many_keys (Err fault.TooManyKeys) (answer_limit (select_of x) x.1))) (Ok select) → IsParsed bytes select
by_counts bytes x select true many_keys says i k e = absurd cc
by_counts bytes x select false true says i k e = absurd cc
by_counts bytes x select false false says i k e =
    let h = within_limit (select_of x) select x.1 e in
    subst (IsParsed bytes) (sym h.0) (record { clauses = x; says = says; items = ltb-false _ _ i; keys = ltb-false _ _ k; limit = h.1; is = refl })

by_reading : (bytes : List ℕ) (select : Select) (r : Result Clauses (List Lexeme)) → length bytes ≤ 65536 → query_at (tokens_of bytes) ≡ r
    → Answered (answer_read (length bytes) r) (Ok select) → IsParsed bytes select
by_reading bytes select (Ok x) short is e =
    by_counts bytes x select (ltb 16 (length x.0.items)) (ltb 8 (length x.0.keys)) (says_read bytes (tokens_of bytes) x short refl is) refl refl e
by_reading bytes select (Err left) short is e = absurd cc

by_length : (bytes : List ℕ) (select : Select) (long : Bool) → ltb 65536 (length bytes) ≡ long
    → Answered (cond long (Err fault.TooLong) (answer_read (length bytes) (query_at (tokens_of bytes)))) (Ok select) → IsParsed bytes select
by_length bytes select true is e = absurd cc
by_length bytes select false is e = by_reading bytes select (query_at (tokens_of bytes)) (ltb-false _ _ is) refl e

-- the text is read as this query
pub parsed_as : (bytes : List ℕ) (select : Select) → Answered (answer bytes) (Ok select) → IsParsed bytes select
parsed_as bytes select e = by_length bytes select (ltb 65536 (length bytes)) refl e

-- ---- several queries

by_keys : (bytes : List ℕ) (x : Branches) (all : SelectAll) (many : Bool)
    → SaysAll bytes x → length x.0 ≤ 8 → items_in x.0 ≤ 16 → have_many_keys x.0 ≡ many
    → Answered (cond many (Err fault.TooManyKeys) (answer_limit (all_of x) x.1)) (Ok all) → IsParsedAll bytes all
by_keys bytes x all true says branches items is e = absurd cc
by_keys bytes x all false says branches items is e =
    let h = within_limit (all_of x) all x.1 e in
    subst (IsParsedAll bytes) (sym h.0) (record {
      clauses = x;
      says = says;
      branches = branches;
      items = items;
      keys = few_keys_each x.0 is;
      limit = h.1;
      is = refl;
    })

by_items : (bytes : List ℕ) (x : Branches) (all : SelectAll) (many_branches many_items : Bool) → SaysAll bytes x
    → ltb 8 (length x.0) ≡ many_branches → ltb 16 (items_in x.0) ≡ many_items
    → Answered (cond many_branches (Err fault.TooManyBranches) (cond many_items (Err fault.TooManyItems) (answer_keys x))) (Ok all)
    → IsParsedAll bytes all
by_items bytes x all true many_items says b i e = absurd cc
by_items bytes x all false true says b i e = absurd cc
by_items bytes x all false false says b i e =
    by_keys bytes x all (have_many_keys x.0) says (ltb-false _ _ b) (ltb-false _ _ i) refl e

by_reading_all : (bytes : List ℕ) (all : SelectAll) (r : Result Branches (List Lexeme))
    → length bytes ≤ 65536 → queries_at true (tokens_of bytes) ≡ r → Answered (answer_read_all (length bytes) r) (Ok all) → IsParsedAll bytes all
by_reading_all bytes all (Ok x) short is e =
    let says = says_all_read bytes (tokens_of bytes) x short refl is in
    by_items bytes x all (ltb 8 (length x.0)) (ltb 16 (items_in x.0)) says refl refl e
by_reading_all bytes all (Err left) short is e = absurd cc

by_length_all : (bytes : List ℕ) (all : SelectAll) (long : Bool) → ltb 65536 (length bytes) ≡ long
    → Answered (cond long (Err fault.TooLong) (answer_read_all (length bytes) (queries_at true (tokens_of bytes)))) (Ok all)
    → IsParsedAll bytes all
by_length_all bytes all true is e = absurd cc
by_length_all bytes all false is e =
    by_reading_all bytes all (queries_at true (tokens_of bytes)) (ltb-false _ _ is) refl e

-- the text is read as these queries
pub parsed_all_as : (bytes : List ℕ) (all : SelectAll) → Answered (answer_all bytes) (Ok all) → IsParsedAll bytes all
parsed_all_as bytes all e = by_length_all bytes all (ltb 65536 (length bytes)) refl e
