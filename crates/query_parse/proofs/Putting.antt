-- Items put one after another into the lists of a query.
use Rattle.std.proofs.Common.{◌≡◌, ℕ, ◌<◌, List, [], ◌∷◌, ◌++◌, length, Option, Some, None, Result, Ok, Err, refl, sym, ap, ◌∙◌, subst, append-nil}
use Rattle.std.specs.Option.{option_map}
use Rattle.query_parse.specs.declared.fault.ParseFault.{ParseFault}
use Rattle.query_parse.specs.declared.fault.ParseFault.TheVariants as fault
use Rattle.query_select.specs.declared.select.ItemRef.{ItemRef}
use Rattle.query_select.specs.declared.select.Equality.{Equality}
use Rattle.query_select.specs.declared.token.Kind.TheVariants as kind
use Rattle.query_select.specs.declared.token.Token.{Token}
use Rattle.query_select.specs.Lexeme.{Lexeme, lexemes}
use Rattle.query_parse.specs.Reading.{Added, Read, Next, ◌>>=◌, all_at, Gives, IsParseFault, Joined, Steps, found, item_at, plain_item_at, next_item_at, items_at, put_after, put_next, expect_at, optional_at, sources_at, where_at, conditions_at, condition_at, next_condition_at, several_at}
use Rattle.query_parse.proofs.Columns.{fails_on}
use Rattle.query_parse.proofs.Handed.{faulty, given}
use Rattle.query_parse.proofs.Loops.{with_items, items_go_on, items_end, items_done}
use Rattle.query_parse.proofs.Stepping.{fewer, item_steps}

abbrev Lists : Type 0
Lists = List ItemRef × List Equality

abbrev Put : Type 0
Put = Lists × Option (List Lexeme)

pub plain_put : (had : Lists) (item : ItemRef) (ts rest : List Lexeme) → item_at ts ≡ Ok (item, rest) → put_after had (plain_item_at ts) ≡ Ok ((had.0 ++ item ∷ [], had.1), rest)
unfolding plain_item_at
plain_put had item ts rest e = rw e (ap (λ (on : List Equality). Ok ((had.0 ++ item ∷ [], on), rest)) (append-nil had.1))

item_unread : (had : Lists) (ts : List Lexeme) (end : ℕ) (e : ParseFault) → IsParseFault end e (item_at ts) → IsParseFault end e (put_after had (plain_item_at ts))
unfolding plain_item_at
item_unread had ts end e h = fails_on end e (plain_item_at ts) _ (fails_on end e (item_at ts) _ h)

-- an item that was read and added to a list
pub plain_gives : {R : Type 0} (tokens_of : R → List Lexeme) (end : ℕ) (had : Lists) (items : List ItemRef) (ts : List Lexeme) (item : Result (ItemRef × R) ParseFault) (r : Result R ParseFault)
    → Gives end (λ x. (x.0, tokens_of x.1)) item (item_at ts) → Added (λ x. x ∷ []) had.0 items item r → Gives end (λ x. ((items, had.1), tokens_of x)) r (put_after had (plain_item_at ts))
plain_gives tokens_of end had items ts item (Ok rest) g h =
    plain_put had h.0 ts (tokens_of rest) (given end (λ x. (x.0, tokens_of x.1)) item (h.0, rest) (item_at ts) h.1 g)
    ∙ ap (λ (is : List ItemRef). Ok ((is, had.1), tokens_of rest)) (sym h.2)
plain_gives tokens_of end had items ts item (Err e) g h = item_unread had ts end e (faulty end (λ x. (x.0, tokens_of x.1)) item e (item_at ts) h g)

pub found_put : {X : Type 0} (end : ℕ) (had new : Lists) (toks : X → List Lexeme) (r : Result X ParseFault) (read : Read Joined) → Gives end (λ x. (new, toks x)) r (put_after had read) → Gives end (λ x. (new, option_map toks x)) (found r) (put_next had (found read))
found_put end had new toks (Ok x) (Ok y) h = ap (λ (r : Read Lists). r >>= λ p. Ok (p.0, Some p.1)) h
found_put end had new toks (Ok x) (Err left) h = absurd cc
found_put end had new toks (Err fault.NoMemory) read h = tt
found_put end had new toks (Err (fault.Syntax at)) (Ok y) h = let f = h.1 in absurd cc
found_put end had new toks (Err (fault.Syntax at)) (Err left) h =
    let stopped = h.1 in
    let same : left ≡ h.0 = cc in
    (h.0, ap (λ (l : List Lexeme). Err l) same, h.2)
found_put end had new toks (Err fault.TooLong) read h = h
found_put end had new toks _ read h = h

-- an item behind a comma, found and added
pub comma_gives : {R : Type 0} (tokens_of : R → List Lexeme) (end : ℕ) (had : Lists) (items : List ItemRef) (ts rest : List Lexeme) (comma : Lexeme) (item : Result (ItemRef × R) ParseFault) (r : Result R ParseFault) (o : Result (Option R) ParseFault)
    → optional_at kind.Comma ts ≡ (Some comma, rest) → Gives end (λ x. (x.0, tokens_of x.1)) item (item_at rest) → Added (λ x. x ∷ []) had.0 items item r → o ≡ found r
    → Gives end (λ x. ((items, had.1), option_map tokens_of x)) o (put_next had (next_item_at ts))
unfolding next_item_at
comma_gives tokens_of end had items ts rest comma item r o c g h is =
    rw (is, c) (found_put end had (items, had.1) tokens_of r (plain_item_at rest) (plain_gives tokens_of end had items rest item r g h))

-- what was found if an item was put
put_found : (had new : Lists) (rest : List Lexeme) (next : Next Joined) → put_next had next ≡ Ok (new, Some rest) → (j : Joined) × (next ≡ Ok (Some (j, rest))) × (new ≡ (had.0 ++ j.0 ∷ [], had.1 ++ j.1))
put_found had new rest (Ok (Some x)) e =
    let pair : ◌≡◌ {A = Put} ((had.0 ++ x.0.0 ∷ [], had.1 ++ x.0.1), Some x.1) (new, Some rest) = cc in
    let later : Some x.1 ≡ Some rest = ap (λ (p : Put). p.1) pair in
    let same : x.1 ≡ rest = cc in
    (x.0, ap (λ (ts : List Lexeme). Ok (Some (x.0, ts))) same, sym (ap (λ (p : Put). p.0) pair))
put_found had new rest (Ok None) e =
    let pair : ◌≡◌ {A = Put} (had, None) (new, Some rest) = cc in
    let later : None ≡ Some rest = ap (λ (p : Put). p.1) pair in
    absurd cc
put_found had new rest (Err left) e = absurd cc

put_none : (had new : Lists) (next : Next Joined) → put_next had next ≡ Ok (new, None) → (next ≡ Ok None) × (new ≡ had)
put_none had new (Ok None) e =
    let pair : ◌≡◌ {A = Put} (had, None) (new, None) = cc in
    (refl, sym (ap (λ (p : Put). p.0) pair))
put_none had new (Ok (Some x)) e =
    let pair : ◌≡◌ {A = Put} ((had.0 ++ x.0.0 ∷ [], had.1 ++ x.0.1), Some x.1) (new, None) = cc in
    let later : Some x.1 ≡ None = ap (λ (p : Put). p.1) pair in
    absurd cc
put_none had new (Err left) e = absurd cc

put_failed : (had : Lists) (left : List Lexeme) (next : Next Joined) → put_next had next ≡ Err left → next ≡ Err left
put_failed had left (Ok None) e = absurd cc
put_failed had left (Ok (Some x)) e = absurd cc
put_failed had left (Err l) e = cc

pub putting_goes_on : Steps next_item_at → (had new : Lists) (ts rest : List Lexeme) (total : Read Lists) → put_next had (next_item_at ts) ≡ Ok (new, Some rest)
    → with_items had.0 had.1 (all_at next_item_at ts) ≡ total → with_items new.0 new.1 (all_at next_item_at rest) ≡ total
putting_goes_on s had new ts rest total h so_far =
    let f = put_found had new rest (next_item_at ts) h in
    rw f.2 (items_go_on s had.0 had.1 f.0 ts rest total f.1 so_far)

pub putting_shortens : Steps next_item_at → (had new : Lists) (ts rest : List Token) → put_next had (next_item_at (lexemes ts)) ≡ Ok (new, Some (lexemes rest)) → length rest < length ts
putting_shortens s had new ts rest h =
    let f = put_found had new (lexemes rest) (next_item_at (lexemes ts)) h in
    fewer s ts rest f.0 f.1

pub putting_ends : Steps next_item_at → (end : ℕ) (e : ParseFault) (had : Lists) (ts : List Lexeme) (total : Read Lists) → IsParseFault end e (put_next had (next_item_at ts))
    → with_items had.0 had.1 (all_at next_item_at ts) ≡ total → IsParseFault end e total
putting_ends s end e had ts total h so_far = items_end s end e had.0 had.1 ts total (unput e h) so_far
  where
    unput : (e : ParseFault) → IsParseFault end e (put_next had (next_item_at ts)) → IsParseFault end e (next_item_at ts)
    unput fault.NoMemory h = tt
    unput (fault.Syntax at) h = (h.0, put_failed had h.0 (next_item_at ts) h.1, h.2)
    unput _ h = h

pub putting_done : Steps next_item_at → (had new : Lists) (ts : List Lexeme) (total : Read Lists) → put_next had (next_item_at ts) ≡ Ok (new, None)
    → with_items had.0 had.1 (all_at next_item_at ts) ≡ total → total ≡ Ok (new, ts)
putting_done s had new ts total h so_far =
    let f = put_none had new (next_item_at ts) h in
    rw f.1 (items_done s had.0 had.1 ts total f.0 so_far)

-- ---- from the `from` to the end of the `where`

-- the conditions of the `where`, after those of the joins
abbrev and_where : Lists × List Lexeme → Read Lists
and_where items = where_at items.1 >>= λ condition. Ok ((items.0.0, items.0.1 ++ condition.0), condition.1)

-- what was read before, and what is still read
abbrev pub with_rest : Lists → List Lexeme → Read Lists
with_rest had ts = with_items had.0 had.1 (all_at next_item_at ts) >>= and_where

module _ (ts after : List Lexeme) (word : Lexeme) (from : expect_at kind.From ts ≡ Ok (word, after)) where
  pub rest_begins : (item : ItemRef) (rest : List Lexeme) (had : Lists) (items : List ItemRef) → had ≡ ([], []) → item_at after ≡ Ok (item, rest) → items ≡ had.0 ++ item ∷ [] → with_rest (items, had.1) rest ≡ sources_at ts
  unfolding sources_at items_at
  rest_begins item rest had items empty first are = rw (from, first, are, empty) refl

  pub first_ends : (end : ℕ) (e : ParseFault) → IsParseFault end e (item_at after) → IsParseFault end e (sources_at ts)
  unfolding sources_at items_at
  first_ends end e h = rw from (fails_on end e (items_at after) _ (fails_on end e (item_at after) _ h))

module _ (had new : Lists) (ts : List Lexeme) (total : Read Lists) (so_far : with_rest had ts ≡ total) where
  pub rest_goes_on : (rest : List Lexeme) → put_next had (next_item_at ts) ≡ Ok (new, Some rest) → with_rest new rest ≡ total
  rest_goes_on rest h =
      ap (λ (r : Read Lists). r >>= and_where) (putting_goes_on item_steps had new ts rest (with_items had.0 had.1 (all_at next_item_at ts)) h refl) ∙ so_far

  pub rest_ends : (end : ℕ) (e : ParseFault) → IsParseFault end e (put_next had (next_item_at ts)) → IsParseFault end e total
  rest_ends end e h =
      subst (IsParseFault end e) so_far (fails_on end e (with_items had.0 had.1 (all_at next_item_at ts)) and_where (putting_ends item_steps end e had ts (with_items had.0 had.1 (all_at next_item_at ts)) h refl))

  pub rest_gives : {V R : Type 0} (listed : V → List Equality) (tokens_of : R → List Lexeme) (end : ℕ) (all : List Equality) (conditions : Result (V × R) ParseFault) (r : Result R ParseFault) → put_next had (next_item_at ts) ≡ Ok (new, None)
      → Gives end (λ x. (listed x.0, tokens_of x.1)) conditions (where_at ts) → Added listed new.1 all conditions r → Gives end (λ x. ((new.0, all), tokens_of x)) r total
  rest_gives {V} {R} listed tokens_of end all conditions r none g h = subst (λ (t : Read Lists). Gives end (λ x. ((new.0, all), tokens_of x)) r t) whole (by_result r h)
    where
      whole : and_where (new, ts) ≡ total
      whole = ap (λ (i : Read Lists). i >>= and_where) (sym (putting_done item_steps had new ts (with_items had.0 had.1 (all_at next_item_at ts)) none refl)) ∙ so_far

      by_result : (r : Result R ParseFault) → Added listed new.1 all conditions r → Gives end (λ x. ((new.0, all), tokens_of x)) r (and_where (new, ts))
      by_result (Ok rest) h =
          ap (λ (w : Read (List Equality)). w >>= λ c. let l : Read Lists = Ok ((new.0, new.1 ++ c.0), c.1) in l) (given end (λ x. (listed x.0, tokens_of x.1)) conditions (h.0, rest) (where_at ts) h.1 g)
          ∙ ap (λ (on : List Equality). Ok ((new.0, on), tokens_of rest)) (sym h.2)
      by_result (Err e) h = fails_on end e (where_at ts) _ (faulty end (λ x. (listed x.0, tokens_of x.1)) conditions e (where_at ts) h g)

  pub rest_done : put_next had (next_item_at ts) ≡ Ok (new, None) → optional_at kind.Where ts ≡ (None, ts) → total ≡ Ok (new, ts)
  unfolding where_at
  rest_done none w =
      sym so_far
      ∙ ap (λ (i : Read Lists). i >>= and_where) (putting_done item_steps had new ts (with_items had.0 had.1 (all_at next_item_at ts)) none refl)
      ∙ rw w (ap (λ (on : List Equality). Ok ((new.0, on), ts)) (append-nil new.1))

-- the conditions behind a `where`
pub where_read : {V R : Type 0} (listed : V → List Equality) (tokens_of : R → List Lexeme) (end : ℕ) (ts after : List Lexeme) (word : Lexeme) (conditions : Result (V × R) ParseFault) → optional_at kind.Where ts ≡ (Some word, after)
    → Gives end (λ x. (listed x.0, tokens_of x.1)) conditions (several_at condition_at next_condition_at after) → Gives end (λ x. (listed x.0, tokens_of x.1)) conditions (where_at ts)
unfolding where_at conditions_at
where_read listed tokens_of end ts after word conditions w g = rw w g
