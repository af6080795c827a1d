-- Reading from left to right. An error is what is left when the next token is not allowed.
use Rattle.std.specs.Prelude.{◌≡◌, ◌≢◌, ◌<◌, ℕ, zero, suc, List, [], ◌∷◌, ◌++◌, length, map, Option, Some, None, Result, Ok, Err, Bool, true, false, if◌then◌else◌, ◌==◌, unwrap_or}
use Rattle.std.specs.List.{flat_map}
use Rattle.query_select.specs.declared.token.Kind.{Kind}
use Rattle.query_select.specs.declared.token.Kind.TheVariants as kind
use Rattle.query_parse.specs.declared.fault.ParseFault.{ParseFault}
use Rattle.query_parse.specs.declared.fault.ParseFault.TheVariants as fault
use Rattle.query_select.specs.declared.select.ColumnRef.{ColumnRef}
use Rattle.query_select.specs.declared.select.SelectList.{SelectList}
use Rattle.query_select.specs.declared.select.SelectList.TheVariants.{Star, Columns}
use Rattle.query_select.specs.declared.select.ItemRef.{ItemRef}
use Rattle.query_select.specs.declared.select.Side.{Side}
use Rattle.query_select.specs.declared.select.Side.TheVariants.{Column, Constant}
use Rattle.query_select.specs.declared.select.Equality.{Equality}
use Rattle.query_select.specs.declared.select.Term.{Term}
use Rattle.query_select.specs.declared.select.KeyRef.{KeyRef}
use Rattle.query_select.specs.declared.select.Select.{Select}
use Rattle.query_select.specs.declared.token.Token.{Token}
use Rattle.query_select.specs.Kinds.{same}
use Rattle.query_select.specs.Lexeme.{Lexeme, lexeme}

abbrev pub Read : Type 0 → Type 0
Read A = Result (A × List Lexeme) (List Lexeme)

infixl 10 ◌>>=◌
abbrev pub ◌>>=◌ : {A B E : Type 0} → Result A E → (A → Result B E) → Result B E
(Ok x) >>= f = f x
(Err e) >>= f = Err e

-- a token that may be there
abbrev pub some_lexeme : Option Token → Option Lexeme
some_lexeme None = None
some_lexeme (Some t) = Some (lexeme t)

-- the offset of the next token, or of the query's end
abbrev pub place_of : ℕ → List Lexeme → ℕ
place_of end [] = end
place_of end (t ∷ ts) = t.at

-- The result of a function, as `view` sees it, is what reading gives, unless memory ran out.
abbrev pub IsParseFault : {Y : Type 0} → ℕ → ParseFault → Result Y (List Lexeme) → Type 0
IsParseFault end fault.NoMemory read = Unit {0}
IsParseFault end (fault.Syntax at) read = (left : List Lexeme) × (read ≡ Err left)
    × (at ≡ place_of end left)
IsParseFault end fault.TooLong read = ⊥
IsParseFault end fault.TooManyBranches read = ⊥
IsParseFault end fault.TooManyItems read = ⊥
IsParseFault end fault.TooManyKeys read = ⊥
IsParseFault end (fault.LimitRange at) read = ⊥

abbrev pub Gives : {X Y : Type 0} → ℕ → (X → Y) → Result X ParseFault → Result Y (List Lexeme)
    → Type 0
Gives end view (Ok x) read = read ≡ Ok (view x)
Gives end view (Err e) read = IsParseFault end e read

-- the token, if it is of this kind, and those after it
unfoldable pub expect_at : Kind → List Lexeme → Read Lexeme
expect_at k [] = Err []
expect_at k (t ∷ ts) = if same t.kind k then Ok (t, ts) else Err (t ∷ ts)

-- the same, or nothing is read
unfoldable pub optional_at : Kind → List Lexeme → Option Lexeme × List Lexeme
optional_at k [] = (None, [])
optional_at k (t ∷ ts) = if same t.kind k then (Some t, ts) else (None, t ∷ ts)

-- any number of times, as long as `next` finds one; `fuel` is at least the number of tokens
abbrev pub Next : Type 0 → Type 0
Next A = Result (Option (A × List Lexeme)) (List Lexeme)

abbrev pub one_more : {A : Type 0} → (List Lexeme → Read (List A)) → List Lexeme
    → Option (A × List Lexeme) → Read (List A)
one_more others tokens None = Ok ([], tokens)
one_more others tokens (Some x) = others x.1 >>= λ xs. Ok (x.0 ∷ xs.0, xs.1)

unfoldable pub many_at : {A : Type 0} → (List Lexeme → Next A) → ℕ → List Lexeme → Read (List A)
many_at next zero tokens = Ok ([], tokens)
many_at next (suc fuel) tokens = next tokens >>= one_more (many_at next fuel) tokens

abbrev pub all_at : {A : Type 0} → (List Lexeme → Next A) → List Lexeme → Read (List A)
all_at next tokens = many_at next (length tokens) tokens

abbrev pub found : {A E : Type 0} → Result A E → Result (Option A) E
found (Ok x) = Ok (Some x)
found (Err left) = Err left

-- what was read is at the end of a list now, and `result` says what is left
abbrev pub Added : {X A B : Type 0} → (X → List A) → List A → List A → Result (X × B) ParseFault
    → Result B ParseFault → Type 0
Added {X} items old new read (Ok rest) = (x : X) × (read ≡ Ok (x, rest)) × (new ≡ old ++ items x)
Added items old new read (Err e) = fault.NoMemory ≢ e → read ≡ Err e

-- what was made of tokens, and those after it, unless memory ran out
abbrev pub Made : {T A E B : Type 0} → (T → A) → (B → List Lexeme) → Result T E → List Lexeme
    → Result (A × B) ParseFault → Type 0
Made {T} {A} view after thing rest (Ok x) = (t : T) × (thing ≡ Ok t)
    × ◌≡◌ {A = A × List Lexeme} (x.0, after x.1) (view t, rest)
Made view after thing rest (Err e) = e ≡ fault.NoMemory

-- the column of a name, with the alias before it if there is one
abbrev pub column_of : Option Lexeme → Lexeme → ColumnRef
column_of None name = record { alias = None; column = name.body; at = name.at }
column_of (Some alias) name = record { alias = Some alias.body; column = name.body; at = alias.at }

-- the tokens after one of this kind, if the first is one
abbrev pub Follows : {B : Type 0} → (B → List Lexeme) → Kind → List Lexeme → Option B → Type 0
Follows after k tokens None = optional_at k tokens ≡ (None, tokens)
Follows after k tokens (Some rest) = (t : Lexeme) × (optional_at k tokens ≡ (Some t, after rest))

-- the same if the first has to be one
abbrev pub Passes : {B : Type 0} → ℕ → (B → List Lexeme) → Kind → List Lexeme
    → Result B ParseFault → Type 0
Passes end after k tokens (Ok rest) = (t : Lexeme) × (expect_at k tokens ≡ Ok (t, after rest))
Passes end after k tokens (Err e) = IsParseFault end e (expect_at k tokens)

-- one more after a separator
abbrev pub behind : {A : Type 0} → (List Lexeme → Read A) → Option Lexeme × List Lexeme → Next A
behind read (None, rest) = Ok None
behind read (Some t, rest) = found (read rest)

-- where a further thing begins, if there is one
abbrev pub Leads : {A B : Type 0} → ℕ → (B → List Lexeme) → (List Lexeme → Read A) → Next A
    → Result (Option B) ParseFault → Type 0
Leads end after one next (Ok None) = next ≡ Ok None
Leads end after one next (Ok (Some rest)) = next ≡ found (one (after rest))
Leads end after one next (Err e) = IsParseFault end e next

-- a thing, and all further ones
abbrev pub several_at : {A : Type 0} → (List Lexeme → Read A) → (List Lexeme → Next A)
    → List Lexeme → Read (List A)
several_at one_at next tokens = do
  first ← one_at tokens
  more ← all_at next first.1
  Ok (first.0 ∷ more.0, more.1)

-- Looking for one more thing takes at least a token, or finds nothing at the end.
pub record Steps {A : Type 0} (next : List Lexeme → Next A) : Type 0 where
  pub consumes : (ts rest : List Lexeme) (x : A) → next ts ≡ Ok (Some (x, rest))
      → length rest < length ts
  pub at_end : next [] ≡ Ok None

-- ---- columns

abbrev pub with_column : Lexeme → Option Lexeme × List Lexeme → Read ColumnRef
with_column first (None, rest) = Ok
    (record { alias = None; column = first.body; at = first.at }, rest)
with_column first (Some dot, rest) = do
  second ← expect_at kind.Name rest
  Ok (record { alias = Some first.body; column = second.0.body; at = first.at }, second.1)

unfoldable pub column_at : List Lexeme → Read ColumnRef
column_at tokens = do
  first ← expect_at kind.Name tokens
  with_column first.0 (optional_at kind.Dot first.1)

unfoldable pub next_column_at : List Lexeme → Next ColumnRef
next_column_at tokens = behind column_at (optional_at kind.Comma tokens)

unfoldable pub columns_at : List Lexeme → Read (List ColumnRef)
columns_at tokens = several_at column_at next_column_at tokens

abbrev pub with_star : List Lexeme → Option Lexeme × List Lexeme → Read SelectList
with_star tokens (Some star, rest) = Ok (Star, rest)
with_star tokens (None, rest) = do
  columns ← columns_at tokens
  Ok (Columns columns.0, columns.1)

unfoldable pub list_at : List Lexeme → Read SelectList
list_at tokens = with_star tokens (optional_at kind.Star tokens)

-- ---- equalities

-- a string's bytes, each doubled quote once
unfoldable pub undoubled_from : Bool → List ℕ → List ℕ
undoubled_from second [] = []
undoubled_from second (b ∷ bs) =
    if b == 39 then (if second then undoubled_from false bs else (b ∷ undoubled_from true bs)) else
    (b ∷ undoubled_from false bs)

abbrev pub undoubled : List ℕ → List ℕ
undoubled bytes = undoubled_from false bytes

abbrev pub with_digits : List Lexeme → Option Lexeme × List Lexeme → Read Side
with_digits tokens (Some digits, rest) = Ok (Constant digits.body, rest)
with_digits tokens (None, rest) = do
  column ← column_at tokens
  Ok (Column column.0, column.1)

abbrev pub with_minus : List Lexeme → Option Lexeme × List Lexeme → Read Side
with_minus tokens (Some minus, rest) = do
  digits ← expect_at kind.Digits rest
  Ok (Constant (45 ∷ digits.0.body), digits.1)
with_minus tokens (None, rest) = with_digits tokens (optional_at kind.Digits tokens)

abbrev pub with_text : List Lexeme → Option Lexeme × List Lexeme → Read Side
with_text tokens (Some text, rest) = Ok (Constant (undoubled text.body), rest)
with_text tokens (None, rest) = with_minus tokens (optional_at kind.Minus tokens)

unfoldable pub side_at : List Lexeme → Read Side
side_at tokens = with_text tokens (optional_at kind.Text tokens)

abbrev pub with_left : Side → List Lexeme → Read Equality
with_left (Column left) tokens = do
  right ← side_at tokens
  Ok (record { left = left; right = right.0 }, right.1)
with_left (Constant bytes) tokens = do
  column ← column_at tokens
  Ok (record { left = column.0; right = Constant bytes }, column.1)

unfoldable pub condition_at : List Lexeme → Read Equality
condition_at tokens = do
  left ← side_at tokens
  equals ← expect_at kind.Equals left.1
  with_left left.0 equals.1

unfoldable pub next_condition_at : List Lexeme → Next Equality
next_condition_at tokens = behind condition_at (optional_at kind.And tokens)

unfoldable pub conditions_at : List Lexeme → Read (List Equality)
conditions_at tokens = several_at condition_at next_condition_at tokens

-- ---- from-items

abbrev pub with_alias : Lexeme → List Lexeme → Option Lexeme × List Lexeme → Read Lexeme
with_alias table tokens (Some alias, rest) = Ok (alias, rest)
with_alias table tokens (None, rest) = Ok (table, tokens)

abbrev pub with_as : Lexeme → List Lexeme → Option Lexeme × List Lexeme → Read Lexeme
with_as table tokens (Some as_word, rest) = expect_at kind.Name rest
with_as table tokens (None, rest) = with_alias table tokens (optional_at kind.Name tokens)

-- the alias after a table, or the table's own name
abbrev pub alias_at : Lexeme → List Lexeme → Read Lexeme
alias_at table tokens = with_as table tokens (optional_at kind.As tokens)

unfoldable pub item_at : List Lexeme → Read ItemRef
item_at tokens = do
  table ← expect_at kind.Name tokens
  alias ← alias_at table.0 table.1
  Ok (record { table = table.0.body; alias = alias.0.body; at = table.0.at }, alias.1)

-- an item with the equalities of its ON
abbrev pub Joined : Type 0
Joined = ItemRef × List Equality

unfoldable pub plain_item_at : List Lexeme → Read Joined
plain_item_at tokens = do
  item ← item_at tokens
  Ok ((item.0, []), item.1)

unfoldable pub joined_item_at : List Lexeme → Read Joined
joined_item_at tokens = do
  item ← item_at tokens
  on_word ← expect_at kind.On item.1
  on ← conditions_at on_word.1
  Ok ((item.0, on.0), on.1)

unfoldable pub inner_item_at : List Lexeme → Read Joined
inner_item_at tokens = do
  join_word ← expect_at kind.Join tokens
  joined_item_at join_word.1

abbrev pub with_inner : List Lexeme → Option Lexeme × List Lexeme → Next Joined
with_inner tokens (Some inner, rest) = found (inner_item_at rest)
with_inner tokens (None, rest) = behind joined_item_at (optional_at kind.Join tokens)

abbrev pub with_comma : List Lexeme → Option Lexeme × List Lexeme → Next Joined
with_comma tokens (Some comma, rest) = found (plain_item_at rest)
with_comma tokens (None, rest) = with_inner tokens (optional_at kind.Inner tokens)

unfoldable pub next_item_at : List Lexeme → Next Joined
next_item_at tokens = with_comma tokens (optional_at kind.Comma tokens)

-- an item put after others, and its equalities after theirs
abbrev pub put_after : List ItemRef × List Equality → Read Joined
    → Read (List ItemRef × List Equality)
put_after had read = read >>= λ x. Ok ((had.0 ++ x.0.0 ∷ [], had.1 ++ x.0.1), x.1)

-- the same if one was found
abbrev pub put_next : List ItemRef × List Equality → Next Joined
    → Result ((List ItemRef × List Equality) × Option (List Lexeme)) (List Lexeme)
put_next had (Ok None) = Ok (had, None)
put_next had (Ok (Some x)) = Ok ((had.0 ++ x.0.0 ∷ [], had.1 ++ x.0.1), Some x.1)
put_next had (Err left) = Err left

unfoldable pub items_at : List Lexeme → Read (List ItemRef × List Equality)
items_at tokens = do
  first ← item_at tokens
  more ← all_at next_item_at first.1
  Ok ((first.0 ∷ map (λ (j : Joined). j.0) more.0, flat_map (λ (j : Joined). j.1) more.0), more.1)

abbrev pub with_where : Option Lexeme × List Lexeme → Read (List Equality)
with_where (Some where_word, rest) = conditions_at rest
with_where (None, rest) = Ok ([], rest)

unfoldable pub where_at : List Lexeme → Read (List Equality)
where_at tokens = with_where (optional_at kind.Where tokens)

-- ---- order keys

-- whether there is a sign, and whether it is a minus
abbrev pub with_plus : List Lexeme → Option Lexeme × List Lexeme → Option Bool × List Lexeme
with_plus tokens (Some plus, rest) = (Some false, rest)
with_plus tokens (None, rest) = (None, tokens)

abbrev pub with_sign : List Lexeme → Option Lexeme × List Lexeme → Option Bool × List Lexeme
with_sign tokens (Some minus, rest) = (Some true, rest)
with_sign tokens (None, rest) = with_plus tokens (optional_at kind.Plus tokens)

unfoldable pub sign_at : List Lexeme → Option Bool × List Lexeme
sign_at tokens = with_sign tokens (optional_at kind.Minus tokens)

unfoldable pub term_at : Bool → List Lexeme → Read Term
term_at minus tokens = do
  column ← column_at tokens
  Ok (record { minus = minus; column = column.0 }, column.1)

abbrev pub with_next_sign : Option Bool × List Lexeme → Next Term
with_next_sign (Some minus, rest) = found (term_at minus rest)
with_next_sign (None, rest) = Ok None

unfoldable pub next_term_at : List Lexeme → Next Term
next_term_at tokens = with_next_sign (sign_at tokens)

abbrev pub with_desc : List Lexeme → Option Lexeme × List Lexeme → Bool × List Lexeme
with_desc tokens (Some desc, rest) = (true, rest)
with_desc tokens (None, rest) = (false, (optional_at kind.Asc tokens).1)

-- whether there is a DESC; an ASC is read too
unfoldable pub direction_at : List Lexeme → Bool × List Lexeme
direction_at tokens = with_desc tokens (optional_at kind.Desc tokens)

abbrev pub with_direction : List Term → Bool × List Lexeme → Read KeyRef
with_direction terms (descending, rest) = Ok
    (record { terms = terms; descending = descending }, rest)

-- a sign that may be there, and a column
abbrev pub first_term_at : List Lexeme → Read Term
first_term_at tokens = term_at (unwrap_or (sign_at tokens).0 false) (sign_at tokens).1

unfoldable pub terms_at : List Lexeme → Read (List Term)
terms_at tokens = several_at first_term_at next_term_at tokens

unfoldable pub key_at : List Lexeme → Read KeyRef
key_at tokens = do
  terms ← terms_at tokens
  with_direction terms.0 (direction_at terms.1)

unfoldable pub next_key_at : List Lexeme → Next KeyRef
next_key_at tokens = behind key_at (optional_at kind.Comma tokens)

unfoldable pub keys_at : List Lexeme → Read (List KeyRef)
keys_at tokens = do
  by_word ← expect_at kind.By tokens
  several_at key_at next_key_at by_word.1

abbrev pub with_order : Option Lexeme × List Lexeme → Read (List KeyRef)
with_order (Some order_word, rest) = keys_at rest
with_order (None, rest) = Ok ([], rest)

unfoldable pub order_at : List Lexeme → Read (List KeyRef)
order_at tokens = with_order (optional_at kind.Order tokens)

-- ---- the query

abbrev pub with_limit : Option Lexeme × List Lexeme → Read (Option Lexeme)
with_limit (Some limit_word, rest) = do
  digits ← expect_at kind.Digits rest
  Ok (Some digits.0, digits.1)
with_limit (None, rest) = Ok (None, rest)

unfoldable pub limit_at : List Lexeme → Read (Option Lexeme)
limit_at tokens = with_limit (optional_at kind.Limit tokens)

abbrev pub nothing_left : List Lexeme → Result (Unit {0}) (List Lexeme)
nothing_left [] = Ok tt
nothing_left (t ∷ ts) = Err (t ∷ ts)

-- nothing is left except an optional `;`
unfoldable pub finish_at : List Lexeme → Result (Unit {0}) (List Lexeme)
finish_at tokens = nothing_left (optional_at kind.Semicolon tokens).1

-- a query, and the digits of its limit, whose number may be too great
abbrev pub Clauses : Type 0
Clauses = Select × Option Lexeme

-- `select`, and what is selected
unfoldable pub selection_at : List Lexeme → Read SelectList
selection_at tokens = do
  select_word ← expect_at kind.Select tokens
  list_at select_word.1

-- `from`, the items, and all equalities of the query
unfoldable pub sources_at : List Lexeme → Read (List ItemRef × List Equality)
sources_at tokens = do
  from_word ← expect_at kind.From tokens
  items ← items_at from_word.1
  condition ← where_at items.1
  Ok ((items.0.0, items.0.1 ++ condition.0), condition.1)

-- a query up to its order keys
unfoldable pub branch_at : List Lexeme → Read Select
branch_at tokens = do
  list ← selection_at tokens
  sources ← sources_at list.1
  keys ← order_at sources.1
  Ok (
    record {
      list = list.0;
      items = sources.0.0;
      equalities = sources.0.1;
      keys = keys.0;
      limit = None;
    },
    keys.1,
  )

-- what was read, and the digits of the limit behind it
abbrev pub ended_at : {A : Type 0} → A → List Lexeme → Result (A × Option Lexeme) (List Lexeme)
ended_at read tokens = do
  digits ← limit_at tokens
  done ← finish_at digits.1
  Ok (read, digits.0)

-- what was read, with the end of the query behind it
abbrev pub Ended : {A B D : Type 0} → ℕ → (B → List Lexeme) → (D → Option Lexeme)
    → Result (A × B) ParseFault → Result (A × D) ParseFault → Type 0
Ended end after digits (Ok x) result = Gives end (λ r. (r.0, digits r.1)) result
    (ended_at x.0 (after x.1))
Ended end after digits (Err e) result = result ≡ Err e

unfoldable pub query_at : List Lexeme → Result Clauses (List Lexeme)
query_at tokens = do
  branch ← branch_at tokens
  ended_at branch.0 branch.1

-- ---- several queries

-- branches without their limit, and the digits of the limit of the whole, whose number may be too
-- great
abbrev pub Branches : Type 0
Branches = List Select × Option Lexeme

abbrev pub all_branch_at : List Lexeme → Read Select
all_branch_at tokens = do
  all_word ← expect_at kind.All tokens
  branch_at all_word.1

abbrev pub with_union : Option Lexeme × List Lexeme → Next Select
with_union (Some union_word, rest) = found (all_branch_at rest)
with_union (None, rest) = Ok None

-- another branch, if there may be several
unfoldable pub next_branch_at : Bool → List Lexeme → Next Select
next_branch_at many tokens = if many then with_union (optional_at kind.Union tokens) else Ok None

unfoldable pub branches_at : Bool → List Lexeme → Read (List Select)
branches_at many tokens = several_at branch_at (next_branch_at many) tokens

unfoldable pub queries_at : Bool → List Lexeme → Result Branches (List Lexeme)
queries_at many tokens = do
  branches ← branches_at many tokens
  ended_at branches.0 branches.1
