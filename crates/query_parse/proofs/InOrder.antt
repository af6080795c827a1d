-- The column references of a query that was read are in the order of its text.
use Rattle.std.proofs.Common.{◌≡◌, ℕ, zero, suc, ◌+◌, ◌-◌, ◌<◌, ◌≤◌, List, [], ◌∷◌, ◌++◌, length, true, false, cond, refl, sym, ap, ◌∙◌, subst, append_assoc, arith, Bool}
use Rattle.std.specs.List.{AllByRecursion, flat_map}
use Rattle.std.proofs.lemmas.List.{append-nil, map-id}
use Rattle.std.proofs.lemmas.List.Concat.{flat_map_single}
use Rattle.std.proofs.lemmas.Grind.{flat_map-append}
use Rattle.rankings.specs.Order.{BelowAll}
use Rattle.query_select.specs.declared.token.Kind.{Kind}
use Rattle.query_select.specs.declared.token.Kind.TheVariants as kind
use Rattle.query_select.specs.declared.select.ColumnRef.{ColumnRef}
use Rattle.query_select.specs.declared.select.ItemRef.{ItemRef}
use Rattle.query_select.specs.declared.select.Term.{Term}
use Rattle.query_select.specs.declared.select.Select.{Select}
use Rattle.query_select.specs.declared.select.SelectAll.{SelectAll}
use Rattle.query_select.specs.Lexeme.{Lexeme}
use Rattle.query_parse.specs.Reading.{Joined, Clauses, Branches}
use Rattle.query_parse.specs.Grammar.{One, one, Many, none, more, Behind, after_sign, IsColumn, bare, qualified, IsColumns, columns, IsList, star, listed, IsConstant, text, digits, negative, IsCondition, two_columns, constant_right, constant_left, IsConditions, conditions, IsItem, named, aliased, aliased_as, IsJoined, joined, IsNextItem, comma, join, inner_join, IsItems, items, IsWhere, no_where, some_where, IsSigned, plus, minus, IsFirstTerm, unsigned, signed, IsDirection, unsaid, ascending, descending, IsKey, key, IsOrder, no_order, some_order, IsBranch, branch, IsQuery, query, IsNextBranch, next_branch, IsQueries, queries}
use Rattle.query_select.specs.Tokens.{is_blank, scan_of, tokens_from}
use Rattle.query_parse.specs.Parse.{IsParsed, IsParsedAll}
use Rattle.query_select.specs.TextOrder.{list_columns, equality_columns, key_columns, columns_of, Ascend, AreInTextOrder, ItemsAreInTextOrder}

-- ---- offsets

-- the tokens begin at ascending offsets, from lo
abbrev From : ℕ → List Lexeme → Type 0
From lo [] = Unit {0}
From lo (t ∷ ts) = (lo ≤ t.at) × From (t.at + 1) ts

-- the references, which begin at these places, begin at ascending offsets, from lo and before hi
abbrev Between : {R : Type 0} → (R → ℕ) → ℕ → List R → ℕ → Type 0
Between place lo [] hi = lo ≤ hi
Between place lo (x ∷ xs) hi = (lo ≤ place x) × Between place (place x + 1) xs hi

-- references that were taken off tokens from lo, with the rest after them
record Taken {R : Type 0} (place : R → ℕ) (lo : ℕ) (refs : List R) (rest : List Lexeme) : Type 0 where
  hi : ℕ
  taken : Between place lo refs hi
  left : From hi rest

lower : {R : Type 0} (place : R → ℕ) (lo start hi : ℕ) (xs : List R) → lo ≤ start → Between place start xs hi → Between place lo xs hi
lower place lo start hi [] h p = omega arith
lower place lo start hi (x ∷ xs) h p = (let k = p.0 in omega arith, p.1)

no_less : {R : Type 0} (place : R → ℕ) (lo hi : ℕ) (xs : List R) → Between place lo xs hi → lo ≤ hi
no_less place lo hi [] p = p
no_less place lo hi (x ∷ xs) p =
    let here : lo ≤ place x = p.0 in
    let later : place x + 1 ≤ hi = no_less place (place x + 1) hi xs p.1 in
    omega arith

joined_refs : {R : Type 0} (place : R → ℕ) (lo mid hi : ℕ) (xs ys : List R) → Between place lo xs mid → Between place mid ys hi → Between place lo (xs ++ ys) hi
joined_refs place lo mid hi [] ys p q = lower place lo mid hi ys p q
joined_refs place lo mid hi (x ∷ xs) ys p q = (p.0, joined_refs place (place x + 1) mid hi xs ys p.1 q)

and_then : {R : Type 0} {place : R → ℕ} (lo : ℕ) (xs ys : List R) (mid rest : List Lexeme) → Taken place lo xs mid → ((hi : ℕ) → From hi mid → Taken place hi ys rest) → Taken place lo (xs ++ ys) rest
and_then {place = place} lo xs ys mid rest a f =
    let b = f a.hi a.left in
    record { hi = b.hi; taken = joined_refs place lo a.hi b.hi xs ys a.taken b.taken; left = b.left }

above_all : {R : Type 0} (place : R → ℕ) (x : R) (lo hi : ℕ) (xs : List R) → place x < lo → Between place lo xs hi → BelowAll (λ (a b : R). place a < place b) x xs
above_all place x lo hi [] h p = tt
above_all place x lo hi (y ∷ ys) h p =
    let k : lo ≤ place y = p.0 in
    let below : place x < place y = omega arith in
    (below, above_all place x (place y + 1) hi ys (omega arith) p.1)

ascend : {R : Type 0} (place : R → ℕ) (lo hi : ℕ) (xs : List R) → Between place lo xs hi → Ascend place xs
ascend place lo hi [] p = tt
ascend place lo hi (x ∷ xs) p = (above_all place x (place x + 1) hi xs (omega arith) p.1, ascend place (place x + 1) hi xs p.1)

-- ---- tokens

from_cond : (b : Bool) (lo : ℕ) (xs ys : List Lexeme) → From lo xs → From lo ys → From lo (cond b xs ys)
from_cond true lo xs ys p q = p
from_cond false lo xs ys p q = q

tokens_ascend : (bs : List ℕ) (taken at lo : ℕ) → lo ≤ at → From lo (tokens_from taken at bs)
unfolding tokens_from
tokens_ascend [] taken at lo h = tt
tokens_ascend (b ∷ bs) (suc taken) at lo h = tokens_ascend bs taken (at + 1) lo (omega arith)
tokens_ascend (b ∷ bs) zero at lo h = from_cond (is_blank b) lo (tokens_from zero (at + 1) bs) _ (tokens_ascend bs zero (at + 1) lo (omega arith))
    (h, tokens_ascend bs ((scan_of (b ∷ bs)).len - 1) (at + 1) (at + 1) (omega arith))

-- ---- the grammar

-- what is read of tokens takes these references off them
abbrev Takes : {A R : Type 0} → (R → ℕ) → (List Lexeme → List Lexeme → A → Type 0) → (A → List R) → Type 0
Takes {A} place IsX refs = (ts rest : List Lexeme) (x : A) → IsX ts rest x → (lo : ℕ) → From lo ts → Taken place lo (refs x) rest

record Head (lo : ℕ) (t : Lexeme) (rest : List Lexeme) : Type 0 where
  here : lo ≤ t.at
  behind : From (t.at + 1) rest

head : (k : Kind) (ts rest : List Lexeme) (t : Lexeme) → One k ts rest t → (lo : ℕ) → From lo ts → Head lo t rest
head k _ _ _ (one e) lo p = record { here = p.0; behind = p.1 }

passed : {R : Type 0} {place : R → ℕ} (k : Kind) → Takes place (One k) (λ _. [])
passed k ts rest t s lo p =
    let h = head k ts rest t s lo p in
    let here : lo ≤ t.at = h.here in
    record { hi = t.at + 1; taken = omega arith; left = h.behind }

many_taken : {A R : Type 0} {place : R → ℕ} {IsX : List Lexeme → List Lexeme → A → Type 0} (refs : A → List R) → Takes place IsX refs → Takes place (Many IsX) (λ xs. flat_map refs xs)
many_taken refs takes _ _ _ none lo p = record { hi = lo; taken = omega arith; left = p }
many_taken refs takes _ _ _ (more {x = x} {xs = xs} first others) lo p =
    and_then lo (refs x) (flat_map refs xs) _ _ (takes _ _ _ first lo p) (many_taken refs takes _ _ _ others)

behind_taken : {A R : Type 0} {place : R → ℕ} {IsX : List Lexeme → List Lexeme → A → Type 0} (k : Kind) (refs : A → List R) → Takes place IsX refs → Takes place (Behind k IsX) refs
behind_taken k refs takes _ _ x (after_sign s thing) lo p = and_then lo [] (refs x) _ _ (passed k _ _ _ s lo p) (takes _ _ _ thing)

-- ---- columns

abbrev column_place : ColumnRef → ℕ
column_place c = c.at

column_taken : Takes column_place IsColumn (λ c. c ∷ [])
column_taken _ _ _ (bare {n = n} name) lo p =
    let h = head kind.Name _ _ _ name lo p in
    record { hi = n.at + 1; taken = (h.here, omega arith); left = h.behind }
column_taken _ _ _ (qualified {q = q} {d = d} {n = n} first dot name) lo p =
    let h = head kind.Name _ _ _ first lo p in
    let i = head kind.Dot _ _ _ dot (q.at + 1) h.behind in
    let j = head kind.Name _ _ _ name (d.at + 1) i.behind in
    let before : q.at + 1 ≤ d.at = i.here in
    let after : d.at + 1 ≤ n.at = j.here in
    record { hi = n.at + 1; taken = (h.here, omega arith); left = j.behind }

columns_taken : Takes column_place IsColumns (λ cs. cs)
columns_taken _ rest _ (columns {c = c} {cs = cs} first others) lo p =
    subst (λ l. Taken column_place lo (c ∷ l) rest) (flat_map_single (λ x. x) cs ∙ map-id cs)
    (and_then lo (c ∷ []) (flat_map (λ x. x ∷ []) cs) _ _ (column_taken _ _ _ first lo p) (many_taken (λ x. x ∷ []) (behind_taken kind.Comma (λ x. x ∷ []) column_taken) _ _ _ others))

list_taken : Takes column_place IsList list_columns
list_taken _ _ _ (star s) lo p = passed kind.Star _ _ _ s lo p
list_taken _ _ _ (listed cs) lo p = columns_taken _ _ _ cs lo p

constant_taken : Takes column_place IsConstant (λ _. [])
constant_taken _ _ _ (text t) lo p = passed kind.Text _ _ _ t lo p
constant_taken _ _ _ (digits d) lo p = passed kind.Digits _ _ _ d lo p
constant_taken _ _ _ (negative m d) lo p = and_then lo [] [] _ _ (passed kind.Minus _ _ _ m lo p) (passed kind.Digits _ _ _ d)

condition_taken : Takes column_place IsCondition equality_columns
condition_taken _ _ _ (two_columns {l = l} {r = r} left e right) lo p =
    and_then lo (l ∷ []) (r ∷ []) _ _ (column_taken _ _ _ left lo p) (λ hi q. and_then hi [] (r ∷ []) _ _ (passed kind.Equals _ _ _ e hi q) (column_taken _ _ _ right))
condition_taken _ _ _ (constant_right {l = l} left e right) lo p =
    and_then lo (l ∷ []) [] _ _ (column_taken _ _ _ left lo p) (λ hi q. and_then hi [] [] _ _ (passed kind.Equals _ _ _ e hi q) (constant_taken _ _ _ right))
condition_taken _ _ _ (constant_left {r = r} left e right) lo p =
    and_then lo [] (r ∷ []) _ _ (constant_taken _ _ _ left lo p) (λ hi q. and_then hi [] (r ∷ []) _ _ (passed kind.Equals _ _ _ e hi q) (column_taken _ _ _ right))

conditions_taken : Takes column_place IsConditions (λ es. flat_map equality_columns es)
conditions_taken _ _ _ (conditions {e = e} {es = es} first others) lo p =
    and_then lo (equality_columns e) (flat_map equality_columns es) _ _ (condition_taken _ _ _ first lo p) (many_taken equality_columns (behind_taken kind.And equality_columns condition_taken) _ _ _ others)

item_taken : Takes column_place IsItem (λ _. [])
item_taken _ _ _ (named t) lo p = passed kind.Name _ _ _ t lo p
item_taken _ _ _ (aliased t n) lo p = and_then lo [] [] _ _ (passed kind.Name _ _ _ t lo p) (passed kind.Name _ _ _ n)
item_taken _ _ _ (aliased_as t w n) lo p =
    and_then lo [] [] _ _ (passed kind.Name _ _ _ t lo p) (λ hi q. and_then hi [] [] _ _ (passed kind.As _ _ _ w hi q) (passed kind.Name _ _ _ n))

-- the references of an item's ON
abbrev joined_columns : Joined → List ColumnRef
joined_columns j = flat_map equality_columns j.1

joined_taken : Takes column_place IsJoined joined_columns
joined_taken _ _ _ (joined {es = es} i o found) lo p =
    let refs = flat_map equality_columns es in
    and_then lo [] refs _ _ (item_taken _ _ _ i lo p) (λ hi q. and_then hi [] refs _ _ (passed kind.On _ _ _ o hi q) (conditions_taken _ _ _ found))

next_item_taken : Takes column_place IsNextItem joined_columns
next_item_taken _ _ _ (comma c i) lo p = and_then lo [] [] _ _ (passed kind.Comma _ _ _ c lo p) (item_taken _ _ _ i)
next_item_taken _ _ x (join j i) lo p = and_then lo [] (joined_columns x) _ _ (passed kind.Join _ _ _ j lo p) (joined_taken _ _ _ i)
next_item_taken _ _ x (inner_join n j i) lo p =
    and_then lo [] (joined_columns x) _ _ (passed kind.Inner _ _ _ n lo p) (λ hi q. and_then hi [] (joined_columns x) _ _ (passed kind.Join _ _ _ j hi q) (joined_taken _ _ _ i))

columns_joined : (js : List Joined) → flat_map equality_columns (flat_map (λ (j : Joined). j.1) js) ≡ flat_map joined_columns js
columns_joined [] = refl
columns_joined (j ∷ js) = flat_map-append equality_columns j.1 (flat_map (λ (i : Joined). i.1) js) ∙ ap (λ l. joined_columns j ++ l) (columns_joined js)

items_taken : Takes column_place IsItems (λ x. flat_map equality_columns x.1)
items_taken _ rest _ (items {js = js} first others) lo p =
    subst (λ l. Taken column_place lo l rest) (sym (columns_joined js))
    (and_then lo [] (flat_map joined_columns js) _ _ (item_taken _ _ _ first lo p) (many_taken joined_columns next_item_taken _ _ _ others))

where_taken : Takes column_place IsWhere (λ es. flat_map equality_columns es)
where_taken _ _ _ no_where lo p = record { hi = lo; taken = omega arith; left = p }
where_taken _ _ x (some_where w es) lo p = and_then lo [] (flat_map equality_columns x) _ _ (passed kind.Where _ _ _ w lo p) (conditions_taken _ _ _ es)

abbrev term_columns : Term → List ColumnRef
term_columns t = t.column ∷ []

signed_taken : Takes column_place IsSigned term_columns
signed_taken _ _ _ (plus {c = c} s column) lo p = and_then lo [] (c ∷ []) _ _ (passed kind.Plus _ _ _ s lo p) (column_taken _ _ _ column)
signed_taken _ _ _ (minus {c = c} s column) lo p = and_then lo [] (c ∷ []) _ _ (passed kind.Minus _ _ _ s lo p) (column_taken _ _ _ column)

first_term_taken : Takes column_place IsFirstTerm term_columns
first_term_taken _ _ _ (unsigned c) lo p = column_taken _ _ _ c lo p
first_term_taken _ _ _ (signed t) lo p = signed_taken _ _ _ t lo p

direction_taken : Takes column_place IsDirection (λ _. [])
direction_taken _ _ _ unsaid lo p = record { hi = lo; taken = omega arith; left = p }
direction_taken _ _ _ (ascending w) lo p = passed kind.Asc _ _ _ w lo p
direction_taken _ _ _ (descending w) lo p = passed kind.Desc _ _ _ w lo p

key_taken : Takes column_place IsKey key_columns
key_taken _ rest _ (key {t = t} {others = others} first more_terms d) lo p =
    let found = flat_map term_columns others in
    subst (λ l. Taken column_place lo (t.column ∷ l) rest) (append-nil found ∙ flat_map_single (λ (x : Term). x.column) others)
    (and_then lo (t.column ∷ []) (found ++ []) _ _ (first_term_taken _ _ _ first lo p)
    (λ hi q. and_then hi found [] _ _ (many_taken term_columns signed_taken _ _ _ more_terms hi q) (direction_taken _ _ _ d)))

order_taken : Takes column_place IsOrder (λ ks. flat_map key_columns ks)
order_taken _ _ _ no_order lo p = record { hi = lo; taken = omega arith; left = p }
order_taken _ _ _ (some_order {k = k} {ks = ks} o w first others) lo p =
    let refs = flat_map key_columns (k ∷ ks) in
    and_then lo [] refs _ _ (passed kind.Order _ _ _ o lo p) (λ hi q. and_then hi [] refs _ _ (passed kind.By _ _ _ w hi q)
    (λ from r. and_then from (key_columns k) (flat_map key_columns ks) _ _ (key_taken _ _ _ first from r) (many_taken key_columns (behind_taken kind.Comma key_columns key_taken) _ _ _ others)))

branch_taken : Takes column_place IsBranch columns_of
branch_taken _ rest _ (branch {l = l} {i = i} {es = es} {ks = ks} s list f found_items found_where found_order) lo p =
    let on = flat_map equality_columns i.1 in
    let filters = flat_map equality_columns es in
    let ranks = flat_map key_columns ks in
    let all = and_then lo [] (list_columns l ++ (on ++ (filters ++ ranks))) _ _ (passed kind.Select _ _ _ s lo p)
    (λ a pa. and_then a (list_columns l) (on ++ (filters ++ ranks)) _ _ (list_taken _ _ _ list a pa)
    (λ b pb. and_then b [] (on ++ (filters ++ ranks)) _ _ (passed kind.From _ _ _ f b pb)
    (λ c pc. and_then c on (filters ++ ranks) _ _ (items_taken _ _ _ found_items c pc)
    (λ d pd. and_then d filters ranks _ _ (where_taken _ _ _ found_where d pd) (order_taken _ _ _ found_order))))) in
    let same : list_columns l ++ (flat_map equality_columns (i.1 ++ es) ++ ranks) ≡ list_columns l ++ (on ++ (filters ++ ranks))
    = ap (λ m. list_columns l ++ (m ++ ranks)) (flat_map-append equality_columns i.1 es) ∙ ap (λ m. list_columns l ++ m) (append_assoc on filters ranks) in
    subst (λ refs. Taken column_place lo refs rest) (sym same) all

-- ---- items

abbrev item_place : ItemRef → ℕ
item_place i = i.at

-- what takes columns takes no items
no_items : {A : Type 0} {IsX : List Lexeme → List Lexeme → A → Type 0} (refs : A → List ColumnRef) → Takes column_place IsX refs → Takes item_place IsX (λ _. [])
no_items refs takes ts rest x found lo p =
    let t = takes ts rest x found lo p in
    record { hi = t.hi; taken = no_less column_place lo t.hi (refs x) t.taken; left = t.left }

item_then : (lo : ℕ) (i : ItemRef) (rest : List Lexeme) → lo ≤ i.at → Taken item_place (i.at + 1) [] rest → Taken item_place lo (i ∷ []) rest
item_then lo i rest h t = record { hi = t.hi; taken = (h, t.taken); left = t.left }

one_item : Takes item_place IsItem (λ i. i ∷ [])
one_item _ rest i (named {t = t} name) lo p =
    let h = head kind.Name _ _ _ name lo p in
    item_then lo i rest h.here (record { hi = t.at + 1; taken = omega arith; left = h.behind })
one_item _ rest i (aliased {t = t} name alias) lo p =
    let h = head kind.Name _ _ _ name lo p in
    item_then lo i rest h.here (passed kind.Name _ _ _ alias (t.at + 1) h.behind)
one_item _ rest i (aliased_as {t = t} name as_word alias) lo p =
    let h = head kind.Name _ _ _ name lo p in
    item_then lo i rest h.here (and_then (t.at + 1) [] [] _ _ (passed kind.As _ _ _ as_word (t.at + 1) h.behind) (passed kind.Name _ _ _ alias))

-- the item of a join
abbrev joined_items : Joined → List ItemRef
joined_items j = j.0 ∷ []

one_joined : Takes item_place IsJoined joined_items
one_joined _ _ _ (joined {i = i} item o found) lo p =
    and_then lo (i ∷ []) [] _ _ (one_item _ _ _ item lo p) (λ hi q. and_then hi [] [] _ _ (passed kind.On _ _ _ o hi q) (no_items (λ es. flat_map equality_columns es) conditions_taken _ _ _ found))

one_next_item : Takes item_place IsNextItem joined_items
one_next_item _ _ _ (comma {i = i} c item) lo p = and_then lo [] (i ∷ []) _ _ (passed kind.Comma _ _ _ c lo p) (one_item _ _ _ item)
one_next_item _ _ x (join j item) lo p = and_then lo [] (joined_items x) _ _ (passed kind.Join _ _ _ j lo p) (one_joined _ _ _ item)
one_next_item _ _ x (inner_join n j item) lo p =
    and_then lo [] (joined_items x) _ _ (passed kind.Inner _ _ _ n lo p) (λ hi q. and_then hi [] (joined_items x) _ _ (passed kind.Join _ _ _ j hi q) (one_joined _ _ _ item))

all_items : Takes item_place IsItems (λ x. x.0)
all_items _ rest _ (items {i = i} {js = js} first others) lo p =
    subst (λ l. Taken item_place lo (i ∷ l) rest) (flat_map_single (λ (j : Joined). j.0) js)
    (and_then lo (i ∷ []) (flat_map joined_items js) _ _ (one_item _ _ _ first lo p) (many_taken joined_items one_next_item _ _ _ others))

branch_items : Takes item_place IsBranch (λ s. s.items)
branch_items _ rest _ (branch {i = i} s list f found_items found_where found_order) lo p =
    let all = and_then lo [] (i.0 ++ []) _ _ (passed kind.Select _ _ _ s lo p)
    (λ a pa. and_then a [] (i.0 ++ []) _ _ (no_items list_columns list_taken _ _ _ list a pa)
    (λ b pb. and_then b [] (i.0 ++ []) _ _ (passed kind.From _ _ _ f b pb)
    (λ c pc. and_then c i.0 [] _ _ (all_items _ _ _ found_items c pc)
    (λ d pd. and_then d [] [] _ _ (no_items (λ es. flat_map equality_columns es) where_taken _ _ _ found_where d pd)
    (no_items (λ ks. flat_map key_columns ks) order_taken _ _ _ found_order))))) in
    subst (λ refs. Taken item_place lo refs rest) (append-nil i.0) all

-- ---- the branches

module _ {R : Type 0} (place : R → ℕ) (refs : Select → List R) (takes : Takes place IsBranch refs) where
  query_ascends : (ts : List Lexeme) (x : Clauses) → IsQuery ts x → From 0 ts → Ascend place (refs x.0)
  query_ascends _ _ (query found limit ends) p =
      let t = takes _ _ _ found 0 p in
      ascend place 0 t.hi _ t.taken

  next_taken : Takes place (IsNextBranch true) refs
  next_taken _ _ s (next_branch allowed u w found) lo p =
      and_then lo [] (refs s) _ _ (passed kind.Union _ _ _ u lo p)
      (λ hi q. and_then hi [] (refs s) _ _ (passed kind.All _ _ _ w hi q) (takes _ _ _ found))

  each_ascends : (ts rest : List Lexeme) (ss : List Select) → Many (IsNextBranch true) ts rest ss
      → (lo : ℕ) → From lo ts → AllByRecursion (λ s. Ascend place (refs s)) ss
  each_ascends _ _ _ none lo p = tt
  each_ascends _ _ _ (more first others) lo p =
      let t = next_taken _ _ _ first lo p in
      (ascend place lo t.hi _ t.taken, each_ascends _ _ _ others t.hi t.left)

  queries_ascend : (ts : List Lexeme) (x : Branches) → IsQueries true ts x → From 0 ts
      → AllByRecursion (λ s. Ascend place (refs s)) x.0
  queries_ascend _ _ (queries first others limit ends) p =
      let t = takes _ _ _ first 0 p in
      (ascend place 0 t.hi _ t.taken, each_ascends _ _ _ others t.hi t.left)

query_in_order : (ts : List Lexeme) (x : Clauses) → IsQuery ts x → From 0 ts → AreInTextOrder (columns_of x.0)
query_in_order = query_ascends column_place columns_of branch_taken

query_items_in_order : (ts : List Lexeme) (x : Clauses) → IsQuery ts x → From 0 ts → ItemsAreInTextOrder x.0.items
query_items_in_order = query_ascends item_place (λ s. s.items) branch_items

-- the items of a query that was parsed are in the order of the text
pub parsed_items_in_order : (bytes : List ℕ) (select : Select) → IsParsed bytes select → ItemsAreInTextOrder select.items
parsed_items_in_order bytes select parsed =
    subst (λ (s : Select). ItemsAreInTextOrder s.items) (sym parsed.is) (query_items_in_order _ parsed.clauses parsed.says.query (tokens_ascend bytes 0 0 0 (omega arith)))

-- the references of a query that was parsed are in the order of the text
pub parsed_in_order : (bytes : List ℕ) (select : Select) → IsParsed bytes select → AreInTextOrder (columns_of select)
parsed_in_order bytes select parsed =
    subst (λ s. AreInTextOrder (columns_of s)) (sym parsed.is) (query_in_order _ parsed.clauses parsed.says.query (tokens_ascend bytes 0 0 0 (omega arith)))

-- the items of each branch that was parsed are in the order of the text
pub all_items_in_order : (bytes : List ℕ) (all : SelectAll) → IsParsedAll bytes all
    → AllByRecursion (λ (s : Select). ItemsAreInTextOrder s.items) all.branches
all_items_in_order bytes all parsed =
    subst (λ (a : SelectAll). AllByRecursion (λ (s : Select). ItemsAreInTextOrder s.items) a.branches) (sym parsed.is)
    (queries_ascend item_place (λ s. s.items) branch_items _ parsed.clauses parsed.says.queries
    (tokens_ascend bytes 0 0 0 (omega arith)))

-- the references of each branch that was parsed are in the order of the text
pub all_in_order : (bytes : List ℕ) (all : SelectAll) → IsParsedAll bytes all
    → AllByRecursion (λ s. AreInTextOrder (columns_of s)) all.branches
all_in_order bytes all parsed =
    subst (λ (a : SelectAll). AllByRecursion (λ s. AreInTextOrder (columns_of s)) a.branches) (sym parsed.is)
    (queries_ascend column_place columns_of branch_taken _ parsed.clauses parsed.says.queries
    (tokens_ascend bytes 0 0 0 (omega arith)))

-- ---- each branch has an item

abbrev pub HasItems : Select → Type 0
HasItems s = 1 ≤ length s.items

branch_some : {ts rest : List Lexeme} {s : Select} → IsBranch ts rest s → HasItems s
branch_some (branch s list f (items first others) found_where found_order) = omega arith

each_some : {ts rest : List Lexeme} {ss : List Select} → Many (IsNextBranch true) ts rest ss
    → AllByRecursion HasItems ss
each_some none = tt
each_some (more (next_branch allowed u w found) others) = (branch_some found, each_some others)

queries_some : {ts : List Lexeme} {x : Branches} → IsQueries true ts x
    → (1 ≤ length x.0) × AllByRecursion HasItems x.0
queries_some (queries first others limit ends) = (omega arith, (branch_some first, each_some others))

pub all_some : (bytes : List ℕ) (all : SelectAll) → IsParsedAll bytes all
    → (1 ≤ length all.branches) × AllByRecursion HasItems all.branches
all_some bytes all parsed =
    subst (λ (a : SelectAll). (1 ≤ length a.branches) × AllByRecursion HasItems a.branches) (sym parsed.is)
    (queries_some parsed.says.queries)
