-- No name of a query that was read has a quote.
use Rattle.std.proofs.Common.{◌≡◌, ℕ, zero, suc, ◌+◌, ◌-◌, List, [], ◌∷◌, ◌++◌, take, map, Option, Some, None, Bool, true, false, cond, not, eqb, ltb, length, refl, one-add}
use Rattle.std.specs.List.{flat_map, list_all, prefix_len, position}
use Rattle.query_select.specs.declared.token.Kind.{Kind}
use Rattle.query_select.specs.declared.token.Kind.TheVariants as kind
use Rattle.query_select.specs.Lexeme.{Lexeme}
use Rattle.query_parse.specs.Reading.{Joined, Clauses}
use Rattle.query_parse.specs.Grammar.{One, one, Many, none, more, Behind, after_sign, IsColumn, bare, qualified, IsColumns, columns, IsList, star, listed, IsConstant, text, digits, negative, IsCondition, two_columns, constant_right, constant_left, IsConditions, conditions, IsItem, named, aliased, aliased_as, IsJoined, joined, IsNextItem, comma, join, inner_join, IsItems, items, IsWhere, no_where, some_where, IsSigned, plus, minus, IsFirstTerm, unsigned, signed, IsDirection, unsaid, ascending, descending, IsKey, key, IsOrder, no_order, some_order, branch, IsQuery, query}
use Rattle.query_select.specs.Tokens.{Scan, quoted_scan, word_scan, digits_scan, is_blank, is_letter, is_word_byte, closing, scan_of, tokens_from}
use Rattle.std.specs.Char.{is_ascii_digit}
use Rattle.query_parse.proofs.Plain.{Each, EachOfSome, PlainColumn, PlainItem, PlainEquality, PlainTerm, PlainKey, PlainList, PlainSelect}
use Rattle.query_parse.proofs.Written.{HasNoQuote, differs}

-- ---- tokens

abbrev pub PlainToken : Lexeme → Type 0
PlainToken t = t.kind ≡ kind.Name → HasNoQuote t.body

abbrev PlainScan : Scan → Type 0
PlainScan s = s.kind ≡ kind.Name → HasNoQuote s.body

front_by : (p q : ℕ → Bool) → ((b : ℕ) → p b ≡ true → q b ≡ true) → (t : Bool) (x : ℕ) (xs : List ℕ) → p x ≡ t → list_all q (take (prefix_len p xs) xs) ≡ true → list_all q (take (cond t (1 + prefix_len p xs) 0) (x ∷ xs)) ≡ true
front_by p q imp true x xs e ih = rw (one-add, imp x e, ih) refl
front_by p q imp false x xs e ih = refl

front_passes : (p q : ℕ → Bool) → ((b : ℕ) → p b ≡ true → q b ≡ true) → (xs : List ℕ) → list_all q (take (prefix_len p xs) xs) ≡ true
front_passes p q imp [] = refl
front_passes p q imp (x ∷ xs) = front_by p q imp (p x) x xs refl (front_passes p q imp xs)

word_byte_plain : (b : ℕ) → is_word_byte b ≡ true → not (eqb b 34) ≡ true
word_byte_plain b h = let e = differs is_word_byte b 34 h refl (eqb b 34) refl in rw e refl

choose : (t : Bool) (x y : Scan) → PlainScan x → PlainScan y → PlainScan (cond t x y)
choose true x y f g = f
choose false x y f g = g

quoted_name : (xs : List ℕ) (t : Bool) → PlainScan (quoted_scan kind.Name xs (cond t (Some (prefix_len (λ x. not (eqb x 34)) xs)) None))
quoted_name xs true e = front_passes (λ x. not (eqb x 34)) (λ x. not (eqb x 34)) (λ b h. h) xs
quoted_name xs false e = absurd cc

quoted_text : (xs : List ℕ) (o : Option ℕ) → PlainScan (quoted_scan kind.Text xs o)
quoted_text xs None e = absurd cc
quoted_text xs (Some n) e = absurd cc

digits_plain : (bytes : List ℕ) → PlainScan (digits_scan bytes)
digits_plain bytes e = absurd cc

scan_plain : (b : ℕ) (bs : List ℕ) → PlainScan (scan_of (b ∷ bs))
unfolding scan_of
scan_plain b bs =
    choose (is_letter b) (word_scan (b ∷ bs)) _ (λ _. front_passes is_word_byte (λ x. not (eqb x 34)) word_byte_plain (b ∷ bs))
    (choose (is_ascii_digit b) (digits_scan (b ∷ bs)) _ (digits_plain (b ∷ bs))
    (choose (eqb b 34) (quoted_scan kind.Name bs (position (λ x. eqb x 34) bs)) _ (quoted_name bs (ltb (prefix_len (λ x. not (eqb x 34)) bs) (length bs)))
    (choose (eqb b 39) (quoted_scan kind.Text bs (closing bs)) _ (quoted_text bs (closing bs)) (λ _. refl))))

plain_cond : (t : Bool) (xs ys : List Lexeme) → Each PlainToken xs → Each PlainToken ys → Each PlainToken (cond t xs ys)
plain_cond true xs ys p q = p
plain_cond false xs ys p q = q

pub tokens_plain : (bs : List ℕ) (taken at : ℕ) → Each PlainToken (tokens_from taken at bs)
unfolding tokens_from
tokens_plain [] taken at = tt
tokens_plain (b ∷ bs) (suc taken) at = tokens_plain bs taken (at + 1)
tokens_plain (b ∷ bs) zero at = plain_cond (is_blank b) (tokens_from zero (at + 1) bs) _ (tokens_plain bs zero (at + 1)) (scan_plain b bs, tokens_plain bs ((scan_of (b ∷ bs)).len - 1) (at + 1))

-- ---- the grammar

abbrev Plain : List Lexeme → Type 0
Plain ts = Each PlainToken ts

-- what is read of plain tokens has P
abbrev Gives : {A : Type 0} → (List Lexeme → List Lexeme → A → Type 0) → (A → Type 0) → Type 0
Gives {A} IsX P = (ts rest : List Lexeme) (x : A) → IsX ts rest x → Plain ts → P x × Plain rest

name_plain : Gives (One kind.Name) (λ t. HasNoQuote t.body)
name_plain _ _ _ (one e) p = (p.0 e, p.1)

passed : (k : Kind) → Gives (One k) (λ _. Unit {0})
passed k _ _ _ (one e) p = (tt, p.1)

many_plain : {A : Type 0} {IsX : List Lexeme → List Lexeme → A → Type 0} (P : A → Type 0) → Gives IsX P → Gives (Many IsX) (Each P)
many_plain P gives _ _ _ none p = (tt, p)
many_plain P gives _ _ _ (more first others) p =
    let f = gives _ _ _ first p in
    let o = many_plain P gives _ _ _ others f.1 in
    ((f.0, o.0), o.1)

behind_plain : {A : Type 0} {IsX : List Lexeme → List Lexeme → A → Type 0} (k : Kind) (P : A → Type 0) → Gives IsX P → Gives (Behind k IsX) P
behind_plain k P gives _ _ _ (after_sign s thing) p = gives _ _ _ thing (passed k _ _ _ s p).1

column_plain : Gives IsColumn PlainColumn
column_plain _ _ _ (bare n) p = let a = name_plain _ _ _ n p in (record { alias = tt; column = a.0 }, a.1)
column_plain _ _ _ (qualified q d n) p =
    let a = name_plain _ _ _ q p in
    let b = name_plain _ _ _ n (passed kind.Dot _ _ _ d a.1).1 in
    (record { alias = a.0; column = b.0 }, b.1)

columns_plain : Gives IsColumns (EachOfSome PlainColumn)
columns_plain _ _ _ (columns first others) p =
    let f = column_plain _ _ _ first p in
    let o = many_plain PlainColumn (behind_plain kind.Comma PlainColumn column_plain) _ _ _ others f.1 in
    ((f.0, o.0), o.1)

list_plain : Gives IsList PlainList
list_plain _ _ _ (star s) p = (tt, (passed kind.Star _ _ _ s p).1)
list_plain _ _ _ (listed cs) p = columns_plain _ _ _ cs p

constant_plain : Gives IsConstant (λ _. Unit {0})
constant_plain _ _ _ (text t) p = passed kind.Text _ _ _ t p
constant_plain _ _ _ (digits d) p = passed kind.Digits _ _ _ d p
constant_plain _ _ _ (negative m d) p = passed kind.Digits _ _ _ d (passed kind.Minus _ _ _ m p).1

condition_plain : Gives IsCondition PlainEquality
condition_plain _ _ _ (two_columns l e r) p =
    let a = column_plain _ _ _ l p in
    let b = column_plain _ _ _ r (passed kind.Equals _ _ _ e a.1).1 in
    (record { left = a.0; right = b.0 }, b.1)
condition_plain _ _ _ (constant_right l e r) p =
    let a = column_plain _ _ _ l p in
    (record { left = a.0; right = tt }, (constant_plain _ _ _ r (passed kind.Equals _ _ _ e a.1).1).1)
condition_plain _ _ _ (constant_left l e r) p =
    let b = column_plain _ _ _ r (passed kind.Equals _ _ _ e (constant_plain _ _ _ l p).1).1 in
    (record { left = b.0; right = tt }, b.1)

conditions_plain : Gives IsConditions (Each PlainEquality)
conditions_plain _ _ _ (conditions first others) p =
    let f = condition_plain _ _ _ first p in
    let o = many_plain PlainEquality (behind_plain kind.And PlainEquality condition_plain) _ _ _ others f.1 in
    ((f.0, o.0), o.1)

item_plain : Gives IsItem PlainItem
item_plain _ _ _ (named t) p = let a = name_plain _ _ _ t p in (record { table = a.0; alias = a.0 }, a.1)
item_plain _ _ _ (aliased t n) p =
    let a = name_plain _ _ _ t p in
    let b = name_plain _ _ _ n a.1 in
    (record { table = a.0; alias = b.0 }, b.1)
item_plain _ _ _ (aliased_as t w n) p =
    let a = name_plain _ _ _ t p in
    let b = name_plain _ _ _ n (passed kind.As _ _ _ w a.1).1 in
    (record { table = a.0; alias = b.0 }, b.1)

record PlainJoined (j : Joined) : Type 0 where
  item : PlainItem j.0
  on : Each PlainEquality j.1

joined_plain : Gives IsJoined PlainJoined
joined_plain _ _ _ (joined i o es) p =
    let a = item_plain _ _ _ i p in
    let b = conditions_plain _ _ _ es (passed kind.On _ _ _ o a.1).1 in
    (record { item = a.0; on = b.0 }, b.1)

next_item_plain : Gives IsNextItem PlainJoined
next_item_plain _ _ _ (comma c i) p = let a = item_plain _ _ _ i (passed kind.Comma _ _ _ c p).1 in (record { item = a.0; on = tt }, a.1)
next_item_plain _ _ _ (join j i) p = joined_plain _ _ _ i (passed kind.Join _ _ _ j p).1
next_item_plain _ _ _ (inner_join n j i) p = joined_plain _ _ _ i (passed kind.Join _ _ _ j (passed kind.Inner _ _ _ n p).1).1

each_append : {A : Type 0} (P : A → Type 0) (xs ys : List A) → Each P xs → Each P ys → Each P (xs ++ ys)
each_append P [] ys p q = q
each_append P (x ∷ xs) ys p q = (p.0, each_append P xs ys p.1 q)

joined_parts : (js : List Joined) → Each PlainJoined js → Each PlainItem (map (λ (j : Joined). j.0) js) × Each PlainEquality (flat_map (λ (j : Joined). j.1) js)
joined_parts [] p = (tt, tt)
joined_parts (j ∷ js) p =
    let o = joined_parts js p.1 in
    let first : PlainJoined j = p.0 in
    ((first.item, o.0), each_append PlainEquality j.1 (flat_map (λ (i : Joined). i.1) js) first.on o.1)

items_plain : Gives IsItems (λ x. EachOfSome PlainItem x.0 × Each PlainEquality x.1)
items_plain _ _ _ (items {js = js} first others) p =
    let f = item_plain _ _ _ first p in
    let o = many_plain PlainJoined next_item_plain _ _ _ others f.1 in
    let parts = joined_parts js o.0 in
    (((f.0, parts.0), parts.1), o.1)

where_plain : Gives IsWhere (Each PlainEquality)
where_plain _ _ _ no_where p = (tt, p)
where_plain _ _ _ (some_where w es) p = conditions_plain _ _ _ es (passed kind.Where _ _ _ w p).1

signed_plain : Gives IsSigned PlainTerm
signed_plain _ _ _ (plus s c) p = let a = column_plain _ _ _ c (passed kind.Plus _ _ _ s p).1 in (record { column = a.0 }, a.1)
signed_plain _ _ _ (minus s c) p = let a = column_plain _ _ _ c (passed kind.Minus _ _ _ s p).1 in (record { column = a.0 }, a.1)

first_term_plain : Gives IsFirstTerm PlainTerm
first_term_plain _ _ _ (unsigned c) p = let a = column_plain _ _ _ c p in (record { column = a.0 }, a.1)
first_term_plain _ _ _ (signed t) p = signed_plain _ _ _ t p

direction_plain : Gives IsDirection (λ _. Unit {0})
direction_plain _ _ _ unsaid p = (tt, p)
direction_plain _ _ _ (ascending w) p = passed kind.Asc _ _ _ w p
direction_plain _ _ _ (descending w) p = passed kind.Desc _ _ _ w p

key_plain : Gives IsKey PlainKey
key_plain _ _ _ (key first others d) p =
    let f = first_term_plain _ _ _ first p in
    let o = many_plain PlainTerm signed_plain _ _ _ others f.1 in
    (record { terms = (f.0, o.0) }, (direction_plain _ _ _ d o.1).1)

order_plain : Gives IsOrder (Each PlainKey)
order_plain _ _ _ no_order p = (tt, p)
order_plain _ _ _ (some_order o w first others) p =
    let f = key_plain _ _ _ first (passed kind.By _ _ _ w (passed kind.Order _ _ _ o p).1).1 in
    let others_plain = many_plain PlainKey (behind_plain kind.Comma PlainKey key_plain) _ _ _ others f.1 in
    ((f.0, others_plain.0), others_plain.1)

pub query_plain : (ts : List Lexeme) (x : Clauses) → IsQuery ts x → Plain ts → PlainSelect x.0
query_plain _ _ (query (branch s list f found_items found_where found_order) found_limit ends) p =
    let l = list_plain _ _ _ list (passed kind.Select _ _ _ s p).1 in
    let i = items_plain _ _ _ found_items (passed kind.From _ _ _ f l.1).1 in
    let w = where_plain _ _ _ found_where i.1 in
    let o = order_plain _ _ _ found_order w.1 in
    record { list = l.0; items = i.0.0; equalities = each_append PlainEquality _ _ i.0.1 w.0; keys = o.0 }
