-- The canonical text of a query is read as that query.
use Rattle.std.proofs.Common.{◌≡◌, ℕ, ◌+◌, List, [], ◌∷◌, ◌++◌, map, Option, Some, None, Bool, true, false, cond, refl, sym, ap, subst, ◌∙◌, append_assoc}
use Rattle.std.specs.Prelude.{codes}
use Rattle.std.specs.List.{flat_map}
use Rattle.query_select.specs.declared.token.Kind.TheVariants as kind
use Rattle.query_select.specs.declared.select.ColumnRef.{ColumnRef}
use Rattle.query_select.specs.declared.select.SelectList.{SelectList}
use Rattle.query_select.specs.declared.select.SelectList.TheVariants.{Star, Columns}
use Rattle.query_select.specs.declared.select.ItemRef.{ItemRef}
use Rattle.query_select.specs.declared.select.Side.{Side}
use Rattle.query_select.specs.declared.select.Side.TheVariants.{Column, Constant}
use Rattle.query_select.specs.declared.select.Equality.{Equality}
use Rattle.query_select.specs.declared.select.Term.{Term}
use Rattle.query_select.specs.declared.select.KeyRef.{KeyRef}
use Rattle.query_select.specs.Lexeme.{Lexeme}
use Rattle.query_parse.specs.Reading.{Joined, undoubled}
use Rattle.query_parse.specs.Grammar.{Many, none, more, Behind, after_sign, IsColumn, bare, qualified, columns, IsList, star, listed, text, IsCondition, two_columns, constant_right, conditions, IsItem, aliased_as, IsNextItem, comma, IsItems, items, IsWhere, no_where, some_where, IsSigned, plus, minus, IsFirstTerm, unsigned, signed, IsDirection, unsaid, descending, IsKey, key, IsOrder, no_order, some_order}
use Rattle.query_select.specs.Tokens.{tokens_from, kind_of_word}
use Rattle.query_select.specs.Text.{name_text_of}
use Rattle.query_parse.specs.Text.{constant_text, alias_text, column_text, more_columns_text, columns_text, list_text, item_text, more_items_text, items_text, side_text, equality_text, more_equalities_text, where_text, first_term_text, term_text, terms_text, key_text, more_keys_text, order_text}
use Rattle.query_select.specs.Placeless.{placeless_column, placeless_list, placeless_item, placeless_side, placeless_equality, placeless_term, placeless_key}
use Rattle.query_select.proofs.ScanLength.{tokens_at_blank}
use Rattle.query_parse.proofs.TextScan.{undoubled_doubled}
use Rattle.query_parse.proofs.Plain.{Each, EachOfSome, PlainAlias, PlainColumn, PlainItem, PlainSide, PlainEquality, PlainTerm, PlainKey, PlainList}
use Rattle.query_parse.proofs.Written.{Ends, HasNoQuote, after_blank, word_written, name_written, constant_written, comma_written, dot_written, equals_written, plus_written, minus_written, star_written}

-- The tokens of the bytes begin with this thing, which is x as `view` sees it, and those of the
-- rest follow it.
pub record Reads {B C : Type 0} (IsX : List Lexeme → List Lexeme → B → Type 0) (view : B → C) (x : C) (bytes rest : List ℕ) (at : ℕ) : Type 0 where
  pub value : B
  pub next : ℕ
  pub same : view value ≡ x
  pub found : IsX (tokens_from 0 at bytes) (tokens_from 0 next rest) value

pub moved : {B C : Type 0} {IsX : List Lexeme → List Lexeme → B → Type 0} {view : B → C} {x : C} {bytes other rest : List ℕ} → bytes ≡ other → ((at : ℕ) → Reads IsX view x other rest at) → (at : ℕ) → Reads IsX view x bytes rest at
moved {B} {C} {IsX} {view} {x} {bytes} {other} {rest} e h = subst (λ (bs : List ℕ). (at : ℕ) → Reads IsX view x bs rest at) (sym e) h

pub behind_blank : {B C : Type 0} {IsX : List Lexeme → List Lexeme → B → Type 0} {view : B → C} {x : C} {bytes rest : List ℕ} → ((at : ℕ) → Reads IsX view x bytes rest at) → (at : ℕ) → Reads IsX view x (32 ∷ bytes) rest at
behind_blank {B} {C} {IsX} {view} {x} {bytes} {rest} h at =
    let r = h (at + 1) in
    record { value = r.value; next = r.next; same = r.same; found = subst (λ (ts : List Lexeme). IsX ts (tokens_from 0 r.next rest) r.value) (sym (tokens_at_blank at 32 bytes refl)) r.found }

dot_ends : (rest : List ℕ) → Ends (46 ∷ rest)
dot_ends rest = record { word = refl; digits = refl; quote = refl }

pub comma_ends : (rest : List ℕ) → Ends (44 ∷ rest)
comma_ends rest = record { word = refl; digits = refl; quote = refl }

pub blank_ends : (rest : List ℕ) → Ends (32 ∷ rest)
blank_ends rest = record { word = refl; digits = refl; quote = refl }

pub none_ends : Ends []
none_ends = record { word = tt; digits = tt; quote = tt }

-- ---- any number of times

many_ends : {X : Type 0} (write : X → List ℕ) → ((x : X) (rest : List ℕ) → Ends (write x ++ rest)) → (xs : List X) (rest : List ℕ) → Ends rest → Ends (flat_map write xs ++ rest)
many_ends write begins [] rest ends = ends
many_ends write begins (x ∷ xs) rest ends = subst Ends (sym (append_assoc (write x) (flat_map write xs) rest)) (begins x (flat_map write xs ++ rest))

module _ {X B C : Type 0} (IsX : List Lexeme → List Lexeme → B → Type 0) (view : B → C) (gives : X → C) (write : X → List ℕ) (Plain : X → Type 0)
    (begins : (x : X) (rest : List ℕ) → Ends (write x ++ rest))
    (reads : (x : X) → Plain x → (rest : List ℕ) → Ends rest → (at : ℕ) → Reads IsX view (gives x) (write x ++ rest) rest at) where
  pub many_reads : (xs : List X) → Each Plain xs → (rest : List ℕ) → Ends rest → (at : ℕ) → Reads (Many IsX) (map view) (map gives xs) (flat_map write xs ++ rest) rest at
  many_reads [] p rest ends = λ at. record { value = []; next = at; same = refl; found = none }
  many_reads (x ∷ xs) p rest ends = moved (append_assoc (write x) (flat_map write xs) rest) (λ at.
      let first = reads x p.0 (flat_map write xs ++ rest) (many_ends write begins xs rest ends) at in
      let others = many_reads xs p.1 rest ends first.next in
      record { value = first.value ∷ others.value; next = others.next; same = rw (first.same, others.same) refl; found = more first.found others.found })

-- ---- columns

column_by : (alias : Option (List ℕ)) (column : List ℕ) → PlainAlias alias → HasNoQuote column → (rest : List ℕ) → Ends rest
    → (at : ℕ) → Reads IsColumn placeless_column (record { alias = alias; column = column; at = 0 }) ((alias_text alias ++ name_text_of column) ++ rest) rest at
column_by None column pa pc rest ends = λ at.
    let t = name_written column rest pc ends at in
    record { value = record { alias = None; column = t.token.body; at = t.token.at }; next = t.next; same = rw (t.body_is) refl; found = bare t.found }
column_by (Some alias) column pa pc rest ends =
    let behind : List ℕ = name_text_of column ++ rest in
    let parts : ((name_text_of alias ++ 46 ∷ []) ++ name_text_of column) ++ rest ≡ name_text_of alias ++ 46 ∷ behind =
    append_assoc (name_text_of alias ++ 46 ∷ []) (name_text_of column) rest ∙ append_assoc (name_text_of alias) (46 ∷ []) behind in
    moved parts (λ at.
    let q = name_written alias (46 ∷ behind) pa (dot_ends behind) at in
    let d = dot_written behind q.next in
    let n = name_written column rest pc ends d.next in
    record { value = record { alias = Some q.token.body; column = n.token.body; at = q.token.at }; next = n.next; same = rw (q.body_is, n.body_is) refl; found = qualified q.found d.found n.found })

pub column_reads : (c : ColumnRef) → PlainColumn c → (rest : List ℕ) → Ends rest → (at : ℕ) → Reads IsColumn placeless_column (placeless_column c) (column_text c ++ rest) rest at
unfolding column_text
column_reads c p rest ends = column_by c.alias c.column p.alias p.column rest ends

next_column_reads : (c : ColumnRef) → PlainColumn c → (rest : List ℕ) → Ends rest → (at : ℕ) → Reads (Behind kind.Comma IsColumn) placeless_column (placeless_column c) ((codes ", " ++ column_text c) ++ rest) rest at
next_column_reads c p rest ends at =
    let s = comma_written (32 ∷ (column_text c ++ rest)) at in
    let r = behind_blank (column_reads c p rest ends) s.next in
    record { value = r.value; next = r.next; same = r.same; found = after_sign s.found r.found }

pub list_reads : (l : SelectList) → PlainList l → (rest : List ℕ) → Ends rest → (at : ℕ) → Reads IsList placeless_list (placeless_list l) (list_text l ++ rest) rest at
unfolding list_text columns_text
list_reads Star p rest ends = λ at. let s = star_written rest at in record { value = Star; next = s.next; same = refl; found = star s.found }
list_reads (Columns []) p rest ends = absurd p
list_reads (Columns (c ∷ cs)) p rest ends = moved (append_assoc (column_text c) (more_columns_text cs) rest) (λ at.
    let write = λ (column : ColumnRef). codes ", " ++ column_text column in
    let begins = λ (column : ColumnRef) (after : List ℕ). comma_ends (32 ∷ (column_text column ++ after)) in
    let first = column_reads c p.0 (more_columns_text cs ++ rest) (many_ends write begins cs rest ends) at in
    let others = many_reads (Behind kind.Comma IsColumn) placeless_column placeless_column write PlainColumn begins next_column_reads cs p.1 rest ends first.next in
    record { value = Columns (first.value ∷ others.value); next = others.next; same = rw (first.same, others.same) refl; found = listed (columns first.found others.found) })

-- ---- items

pub item_reads : (i : ItemRef) → PlainItem i → (rest : List ℕ) → Ends rest → (at : ℕ) → Reads IsItem placeless_item (placeless_item i) (item_text i ++ rest) rest at
unfolding item_text kind_of_word
item_reads i p rest ends =
    let alias : List ℕ = name_text_of i.alias ++ rest in
    let parts : ((name_text_of i.table ++ codes " as ") ++ name_text_of i.alias) ++ rest ≡ name_text_of i.table ++ 32 ∷ 97 ∷ 115 ∷ 32 ∷ alias =
    append_assoc (name_text_of i.table ++ codes " as ") (name_text_of i.alias) rest ∙ append_assoc (name_text_of i.table) (codes " as ") alias in
    moved parts (λ at.
    let t = name_written i.table (32 ∷ 97 ∷ 115 ∷ 32 ∷ alias) p.table (blank_ends (97 ∷ 115 ∷ 32 ∷ alias)) at in
    let w = after_blank (word_written 97 (115 ∷ []) (32 ∷ alias) kind.As refl refl refl refl) t.next in
    let n = after_blank (name_written i.alias rest p.alias ends) w.next in
    record { value = record { table = t.token.body; alias = n.token.body; at = t.token.at }; next = n.next; same = rw (t.body_is, n.body_is) refl; found = aliased_as t.found w.found n.found })

abbrev pub joined_view : Joined → Joined
joined_view j = (placeless_item j.0, j.1)

abbrev pub alone : ItemRef → Joined
alone i = (placeless_item i, [])

next_item_reads : (i : ItemRef) → PlainItem i → (rest : List ℕ) → Ends rest → (at : ℕ) → Reads IsNextItem joined_view (alone i) ((codes ", " ++ item_text i) ++ rest) rest at
next_item_reads i p rest ends at =
    let s = comma_written (32 ∷ (item_text i ++ rest)) at in
    let r = behind_blank (item_reads i p rest ends) s.next in
    record { value = (r.value, []); next = r.next; same = rw (r.same) refl; found = comma s.found r.found }

abbrev Items : Type 0
Items = List ItemRef × List Equality

abbrev pub items_view : Items → Items
items_view x = (map placeless_item x.0, x.1)

-- items without an ON
split_alone : (js : List Joined) (is : List ItemRef) → map joined_view js ≡ map alone is → (map placeless_item (map (λ (j : Joined). j.0) js) ≡ map placeless_item is) × (flat_map (λ (j : Joined). j.1) js ≡ [])
split_alone [] [] e = (refl, refl)
split_alone [] (i ∷ is) e = absurd cc
split_alone (j ∷ js) [] e = absurd cc
split_alone (j ∷ js) (i ∷ is) e =
    let pairs : joined_view j ≡ alone i = cc in
    let first : placeless_item j.0 ≡ placeless_item i = ap (λ (x : Joined). x.0) pairs in
    let no_on : j.1 ≡ [] = ap (λ (x : Joined). x.1) pairs in
    let others = split_alone js is cc in
    (rw (first, others.0) refl, rw (no_on, others.1) refl)

pub items_read : (is : List ItemRef) → EachOfSome PlainItem is → (rest : List ℕ) → Ends rest → (at : ℕ) → Reads IsItems items_view (map placeless_item is, []) (items_text is ++ rest) rest at
unfolding items_text
items_read [] p rest ends = absurd p
items_read (i ∷ is) p rest ends = moved (append_assoc (item_text i) (more_items_text is) rest) (λ at.
    let write = λ (item : ItemRef). codes ", " ++ item_text item in
    let begins = λ (item : ItemRef) (after : List ℕ). comma_ends (32 ∷ (item_text item ++ after)) in
    let first = item_reads i p.0 (more_items_text is ++ rest) (many_ends write begins is rest ends) at in
    let others = many_reads IsNextItem joined_view alone write PlainItem begins next_item_reads is p.1 rest ends first.next in
    let parts = split_alone others.value is others.same in
    record { value = (first.value ∷ map (λ (j : Joined). j.0) others.value, flat_map (λ (j : Joined). j.1) others.value); next = others.next; same = rw (first.same, parts.0, parts.1) refl; found = items first.found others.found })

-- ---- equalities

equality_by : (left : ColumnRef) (right : Side) → PlainColumn left → PlainSide right → (rest : List ℕ) → Ends rest
    → (at : ℕ) → Reads IsCondition placeless_equality (record { left = placeless_column left; right = placeless_side right }) (column_text left ++ 32 ∷ 61 ∷ 32 ∷ (side_text right ++ rest)) rest at
unfolding side_text
equality_by left (Column right) pl pr rest ends at =
    let behind : List ℕ = column_text right ++ rest in
    let l = column_reads left pl (32 ∷ 61 ∷ 32 ∷ behind) (blank_ends (61 ∷ 32 ∷ behind)) at in
    let e = after_blank (equals_written (32 ∷ behind)) l.next in
    let r = behind_blank (column_reads right pr rest ends) e.next in
    record { value = record { left = l.value; right = Column r.value }; next = r.next; same = rw (l.same, r.same) refl; found = two_columns l.found e.found r.found }
equality_by left (Constant bytes) pl pr rest ends at =
    let behind : List ℕ = constant_text bytes ++ rest in
    let l = column_reads left pl (32 ∷ 61 ∷ 32 ∷ behind) (blank_ends (61 ∷ 32 ∷ behind)) at in
    let e = after_blank (equals_written (32 ∷ behind)) l.next in
    let t = after_blank (constant_written bytes rest ends) e.next in
    let same_bytes : undoubled t.token.body ≡ bytes = ap undoubled t.body_is ∙ undoubled_doubled bytes in
    record { value = record { left = l.value; right = Constant (undoubled t.token.body) }; next = t.next; same = rw (l.same, same_bytes) refl; found = constant_right l.found e.found (text t.found) }

pub equality_reads : (e : Equality) → PlainEquality e → (rest : List ℕ) → Ends rest → (at : ℕ) → Reads IsCondition placeless_equality (placeless_equality e) (equality_text e ++ rest) rest at
unfolding equality_text
equality_reads e p rest ends =
    let parts : ((column_text e.left ++ codes " = ") ++ side_text e.right) ++ rest ≡ column_text e.left ++ 32 ∷ 61 ∷ 32 ∷ (side_text e.right ++ rest) =
    append_assoc (column_text e.left ++ codes " = ") (side_text e.right) rest ∙ append_assoc (column_text e.left) (codes " = ") (side_text e.right ++ rest) in
    moved parts (equality_by e.left e.right p.left p.right rest ends)

next_equality_reads : (e : Equality) → PlainEquality e → (rest : List ℕ) → Ends rest → (at : ℕ) → Reads (Behind kind.And IsCondition) placeless_equality (placeless_equality e) ((codes " and " ++ equality_text e) ++ rest) rest at
unfolding kind_of_word
next_equality_reads e p rest ends at =
    let w = after_blank (word_written 97 (110 ∷ 100 ∷ []) (32 ∷ (equality_text e ++ rest)) kind.And refl refl refl refl) at in
    let r = behind_blank (equality_reads e p rest ends) w.next in
    record { value = r.value; next = r.next; same = r.same; found = after_sign w.found r.found }

pub where_reads : (es : List Equality) → Each PlainEquality es → (rest : List ℕ) → Ends rest → (at : ℕ) → Reads IsWhere (map placeless_equality) (map placeless_equality es) (where_text es ++ rest) rest at
unfolding where_text kind_of_word
where_reads [] p rest ends = λ at. record { value = []; next = at; same = refl; found = no_where }
where_reads (e ∷ es) p rest ends =
    let write = λ (x : Equality). codes " and " ++ equality_text x in
    let begins = λ (x : Equality) (after : List ℕ). blank_ends (97 ∷ 110 ∷ 100 ∷ 32 ∷ (equality_text x ++ after)) in
    let others_text : List ℕ = more_equalities_text es ++ rest in
    let behind : List ℕ = equality_text e ++ others_text in
    let parts : ((codes " where " ++ equality_text e) ++ more_equalities_text es) ++ rest ≡ codes " where " ++ behind =
    append_assoc (codes " where " ++ equality_text e) (more_equalities_text es) rest ∙ append_assoc (codes " where ") (equality_text e) others_text in
    moved parts (λ at.
    let w = after_blank (word_written 119 (104 ∷ 101 ∷ 114 ∷ 101 ∷ []) (32 ∷ behind) kind.Where refl refl refl refl) at in
    let first = behind_blank (equality_reads e p.0 others_text (many_ends write begins es rest ends)) w.next in
    let others = many_reads (Behind kind.And IsCondition) placeless_equality placeless_equality write PlainEquality begins next_equality_reads es p.1 rest ends first.next in
    record { value = first.value ∷ others.value; next = others.next; same = rw (first.same, others.same) refl; found = some_where w.found (conditions first.found others.found) })

-- ---- order keys

first_term_by : (minus_sign : Bool) (c : ColumnRef) → PlainColumn c → (rest : List ℕ) → Ends rest
    → (at : ℕ) → Reads IsFirstTerm placeless_term (record { minus = minus_sign; column = placeless_column c }) (((cond minus_sign (codes "- ") []) ++ column_text c) ++ rest) rest at
first_term_by true c p rest ends at =
    let s = minus_written (32 ∷ (column_text c ++ rest)) at in
    let r = behind_blank (column_reads c p rest ends) s.next in
    record { value = record { minus = true; column = r.value }; next = r.next; same = rw (r.same) refl; found = signed (minus s.found r.found) }
first_term_by false c p rest ends at =
    let r = column_reads c p rest ends at in
    record { value = record { minus = false; column = r.value }; next = r.next; same = rw (r.same) refl; found = unsigned r.found }

first_term_reads : (t : Term) → PlainTerm t → (rest : List ℕ) → Ends rest → (at : ℕ) → Reads IsFirstTerm placeless_term (placeless_term t) (first_term_text t ++ rest) rest at
unfolding first_term_text
first_term_reads t p rest ends = first_term_by t.minus t.column p.column rest ends

term_by : (minus_sign : Bool) (c : ColumnRef) → PlainColumn c → (rest : List ℕ) → Ends rest
    → (at : ℕ) → Reads IsSigned placeless_term (record { minus = minus_sign; column = placeless_column c }) (((cond minus_sign (codes " - ") (codes " + ")) ++ column_text c) ++ rest) rest at
term_by true c p rest ends at =
    let s = after_blank (minus_written (32 ∷ (column_text c ++ rest))) at in
    let r = behind_blank (column_reads c p rest ends) s.next in
    record { value = record { minus = true; column = r.value }; next = r.next; same = rw (r.same) refl; found = minus s.found r.found }
term_by false c p rest ends at =
    let s = after_blank (plus_written (32 ∷ (column_text c ++ rest))) at in
    let r = behind_blank (column_reads c p rest ends) s.next in
    record { value = record { minus = false; column = r.value }; next = r.next; same = rw (r.same) refl; found = plus s.found r.found }

term_reads : (t : Term) → PlainTerm t → (rest : List ℕ) → Ends rest → (at : ℕ) → Reads IsSigned placeless_term (placeless_term t) (term_text t ++ rest) rest at
unfolding term_text
term_reads t p rest ends = term_by t.minus t.column p.column rest ends

term_begins : (t : Term) (rest : List ℕ) → Ends (term_text t ++ rest)
unfolding term_text
term_begins t rest = begins_by t.minus
  where
    begins_by : (b : Bool) → Ends (((cond b (codes " - ") (codes " + ")) ++ column_text t.column) ++ rest)
    begins_by true = blank_ends (45 ∷ 32 ∷ (column_text t.column ++ rest))
    begins_by false = blank_ends (43 ∷ 32 ∷ (column_text t.column ++ rest))

direction_reads : (d : Bool) (rest : List ℕ) → Ends rest → (at : ℕ) → Reads IsDirection (λ x. x) d ((cond d (codes " desc") []) ++ rest) rest at
unfolding kind_of_word
direction_reads true rest ends at =
    let w = after_blank (word_written 100 (101 ∷ 115 ∷ 99 ∷ []) rest kind.Desc refl refl refl ends.word) at in
    record { value = true; next = w.next; same = refl; found = descending w.found }
direction_reads false rest ends at = record { value = false; next = at; same = refl; found = unsaid }

direction_ends : (d : Bool) (rest : List ℕ) → Ends rest → Ends ((cond d (codes " desc") []) ++ rest)
direction_ends true rest ends = blank_ends (100 ∷ 101 ∷ 115 ∷ 99 ∷ rest)
direction_ends false rest ends = ends

key_by : (ts : List Term) (d : Bool) → EachOfSome PlainTerm ts → (rest : List ℕ) → Ends rest
    → (at : ℕ) → Reads IsKey placeless_key (record { terms = map placeless_term ts; descending = d }) ((terms_text ts ++ (cond d (codes " desc") [])) ++ rest) rest at
unfolding terms_text
key_by [] d p rest ends = absurd p
key_by (t ∷ ts) d p rest ends =
    let behind : List ℕ = (cond d (codes " desc") []) ++ rest in
    let behind_ends : Ends behind = direction_ends d rest ends in
    let parts : ((first_term_text t ++ flat_map term_text ts) ++ (cond d (codes " desc") [])) ++ rest ≡ first_term_text t ++ (flat_map term_text ts ++ behind) =
    append_assoc (first_term_text t ++ flat_map term_text ts) (cond d (codes " desc") []) rest ∙ append_assoc (first_term_text t) (flat_map term_text ts) behind in
    moved parts (λ at.
    let first = first_term_reads t p.0 (flat_map term_text ts ++ behind) (many_ends term_text term_begins ts behind behind_ends) at in
    let others = many_reads IsSigned placeless_term placeless_term term_text PlainTerm term_begins term_reads ts p.1 behind behind_ends first.next in
    let way = direction_reads d rest ends others.next in
    record { value = record { terms = first.value ∷ others.value; descending = way.value }; next = way.next; same = rw (first.same, others.same, way.same) refl; found = key first.found others.found way.found })

pub key_reads : (k : KeyRef) → PlainKey k → (rest : List ℕ) → Ends rest → (at : ℕ) → Reads IsKey placeless_key (placeless_key k) (key_text k ++ rest) rest at
unfolding key_text
key_reads k p rest ends = key_by k.terms k.descending p.terms rest ends

next_key_reads : (k : KeyRef) → PlainKey k → (rest : List ℕ) → Ends rest → (at : ℕ) → Reads (Behind kind.Comma IsKey) placeless_key (placeless_key k) ((codes ", " ++ key_text k) ++ rest) rest at
next_key_reads k p rest ends at =
    let s = comma_written (32 ∷ (key_text k ++ rest)) at in
    let r = behind_blank (key_reads k p rest ends) s.next in
    record { value = r.value; next = r.next; same = r.same; found = after_sign s.found r.found }

pub order_reads : (ks : List KeyRef) → Each PlainKey ks → (rest : List ℕ) → Ends rest → (at : ℕ) → Reads IsOrder (map placeless_key) (map placeless_key ks) (order_text ks ++ rest) rest at
unfolding order_text kind_of_word
order_reads [] p rest ends = λ at. record { value = []; next = at; same = refl; found = no_order }
order_reads (k ∷ ks) p rest ends =
    let write = λ (x : KeyRef). codes ", " ++ key_text x in
    let begins = λ (x : KeyRef) (after : List ℕ). comma_ends (32 ∷ (key_text x ++ after)) in
    let others_text : List ℕ = more_keys_text ks ++ rest in
    let behind : List ℕ = key_text k ++ others_text in
    let parts : ((codes " order by " ++ key_text k) ++ more_keys_text ks) ++ rest ≡ codes " order by " ++ behind =
    append_assoc (codes " order by " ++ key_text k) (more_keys_text ks) rest ∙ append_assoc (codes " order by ") (key_text k) others_text in
    moved parts (λ at.
    let o = after_blank (word_written 111 (114 ∷ 100 ∷ 101 ∷ 114 ∷ []) (32 ∷ 98 ∷ 121 ∷ 32 ∷ behind) kind.Order refl refl refl refl) at in
    let w = after_blank (word_written 98 (121 ∷ []) (32 ∷ behind) kind.By refl refl refl refl) o.next in
    let first = behind_blank (key_reads k p.0 others_text (many_ends write begins ks rest ends)) w.next in
    let others = many_reads (Behind kind.Comma IsKey) placeless_key placeless_key write PlainKey begins next_key_reads ks p.1 rest ends first.next in
    record { value = first.value ∷ others.value; next = others.next; same = rw (first.same, others.same) refl; found = some_order o.found w.found first.found others.found })
