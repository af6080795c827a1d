-- The canonical text of a query that was read is read as that query.
use Rattle.std.proofs.Common.{◌≡◌, ℕ, ◌<◌, ◌^◌, ◌≤◌, List, [], ◌∷◌, ◌++◌, length, map, Option, Some, None, Bool, true, refl, sym, ap, subst, ◌∙◌, arith, append_assoc, ◌&&◌}
use Rattle.std.specs.Prelude.{codes, IfSome}
use Rattle.std.specs.Fmt.{decimal}
use Rattle.std.specs.Str.{all_ascii_digits}
use Rattle.std.specs.List.{list_all}
use Rattle.std.specs.Char.{is_ascii_digit}
use Rattle.std.proofs.lemmas.List.{append-nil, length-map}
use Rattle.std.proofs.lemmas.Str.Parse.{IsNumeralModel, numerals_by_fold, tells_all_ascii_digits}
use Rattle.std.proofs.lemmas.Fmt.{decimal_nonempty, digits_decimal, digits_value-decimal}
use Rattle.query_select.specs.declared.token.Kind.TheVariants as kind
use Rattle.query_select.specs.declared.select.ItemRef.{ItemRef}
use Rattle.query_select.specs.declared.select.Equality.{Equality}
use Rattle.query_select.specs.declared.select.KeyRef.{KeyRef}
use Rattle.query_select.specs.declared.select.Select.{Select}
use Rattle.query_parse.specs.Reading.{Clauses}
use Rattle.query_parse.specs.Grammar.{IsLimit, no_limit, some_limit, IsEnd, no_sign, branch, IsQuery, query}
use Rattle.query_select.specs.Tokens.{tokens_from, tokens_of, kind_of_word}
use Rattle.query_parse.specs.Parse.{decimal_from, limit_of, select_of, IsParsed}
use Rattle.query_parse.specs.Text.{list_text, items_text, where_text, order_text, limit_text, text_of}
use Rattle.query_select.specs.Placeless.{placeless_item, placeless_key, placeless}
use Rattle.query_parse.specs.ReadBack.{ReadsBack}
use Rattle.query_parse.proofs.Plain.{PlainSelect}
use Rattle.query_parse.proofs.PlainNames.{tokens_plain, query_plain}
use Rattle.query_parse.proofs.Written.{Written, Ends, after_blank, word_written, digits_written}
use Rattle.query_parse.proofs.Spelled.{Reads, behind_blank, blank_ends, none_ends, list_reads, items_read, where_reads, order_reads}

-- ---- the limit

own : IsNumeralModel (λ ds. all_ascii_digits ds ≡ true) (decimal_from 0)
unfolding decimal_from
own = numerals_by_fold _ tells_all_ascii_digits decimal_from (record { empty = λ n. refl; more = λ n c cs r. refl })

all_is : (ds : List ℕ) → all_ascii_digits ds ≡ list_all is_ascii_digit ds
all_is [] = refl
all_is (d ∷ ds) = ap (λ (b : Bool). is_ascii_digit d && b) (all_is ds)

limit_reads : (limit : Option ℕ) → IfSome limit (λ n. n < 2 ^ 64) → (at : ℕ) → Reads IsLimit limit_of limit (limit_text limit) [] at
unfolding limit_text kind_of_word
limit_reads None small at = record { value = None; next = at; same = refl; found = no_limit }
limit_reads (Some n) small at =
    let w = after_blank (word_written 108 (105 ∷ 109 ∷ 105 ∷ 116 ∷ []) (32 ∷ decimal n) kind.Limit refl refl refl refl) at in
    let all : list_all is_ascii_digit (decimal n) ≡ true = sym (all_is (decimal n)) ∙ digits_decimal own n small in
    let written = subst (λ (bs : List ℕ). (from : ℕ) → Written kind.Digits (decimal n) bs [] from) (append-nil (decimal n)) (digits_written (decimal n) [] (decimal_nonempty n small) all none_ends) in
    let d = after_blank written w.next in
    let value_is : decimal_from 0 d.token.body ≡ n = ap (decimal_from 0) d.body_is ∙ digits_value-decimal own n small in
    record { value = Some d.token; next = d.next; same = ap (λ (k : ℕ). Some k) value_is; found = some_limit w.found d.found }

limit_ends : (limit : Option ℕ) → Ends (limit_text limit)
unfolding limit_text
limit_ends None = none_ends
limit_ends (Some n) = blank_ends (108 ∷ 105 ∷ 109 ∷ 105 ∷ 116 ∷ 32 ∷ decimal n)

order_ends : (ks : List KeyRef) (rest : List ℕ) → Ends rest → Ends (order_text ks ++ rest)
unfolding order_text
order_ends [] rest ends = ends
order_ends (k ∷ ks) rest ends = record { word = refl; digits = refl; quote = refl }

where_ends : (es : List Equality) (rest : List ℕ) → Ends rest → Ends (where_text es ++ rest)
unfolding where_text
where_ends [] rest ends = ends
where_ends (e ∷ es) rest ends = record { word = refl; digits = refl; quote = refl }

-- ---- the query

regrouped : (a b c d e f g : List ℕ) → (((((a ++ b) ++ c) ++ d) ++ e) ++ f) ++ g ≡ a ++ (b ++ (c ++ (d ++ (e ++ (f ++ g)))))
regrouped a b c d e f g = simp append_assoc

-- a query of the text, which is s except for the offsets
record Again (s : Select) : Type 0 where
  clauses : Clauses
  is_query : IsQuery (tokens_of (text_of s)) clauses
  same : placeless (select_of clauses) ≡ placeless s

no_tokens : (at : ℕ) → IsEnd (tokens_from 0 at [])
unfolding tokens_from
no_tokens at = no_sign

again : (s : Select) → PlainSelect s → IfSome s.limit (λ n. n < 2 ^ 64) → Again s
unfolding text_of kind_of_word
again s p small =
    let behind_order : List ℕ = limit_text s.limit in
    let behind_where : List ℕ = order_text s.keys ++ behind_order in
    let behind_items : List ℕ = where_text s.equalities ++ behind_where in
    let behind_list : List ℕ = codes " from " ++ (items_text s.items ++ behind_items) in
    let limit_end = limit_ends s.limit in
    let order_end = order_ends s.keys behind_order limit_end in
    let where_end = where_ends s.equalities behind_where order_end in
    let parts : text_of s ≡ codes "select " ++ (list_text s.list ++ behind_list) = regrouped (codes "select ") (list_text s.list) (codes " from ") (items_text s.items) (where_text s.equalities) (order_text s.keys) (limit_text s.limit) in
    let se = word_written 115 (101 ∷ 108 ∷ 101 ∷ 99 ∷ 116 ∷ []) (32 ∷ (list_text s.list ++ behind_list)) kind.Select refl refl refl refl 0 in
    let li = behind_blank (list_reads s.list p.list behind_list (blank_ends (102 ∷ 114 ∷ 111 ∷ 109 ∷ 32 ∷ (items_text s.items ++ behind_items)))) se.next in
    let fr = after_blank (word_written 102 (114 ∷ 111 ∷ 109 ∷ []) (32 ∷ (items_text s.items ++ behind_items)) kind.From refl refl refl refl) li.next in
    let it = behind_blank (items_read s.items p.items behind_items where_end) fr.next in
    let wh = where_reads s.equalities p.equalities behind_where order_end it.next in
    let or = order_reads s.keys p.keys behind_order limit_end wh.next in
    let lm = limit_reads s.limit small or.next in
    let found = query (branch se.found li.found fr.found it.found wh.found or.found) lm.found (no_tokens lm.next) in
    let items_same : map placeless_item it.value.0 ≡ map placeless_item s.items = ap (λ (x : List ItemRef × List Equality). x.0) it.same in
    let no_on : it.value.1 ≡ [] = ap (λ (x : List ItemRef × List Equality). x.1) it.same in
    record {
      clauses = (record { list = li.value; items = it.value.0; equalities = it.value.1 ++ wh.value; keys = or.value; limit = None }, lm.value);
      is_query = subst (λ (bs : List ℕ). IsQuery (tokens_of bs) (record { list = li.value; items = it.value.0; equalities = it.value.1 ++ wh.value; keys = or.value; limit = None }, lm.value)) (sym parts) found;
      same = rw (li.same, items_same, no_on, wh.same, or.same, lm.same) refl;
    }

same_length : {A B : Type 0} (f : A → B) (xs ys : List A) → map f xs ≡ map f ys → length xs ≡ length ys
same_length f xs ys e = sym (length-map xs f) ∙ ap (λ (l : List _). length l) e ∙ length-map ys f

pub round_trip : (bytes : List ℕ) (s : Select) → IsParsed bytes s → length (text_of s) ≤ 65536 → ReadsBack (text_of s) s
round_trip bytes s h short =
    let plain = query_plain (tokens_of bytes) h.clauses h.says.query (tokens_plain bytes 0 0) in
    let plain_select : PlainSelect s = subst PlainSelect (sym h.is) (record { list = plain.list; items = plain.items; equalities = plain.equalities; keys = plain.keys }) in
    let a = again s plain_select h.limit in
    let items_same : map placeless_item (select_of a.clauses).items ≡ map placeless_item s.items = ap (λ (t : Select). t.items) a.same in
    let keys_same : map placeless_key (select_of a.clauses).keys ≡ map placeless_key s.keys = ap (λ (t : Select). t.keys) a.same in
    let limit_same : (select_of a.clauses).limit ≡ s.limit = ap (λ (t : Select). t.limit) a.same in
    let read : IsParsed (text_of s) (select_of a.clauses) = record {
      clauses = a.clauses;
      says = record { short = short; query = a.is_query };
      items = omega (arith, h.items, same_length placeless_item (select_of a.clauses).items s.items items_same);
      keys = omega (arith, h.keys, same_length placeless_key (select_of a.clauses).keys s.keys keys_same);
      limit = subst (λ (o : Option ℕ). IfSome o (λ n. n < 2 ^ 64)) (sym limit_same) h.limit;
      is = refl;
    } in
    record { other = select_of a.clauses; read = read; same = a.same }
