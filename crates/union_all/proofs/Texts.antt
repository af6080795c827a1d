-- The fields of a line, in two orders of appending.
use Rattle.std.proofs.Common.{◌≡◌, ◌<◌, ◌+◌, ◌-◌, ◌∙◌, ℕ, max, None, Bool, true, false, if◌then◌else◌, List, [], ◌∷◌, ◌++◌, map, length, take, get_or, replicate, refl, sym, ap, subst, append_assoc, append-nil, arith}
use Rattle.std.specs.List.{All}
use Rattle.std.proofs.lemmas.List.{get_or-map, length-map, map-append, take_more}
use Rattle.std.proofs.lemmas.List.Elements.{All-get_or}
use Rattle.std.specs.Fmt.{decimal, signed_decimal}
use Rattle.anyk_model.specs.Table.{Table, table_at}
use Rattle.anyk_model.specs.Query.{IsCombination, Item, OrderKey, Query, row_counts, sum_of, value_of}
use Rattle.anyk_model.specs.Output.{Style, line_fields, optional_field}
use Rattle.bound_query.specs.WeighedQuery.{BoundQuery, Fits}
use Rattle.anyk_model.proofs.Combinations.{combination_length}
use Rattle.anyk_model.specs.TaggedRows.{branch_at, tagged}
use Rattle.anyk_model.specs.UnionOutput.{most_items, union_line_fields, without_rows}

-- # A query of several

abbrev pub queries_in : List BoundQuery → List Query
queries_in bounds = map (λ (q : BoundQuery). q.query) bounds

module _ (bounds : List BoundQuery) (b : ℕ) (inside : b < length bounds) (q : BoundQuery) (at : q ≡ get_or bounds b q) where
  pub query_of : branch_at (queries_in bounds) b ≡ q.query
  query_of =
      get_or-map (λ (x : BoundQuery). x.query) bounds b q (record { items = []; equalities = []; order = []; list = []; limit = None }) inside
      ∙ ap (λ (x : BoundQuery). x.query) (sym at)

  pub fits_of : (tables : List Table) → All (λ (x : BoundQuery). Fits x tables) bounds → Fits q tables
  fits_of tables all = subst (λ (x : BoundQuery). Fits x tables) (sym at) (All-get_or (λ (x : BoundQuery). Fits x tables) bounds b q inside all)

  pub rows_of : (tables : List Table) (rows : List ℕ) → IsCombination (row_counts (branch_at (queries_in bounds) b).items tables) (take (length (branch_at (queries_in bounds) b).items) rows)
      → IsCombination (row_counts q.query.items tables) (take (length q.query.items) rows)
  rows_of tables rows is = subst (λ (x : Query). IsCombination (row_counts x.items tables) (take (length x.items) rows)) query_of is

most_more : (queries : List Query) (query : Query) → most_items (queries ++ query ∷ []) ≡ max (length query.items) (most_items queries)
most_more [] query = refl
most_more (q ∷ queries) query = let h = most_more queries query in omega (arith, h)

-- one more query
pub most_next : (bounds : List BoundQuery) (i : ℕ) (q : BoundQuery) (most : ℕ) → i < length bounds → q ≡ get_or bounds i q → most ≡ most_items (queries_in (take i bounds))
    → max (length q.query.items) most ≡ most_items (queries_in (take (i + 1) bounds))
most_next bounds i q most inside at was =
    ap (max (length q.query.items)) was ∙ sym (most_more (queries_in (take i bounds)) q.query)
    ∙ sym (ap (λ (l : List BoundQuery). most_items (queries_in l)) (take_more bounds i q inside ∙ ap (λ (x : BoundQuery). take i bounds ++ x ∷ []) (sym at))
    ∙ ap most_items (map-append (λ (x : BoundQuery). x.query) (take i bounds) (q ∷ [])))

-- # Appending

module _ {X : Type 0} where
  -- the fields of the branch, and then those of the union
  pub joined : (cs ns rs bs : List X) → (cs ++ ns) ++ (rs ++ bs) ≡ (cs ++ (ns ++ (rs ++ []))) ++ bs
  joined cs ns rs bs =
      append_assoc cs ns (rs ++ bs) ∙ ap (λ (l : List X). cs ++ l) (sym (append_assoc ns rs bs) ∙ ap (λ (l : List X). (ns ++ l) ++ bs) (sym (append-nil rs)))
      ∙ sym (append_assoc cs (ns ++ (rs ++ [])) bs)

  pub line_joined : (b : Bool) (os vs ss ms es : List X) (d : X)
      → os ++ (vs ++ ((ss ++ (if b then d ∷ ms else [])) ++ (if b then es else []))) ≡ (os ++ (vs ++ (ss ++ []))) ++ (if b then d ∷ (ms ++ es) else [])
  line_joined true os vs ss ms es d =
      ap (λ (l : List X). os ++ (vs ++ l)) (append_assoc ss (d ∷ ms) es) ∙ sym (append_assoc os vs (ss ++ (d ∷ (ms ++ es)))) ∙ joined os vs ss (d ∷ (ms ++ es))
  line_joined false os vs ss ms es d = ap (λ (l : List X). os ++ (vs ++ l)) (append-nil (ss ++ [])) ∙ sym (append-nil (os ++ (vs ++ (ss ++ []))))

  pub four_parts : (a b c d : List X) → ((a ++ b) ++ c) ++ d ≡ a ++ (b ++ (c ++ d))
  four_parts a b c d = append_assoc (a ++ b) c d ∙ append_assoc a b (c ++ d)

-- # The fields of a line

abbrev no-field : List ℕ
no-field = []

empty_if : (b : Bool) (n : ℕ) → replicate (if b then n else 0) no-field ≡ (if b then replicate n no-field else [])
empty_if true n = refl
empty_if false n = refl

line_told : (b : Bool) (os vs ss ms numbers fields : List (List ℕ)) (d : List ℕ) (lacking n : ℕ) → fields ≡ os ++ (vs ++ (numbers ++ replicate lacking no-field))
    → numbers ≡ ss ++ (if b then d ∷ ms else []) → lacking ≡ (if b then n else 0)
    → fields ≡ (os ++ (vs ++ (ss ++ []))) ++ (if b then d ∷ (ms ++ replicate n no-field) else [])
line_told b os vs ss ms numbers fields d lacking n is shown lacks =
    is ∙ (λ i. os ++ (vs ++ (shown i ++ replicate (lacks i) no-field))) ∙ ap (λ (l : List (List ℕ)). os ++ (vs ++ ((ss ++ (if b then d ∷ ms else [])) ++ l))) (empty_if b n)
    ∙ line_joined b os vs ss ms (replicate n no-field) d

module _ (bounds : List BoundQuery) (tables : List Table) (style : Style) (b : ℕ) (rows : List ℕ) (inside : b < length bounds) (q : BoundQuery) (at : q ≡ get_or bounds b q)
    (are : IsCombination (row_counts q.query.items tables) (take (length q.query.items) rows)) where
  -- the fields of a line by the query of the branch
  abbrev fields-by : Query → List (List ℕ)
  fields-by k =
      line_fields k tables (without_rows style) (take (length k.items) rows)
      ++ (if style.rows then decimal (b + 1) ∷ (map decimal (take (length k.items) rows) ++ replicate (most_items (queries_in bounds) - length (take (length k.items) rows)) []) else [])

  width : length (take (length q.query.items) rows) ≡ length q.query.items
  width =
      combination_length (row_counts q.query.items tables) (take (length q.query.items) rows) are
      ∙ length-map q.query.items (λ (i : Item). length ((table_at tables i.table).rows))

  pub line_is : (numbers fields : List (List ℕ)) (lacking : ℕ)
      → numbers ≡ (if style.ranks then map (λ (k : OrderKey). signed_decimal (sum_of q.query tables (take (length q.query.items) rows) k)) q.query.order else [])
      ++ (if style.rows then decimal (b + 1) ∷ map decimal (take (length q.query.items) rows) else [])
      → lacking ≡ (if style.rows then most_items (queries_in bounds) - length q.query.items else 0)
      → fields ≡ optional_field style.cursor ++ (map (value_of q.query tables (take (length q.query.items) rows)) q.query.list ++ (numbers ++ replicate lacking []))
      → fields ≡ union_line_fields (queries_in bounds) tables style (tagged b (take (length (branch_at (queries_in bounds) b).items) rows))
  line_is numbers fields lacking shown lacks is =
      line_told style.rows (optional_field style.cursor) (map (value_of q.query tables (take (length q.query.items) rows)) q.query.list)
      (if style.ranks then map (λ (k : OrderKey). signed_decimal (sum_of q.query tables (take (length q.query.items) rows) k)) q.query.order else [])
      (map decimal (take (length q.query.items) rows)) numbers fields (decimal (b + 1)) lacking (most_items (queries_in bounds) - length (take (length q.query.items) rows))
      is shown (lacks ∙ ap (λ (n : ℕ). if style.rows then most_items (queries_in bounds) - n else 0) (sym width))
      ∙ ap fields-by (sym (query_of bounds b inside q at))
