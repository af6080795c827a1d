-- Lists of values are the same exactly where the rows agree.
use Rattle.std.proofs.Common.{◌≡◌, ◌↔◌, ◌<◌, ◌≤◌, ◌-◌, ℕ, List, [], None, length, get_or, refl, sym, ap, ◌∙◌, arith}
use Rattle.std.specs.List.{AllByRecursion}
use Rattle.std.proofs.lemmas.List.{get_or-map, length-map, ext_get_or}
use Rattle.anyk_model.specs.Table.{Table, field_at, header_flaw, rows_flaw, table_at}
use Rattle.anyk_model.specs.Query.{Column}
use Rattle.table_store.specs.Tables.{IsSound}
use Rattle.table_store.specs.Values.{number_of}
use Rattle.anyk_model.proofs.Flaws.{option_or_first, option_or_second, rows_width}
use Rattle.table_store.proofs.Numbers.{numbers_tell_lem}
use Rattle.bound_query.specs.Classes.{HasVariable, row_field, variable_at}
use Rattle.bound_query.specs.NamedPlaces.{IsInside}
use Rattle.bound_query.specs.Items.{item_at}
use Rattle.bound_query.specs.WeighedQuery.{BoundQuery, Fits}
use Rattle.bound_query.specs.Weights.{table_in}
use Rattle.bound_query.proofs.Inside.{shared_inside}
use Rattle.bound_query.proofs.Least.{at_member, shared_along}
use Rattle.bound_query.proofs.Lists.{all_at}
use Rattle.node_build.proofs.Items.{table_there}
use Rattle.node_build.specs.Columns.{AreShared}
use Rattle.node_build.specs.Links.{values_in}
use Rattle.node_build.specs.Nodes.{RowsAgree, RowsAlike}

-- the rows of a table have one width
sound_width : (table : Table) (row : ℕ) → IsSound table → row < length table.rows → length (get_or table.rows row []) ≡ length table.names
sound_width table row sound inside =
    let header = option_or_first (header_flaw table.names) (rows_flaw (length table.names) 1 table.rows) sound in
    let rows : rows_flaw (length table.names) 1 table.rows ≡ None = sym (option_or_second (header_flaw table.names) (rows_flaw (length table.names) 1 table.rows) header) ∙ sound in
    rows_width (length table.names) 1 table.rows row rows inside

-- the values of a row, place by place
value_at : (tables : List Table) (table : Table) (row : ℕ) (columns : List ℕ) (k : ℕ) → k < length columns
    → get_or (values_in tables table row columns) k 0 ≡ number_of tables (field_at table (row - 1) (get_or columns k 0))
value_at tables table row columns k inside = get_or-map (λ (c : ℕ). number_of tables (field_at table (row - 1) c)) columns k 0 0 inside

pub values_length : (tables : List Table) (table : Table) (row : ℕ) (columns : List ℕ) → length (values_in tables table row columns) ≡ length columns
values_length tables table row columns = length-map columns (λ (c : ℕ). number_of tables (field_at table (row - 1) c))

module _ (bound : BoundQuery) (tables : List Table) (fits : Fits bound tables) where
  -- a column of a variable is there
  pub variable_inside : (item number place : ℕ) → HasVariable bound.query.equalities bound.variables item number place
      → place < length (table_in tables bound.query.items item).names
  variable_inside item number place h =
      let here : Column = record { item = item; place = place } in
      let variable = variable_at bound.variables number in
      let shared = shared_along bound.query.equalities variable here h.linked ((fits.variables.members variable).0 (at_member bound.variables number h.known)).0 in
      let i : IsInside tables bound.query.items here = shared_inside tables bound.query.items bound.query.equalities fits.within.equalities here shared in
      i.place

  module _ (i j : ℕ) (own other : List ℕ) (shared : AreShared bound i j (λ v. HasVariable bound.query.equalities bound.variables i v.0 v.1) own other) where
    -- the columns are there
    pub own_inside : (k : ℕ) → k < length own → get_or own k 0 < length (table_in tables bound.query.items i).names
    own_inside k l = let pair = shared.sound k l in variable_inside i pair.number (get_or own k 0) pair.own

    pub other_inside : (k : ℕ) → k < length other → get_or other k 0 < length (table_in tables bound.query.items j).names
    other_inside k l = let same = shared.same in let pair = shared.sound k (omega (arith, l, same)) in variable_inside j pair.number (get_or other k 0) pair.other

module _ (bound : BoundQuery) (tables : List Table) (fits : Fits bound tables) (sound : AllByRecursion IsSound tables) where
  -- the row of an item is there
  pub record IsRowIn (item row : ℕ) : Type 0 where
    pub known : item < length bound.query.items
    pub first : 1 ≤ row
    pub last : row ≤ length (table_in tables bound.query.items item).rows

  abbrev number : ℕ → ℕ → ℕ → ℕ
  number item row place = number_of tables (row_field bound.query tables item row place)

  -- fields with one number are the same
  tell : (item row place other row' place' : ℕ) → IsRowIn item row → place < length (table_in tables bound.query.items item).names
      → number item row place ≡ number other row' place' → row_field bound.query tables item row place ≡ row_field bound.query tables other row' place'
  tell item row place other row' place' here inside e =
      let t = (item_at bound.query.items item).table in
      let there : t < length tables = table_there bound tables fits item t here.known refl in
      let table_sound : IsSound (table_at tables t) = all_at IsSound tables t (record { names = []; rows = [] }) sound there in
      let low = here.first in
      let high = here.last in
      let row_there : row - 1 < length (table_at tables t).rows = omega (arith, low, high) in
      let width = sound_width (table_at tables t) (row - 1) table_sound row_there in
      numbers_tell_lem tables t (row - 1) place (row_field bound.query tables other row' place') there row_there (omega (arith, width, inside)) e

  abbrev values : ℕ → ℕ → List ℕ → List ℕ
  values item row columns = values_in tables (table_in tables bound.query.items item) row columns

  module _ (i j : ℕ) (own other : List ℕ) (shared : AreShared bound i j (λ v. HasVariable bound.query.equalities bound.variables i v.0 v.1) own other) where
    -- the values of a row of the item and of one of the other item
    pub agree_iff : (row row' : ℕ) → IsRowIn i row → (values i row own ≡ values j row' other) ↔ RowsAgree bound tables i j row row'
    agree_iff row row' here = (to, from)
      where
        to : values i row own ≡ values j row' other → RowsAgree bound tables i j row row'
        to e n p q a b =
            let s = shared.complete (n, p) q a b in
            let w = s.within in
            let k = s.place in
            let same = shared.same in
            let left : get_or (values i row own) k 0 ≡ number i row p = value_at tables (table_in tables bound.query.items i) row own k w ∙ ap (number i row) s.first in
            let right : get_or (values j row' other) k 0 ≡ number j row' q =
            value_at tables (table_in tables bound.query.items j) row' other k (omega (arith, w, same)) ∙ ap (number j row') s.second in
            tell i row p j row' q here (variable_inside bound tables fits i n p a) (sym left ∙ ap (λ (xs : List ℕ). get_or xs k 0) e ∙ right)

        from : RowsAgree bound tables i j row row' → values i row own ≡ values j row' other
        from h = ext_get_or 0 (values i row own) (values j row' other)
            (values_length tables (table_in tables bound.query.items i) row own ∙ shared.same ∙ sym (values_length tables (table_in tables bound.query.items j) row' other))
            (λ k l.
            let w : k < length own = omega (arith, l, values_length tables (table_in tables bound.query.items i) row own) in
            let same = shared.same in
            let pair = shared.sound k w in
            value_at tables (table_in tables bound.query.items i) row own k w
            ∙ ap (number_of tables) (h pair.number (get_or own k 0) (get_or other k 0) pair.own pair.other)
            ∙ sym (value_at tables (table_in tables bound.query.items j) row' other k (omega (arith, w, same))))

    -- the values of two rows of the item
    pub alike_iff : (row row' : ℕ) → IsRowIn i row → (values i row own ≡ values i row' own) ↔ RowsAlike bound tables i j row row'
    alike_iff row row' here = (to, from)
      where
        to : values i row own ≡ values i row' own → RowsAlike bound tables i j row row'
        to e n p q a b =
            let s = shared.complete (n, p) q a b in
            let w = s.within in
            let k = s.place in
            let left : get_or (values i row own) k 0 ≡ number i row p = value_at tables (table_in tables bound.query.items i) row own k w ∙ ap (number i row) s.first in
            let right : get_or (values i row' own) k 0 ≡ number i row' p = value_at tables (table_in tables bound.query.items i) row' own k w ∙ ap (number i row') s.first in
            tell i row p i row' p here (variable_inside bound tables fits i n p a) (sym left ∙ ap (λ (xs : List ℕ). get_or xs k 0) e ∙ right)

        from : RowsAlike bound tables i j row row' → values i row own ≡ values i row' own
        from h = ext_get_or 0 (values i row own) (values i row' own)
            (values_length tables (table_in tables bound.query.items i) row own ∙ sym (values_length tables (table_in tables bound.query.items i) row' own))
            (λ k l.
            let w : k < length own = omega (arith, l, values_length tables (table_in tables bound.query.items i) row own) in
            let pair = shared.sound k w in
            value_at tables (table_in tables bound.query.items i) row own k w
            ∙ ap (number_of tables) (h pair.number (get_or own k 0) (get_or other k 0) pair.own pair.other)
            ∙ sym (value_at tables (table_in tables bound.query.items i) row' own k w))
