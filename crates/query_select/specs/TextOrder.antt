-- The references of a query in the order of its text.
use Rattle.std.specs.Prelude.{ℕ, ◌<◌, List, [], ◌∷◌, ◌++◌, map}
use Rattle.std.specs.List.{flat_map}
use Rattle.rankings.specs.Order.{IsAscending}
use Rattle.query_select.specs.declared.select.ColumnRef.{ColumnRef}
use Rattle.query_select.specs.declared.select.SelectList.{SelectList}
use Rattle.query_select.specs.declared.select.SelectList.TheVariants.{Star, Columns}
use Rattle.query_select.specs.declared.select.ItemRef.{ItemRef}
use Rattle.query_select.specs.declared.select.Side.{Side}
use Rattle.query_select.specs.declared.select.Side.TheVariants.{Column, Constant}
use Rattle.query_select.specs.declared.select.Equality.{Equality}
use Rattle.query_select.specs.declared.select.Term.{Term}
use Rattle.query_select.specs.declared.select.KeyRef.{KeyRef}
use Rattle.query_select.specs.declared.select.Select.{Select}

abbrev pub list_columns : SelectList → List ColumnRef
list_columns Star = []
list_columns (Columns columns) = columns

abbrev pub side_columns : Side → List ColumnRef
side_columns (Column column) = column ∷ []
side_columns (Constant bytes) = []

abbrev pub equality_columns : Equality → List ColumnRef
equality_columns e = e.left ∷ side_columns e.right

abbrev pub key_columns : KeyRef → List ColumnRef
key_columns key = map (λ (t : Term). t.column) key.terms

-- the references of the select list, then of the equalities, then of the order keys
abbrev pub columns_of : Select → List ColumnRef
columns_of select = list_columns select.list
    ++ (flat_map equality_columns select.equalities ++ flat_map key_columns select.keys)

-- each begins before all the later ones
abbrev pub Ascend : {R : Type 0} → (R → ℕ) → List R → Type 0
Ascend {R} place refs = IsAscending (λ (a b : R). place a < place b) refs

abbrev pub AreInTextOrder : List ColumnRef → Type 0
AreInTextOrder columns = Ascend (λ (c : ColumnRef). c.at) columns

abbrev pub ItemsAreInTextOrder : List ItemRef → Type 0
ItemsAreInTextOrder items = Ascend (λ (i : ItemRef). i.at) items
