-- The columns of an order key, each with the number of times that it is added and subtracted.
use Rattle.std.specs.Prelude.{◌≡◌, ℕ, ◌+◌, ◌<◌, ◌*◌, ◌==◌, Bool, if◌then◌else◌, List, [], ◌∷◌, map, filter, length, get_or, Option, ℤ, pos, ◌-ℤ◌, ◌*ℤ◌, neg_ℤ, ⊤}
use Rattle.anyk_model.specs.Table.{Table}
use Rattle.anyk_model.specs.Query.{Item, Column, Term, total}
use Rattle.rankings.specs.Order.{IsMember}
use Rattle.query_bind.specs.Names.{first_of}
use Rattle.bound_query.specs.KeyParts.{sum_of_all}
use Rattle.bound_query.specs.StoredParts.{column_view}
use Rattle.bound_query.specs.Weights.{column_size, worth_at}
use Rattle.query_bind.specs.declared.fault.BindFault.{BindFault}
use Rattle.query_bind.specs.declared.tallies.Tally.{Tally}

-- a tally with one more term
abbrev pub with_one : Bool → Tally → Tally
with_one minus y =
    if minus then record { column = y.column; plus = y.plus; minus = y.minus + 1 }
    else record { column = y.column; plus = y.plus + 1; minus = y.minus }

-- the number of times that a column counts
abbrev pub net : Tally → ℤ
net y = pos y.plus -ℤ pos y.minus

-- what a term adds, and what a tally adds, if each column has this worth
abbrev pub term_worth : (Column → ℤ) → Term → ℤ
term_worth worth t = if t.minus then neg_ℤ (worth t.column) else worth t.column

abbrev pub tally_worth : (Column → ℤ) → Tally → ℤ
tally_worth worth y = net y *ℤ worth (column_view y.column)

-- the size of a tally, if each column has this size
abbrev pub tally_size : (Column → ℕ) → Tally → ℕ
tally_size size y = (y.plus + y.minus) * size (column_view y.column)

-- tallies that add the same as some terms, whatever the columns are worth, and that have no other
-- columns
pub record AreTallies (terms : List Term) (tallies : List Tally) : Type 0 where
  pub worth : (worth : Column → ℤ)
      → total (map (term_worth worth) terms) ≡ total (map (tally_worth worth) tallies)
  pub size : (size : Column → ℕ)
      → sum_of_all (map (λ (t : Term). size t.column) terms)
      ≡ sum_of_all (map (tally_size size) tallies)
  pub fault : (fault_at : Column → Option BindFault)
      → first_of (λ (t : Term). fault_at t.column) terms
      ≡ first_of (λ (y : Tally). fault_at (column_view y.column)) tallies
  pub named : (y : Tally) → IsMember y tallies
      → (t : Term) × IsMember t terms × (t.column ≡ column_view y.column)

-- the columns of tallies
abbrev pub columns_of : List Tally → List (ℕ × ℕ)
columns_of tallies = map (λ (y : Tally). y.column) tallies

-- each column is in the list once
abbrev pub StandOnce : List (ℕ × ℕ) → Type 0
StandOnce [] = ⊤
StandOnce (c ∷ cs) = (IsMember c cs → ⊥) × StandOnce cs

-- the tallies of some terms, each column once
pub record AreTalliesOnce (terms : List Term) (tallies : List Tally) : Type 0 where
  pub same : AreTallies terms tallies
  pub once : StandOnce (columns_of tallies)

-- the place of the tally of a column
pub record IsTallyOf (column : ℕ × ℕ) (tallies : List Tally) (place : ℕ) : Type 0 where
  pub within : place < length tallies
  pub there : (d : Tally) → (get_or tallies place d).column ≡ column

-- ---- the tallies of an item

abbrev pub tallies_in : ℕ → List Tally → List Tally
tallies_in item tallies = filter (λ (y : Tally). y.column.0 == item) tallies

-- the sum of the greatest weights, each times the number of times that its column counts
abbrev pub tallies_size : List Table → List Item → List Tally → ℕ
tallies_size tables items tallies = sum_of_all (map (tally_size (column_size tables items)) tallies)

-- what tallies add at a row
abbrev pub tallies_sum : List Table → List Item → ℕ → List Tally → ℤ
tallies_sum tables items row tallies = total (map (tally_worth (worth_at tables items row)) tallies)

abbrev pub signed : Bool → ℤ → ℤ
signed descending z = if descending then neg_ℤ z else z
