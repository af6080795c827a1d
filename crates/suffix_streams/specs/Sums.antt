-- The solutions that a product found, as a list of cells and one of ranks.
use Rattle.std.specs.Prelude.{ℕ, ◌-◌, List, [], map}
use Rattle.std.specs.Vec.{vec_len, vec_capacity}
use Rattle.suffix_streams.specs.declared.cell.Cell.{Cell}
use Rattle.suffix_streams.specs.declared.product.Sums.{Sums}
use Rattle.suffix_streams.specs.declared.product.Sums.TheVariants.{Cells, Ranked}

module _ {R A : Type 0} where
  abbrev pub cells_of : Sums R A → List Cell
  cells_of (Cells cells) = cells.items
  cells_of (Ranked sums) = map (λ e. e.tag) sums.items

  -- none if no ranks are kept
  abbrev pub ranks_of : Sums R A → List R
  ranks_of (Cells cells) = []
  ranks_of (Ranked sums) = map (λ e. e.rank) sums.items

  -- the number of further ones that there is room for
  abbrev pub spare_of : Sums R A → ℕ
  spare_of (Cells cells) = vec_capacity cells - vec_len cells
  spare_of (Ranked sums) = vec_capacity sums - vec_len sums
