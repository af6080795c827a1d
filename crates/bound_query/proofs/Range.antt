-- Keys whose sums are in range.
use Rattle.std.proofs.Common.{◌<◌, ◌≤◌, ℕ, List, [], length, false, arith}
use Rattle.anyk_model.specs.Table.{Table}
use Rattle.bound_query.specs.NamedPlaces.{KeyInside}
use Rattle.bound_query.specs.KeyParts.{caps_sum}
use Rattle.bound_query.specs.WeighedQuery.{BoundQuery, Fits}
use Rattle.bound_query.specs.Weights.{KeyInRange, key_at, most_sum}
use Rattle.bound_query.proofs.Lists.{all_at}
use Rattle.bound_query.proofs.Parts.{caps_add}

-- the caps of a key of a bound query add up to a sum that is in range
pub caps_fit : (bound : BoundQuery) (tables : List Table) (key : ℕ) → Fits bound tables → key < length bound.query.order
    → caps_sum tables bound.query.items (key_at bound.query.order key) ≤ most_sum
caps_fit bound tables key fits there =
    let items = bound.query.items in
    let order = bound.query.order in
    let inside = all_at (KeyInside tables items) order key (record { terms = []; descending = false }) fits.within.order there in
    let small = all_at (KeyInRange tables items) order key (record { terms = []; descending = false }) fits.range there in
    let sum = caps_add tables items (key_at order key) inside in
    omega (arith, sum, small)
