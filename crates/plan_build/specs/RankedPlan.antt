-- The plan of a query, with the ranks that its order needs.
use Rattle.std.specs.Prelude.{◌+◌, ◌*◌, ◌/◌, ◌^◌, ◌≤◌, ℕ, List, [], ◌∷◌, Option, length}
use Rattle.std.specs.List.{AllByRecursion}
use Rattle.tdp_model.specs.KeyTuple.{KeyOf}
use Rattle.tdp_model.specs.KeyNumbers.{key_of_lists}
use Rattle.rank_key.specs.declared.fixed_rank.FixedRank.{FixedRank}
use Rattle.rank_key.specs.declared.packed.PackedRank.{PackedRank}
use Rattle.rank_key.specs.declared.wide_packed.WidePackedRank.{WidePackedRank}
use Rattle.rank_key.specs.Packed.{packed_key}
use Rattle.rank_key.specs.WidePacked.{with_rest}
use Rattle.anyk_model.specs.Table.{Table}
use Rattle.bound_query.specs.WeighedQuery.{BoundQuery}
use Rattle.node_build.specs.Nodes.{CapsBelow}
use Rattle.plan_build.specs.Plan.{IsPlanOf}
use Rattle.plan_build.specs.declared.ranked_plan.RankedPlan.{RankedPlan}
use Rattle.plan_build.specs.declared.ranked_plan.RankedPlan.TheVariants.{Lex, MiddleSum, Packed, SmallLex, Sum, WidePacked}

-- the key of a rank with n sums and m slots
abbrev pub fixed_key : (n m : ℕ) → FixedRank n m → KeyOf n 16
fixed_key n m rank = key_of_lists n 16 rank.sums rank.slots

-- the key of a rank of one number
abbrev pub key_of_packed : PackedRank → KeyOf 1 16
key_of_packed rank = packed_key rank.number

-- the key of a rank of two numbers
abbrev pub key_of_wide_packed : WidePackedRank → KeyOf 1 16
key_of_wide_packed rank = with_rest (packed_key rank.front.number) rank.rest

-- the plan of the query over these tables, with this item at the root if one is given
abbrev pub IsRankedPlan : BoundQuery → List Table → Option ℕ → RankedPlan → Type 0
IsRankedPlan bound tables at (Packed plan) = IsPlanOf 1 key_of_packed bound tables at plan
IsRankedPlan bound tables at (WidePacked plan) = IsPlanOf 1 key_of_wide_packed bound tables at plan
IsRankedPlan bound tables at (MiddleSum plan) = IsPlanOf 1 (fixed_key 1 8) bound tables at plan
IsRankedPlan bound tables at (Sum plan) = IsPlanOf 1 (fixed_key 1 16) bound tables at plan
IsRankedPlan bound tables at (SmallLex plan) = IsPlanOf 2 (fixed_key 2 4) bound tables at plan
IsRankedPlan bound tables at (Lex plan) = IsPlanOf 8 (fixed_key 8 16) bound tables at plan

-- the numbers of sums and of slots of ranks, what a sum is below in absolute value, and the bytes
-- that a rank takes
pub record Room : Type 0 where
  pub sums : ℕ
  pub slots : ℕ
  pub limit : ℕ
  pub bytes : ℕ

-- ranks with 16 bytes for each sum and 4 for each slot
abbrev pub fixed_room : ℕ → ℕ → Room
fixed_room n m = record { sums = n; slots = m; limit = 2 ^ 127; bytes = 16 * n + 4 * m }

-- those with 44 bits for a sum and 21 for each slot, in numbers of 64 bits
abbrev pub packed_room : ℕ → Room
packed_room m = record {
  sums = 1;
  slots = m;
  limit = 2 ^ 43;
  bytes = (44 + 21 * m + 63) / 64 * 8;
}

-- those of a plan
abbrev pub room_of : RankedPlan → Room
room_of (Packed plan) = packed_room 4
room_of (WidePacked plan) = packed_room 7
room_of (MiddleSum plan) = fixed_room 1 8
room_of (Sum plan) = fixed_room 1 16
room_of (SmallLex plan) = fixed_room 2 4
room_of (Lex plan) = fixed_room 8 16

-- all that there are
abbrev pub rooms : List Room
rooms = packed_room 4 ∷ packed_room 7 ∷ fixed_room 1 8 ∷ fixed_room 1 16 ∷ fixed_room 2 4
    ∷ fixed_room 8 16 ∷ []

-- the query has at most so many order keys, and at most so many items
abbrev pub HasPlaces : BoundQuery → ℕ → ℕ → Type 0
HasPlaces bound sums slots = (length bound.query.order ≤ sums) × (length bound.query.items ≤ slots)

-- there is a sum for each order key and a slot for each item, and the sums are below the limit
pub record HasRoom (bound : BoundQuery) (tables : List Table) (room : Room) : Type 0 where
  pub keys : length bound.query.order ≤ room.sums
  pub items : length bound.query.items ≤ room.slots
  pub limit : CapsBelow room.limit bound tables

-- the ranks of the plan have room for the query, and no ranks that have room for it take fewer
-- bytes
pub record HasLeastRoom (bound : BoundQuery) (tables : List Table)
    (plan : RankedPlan) : Type 0 where
  pub enough : HasRoom bound tables (room_of plan)
  pub least : AllByRecursion
      (λ other. HasRoom bound tables other → (room_of plan).bytes ≤ other.bytes) rooms
