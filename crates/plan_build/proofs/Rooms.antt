-- Which ranks have room for a query, and which of these take the fewest bytes.
use Rattle.std.proofs.Common.{◌≡◌, ◌↔◌, ◌≤◌, ℕ, Bool, false, List, length, arith}
use Rattle.std.specs.Prelude.{IsTrue}
use Rattle.rank_key.specs.declared.fixed_rank.FixedRank.{FixedRank}
use Rattle.rank_key.specs.declared.packed.PackedRank.{PackedRank}
use Rattle.rank_key.specs.declared.wide_packed.WidePackedRank.{WidePackedRank}
use Rattle.anyk_model.specs.Table.{Table}
use Rattle.bound_query.specs.WeighedQuery.{BoundQuery, Fits}
use Rattle.node_build.proofs.Shaped.{caps_small}
use Rattle.plan_build.specs.Plan.{PlanView}
use Rattle.plan_build.specs.RankedPlan.{HasLeastRoom, HasRoom, fixed_room, packed_room}
use Rattle.plan_build.specs.declared.ranked_plan.RankedPlan.TheVariants.{Lex, MiddleSum, Packed, SmallLex, Sum, WidePacked}

-- what a test denies
pub denied : {A : Type 0} (b : Bool) → b ≡ false → IsTrue b ↔ A → A → ⊥
denied b none test a = let t = test.1 a in cc

module _ (bound : BoundQuery) (tables : List Table) (fits : Fits bound tables) where
  abbrev HasPlaces : ℕ → ℕ → Type 0
  HasPlaces n m = (length bound.query.order ≤ n) × (length bound.query.items ≤ m)

  fixed_enough : (n m : ℕ) → HasPlaces n m → HasRoom bound tables (fixed_room n m)
  fixed_enough n m places = record { keys = places.0; items = places.1; limit = caps_small bound tables fits }

  no_fixed : (n m : ℕ) → (HasPlaces n m → ⊥) → HasRoom bound tables (fixed_room n m) → ⊥
  no_fixed n m never room = never (room.keys, room.items)

  pub packed_least : (plan : PlanView PackedRank) → HasRoom bound tables (packed_room 4) → HasLeastRoom bound tables (Packed plan)
  packed_least plan room = record {
    enough = room;
    least = ((λ h. omega arith), ((λ h. omega arith), ((λ h. omega arith), ((λ h. omega arith), ((λ h. omega arith), ((λ h. omega arith), tt))))));
  }

  pub wide_packed_least : (plan : PlanView WidePackedRank) → (HasRoom bound tables (packed_room 4) → ⊥) → HasRoom bound tables (packed_room 7)
      → HasLeastRoom bound tables (WidePacked plan)
  wide_packed_least plan packed room = record {
    enough = room;
    least = ((λ h. absurd (packed h)), ((λ h. omega arith), ((λ h. omega arith), ((λ h. omega arith), ((λ h. omega arith), ((λ h. omega arith), tt))))));
  }

  module _ (wide : HasRoom bound tables (packed_room 7) → ⊥) where
    packed : HasRoom bound tables (packed_room 4) → ⊥
    packed h = wide (record { keys = h.keys; items = omega (arith, h.items); limit = h.limit })

    pub middle_least : (plan : PlanView (FixedRank 1 8)) → HasPlaces 1 8 → HasLeastRoom bound tables (MiddleSum plan)
    middle_least plan places = record {
      enough = fixed_enough 1 8 places;
      least = ((λ h. absurd (packed h)), ((λ h. absurd (wide h)), ((λ h. omega arith), ((λ h. omega arith), ((λ h. omega arith), ((λ h. omega arith), tt))))));
    }

    pub small_lex_least : (plan : PlanView (FixedRank 2 4)) → HasPlaces 2 4 → HasLeastRoom bound tables (SmallLex plan)
    small_lex_least plan places = record {
      enough = fixed_enough 2 4 places;
      least = ((λ h. absurd (packed h)), ((λ h. absurd (wide h)), ((λ h. omega arith), ((λ h. omega arith), ((λ h. omega arith), ((λ h. omega arith), tt))))));
    }

    module _ (middle : HasPlaces 1 8 → ⊥) (small_lex : HasPlaces 2 4 → ⊥) where
      pub sum_least : (plan : PlanView (FixedRank 1 16)) → HasPlaces 1 16 → HasLeastRoom bound tables (Sum plan)
      sum_least plan places = record {
        enough = fixed_enough 1 16 places;
        least = ((λ h. absurd (packed h)), ((λ h. absurd (wide h)), ((λ h. absurd (no_fixed 1 8 middle h)), ((λ h. omega arith), ((λ h. absurd (no_fixed 2 4 small_lex h)), ((λ h. omega arith), tt))))));
      }

      pub lex_least : (plan : PlanView (FixedRank 8 16)) → (HasPlaces 1 16 → ⊥) → HasPlaces 8 16 → HasLeastRoom bound tables (Lex plan)
      lex_least plan sum places = record {
        enough = fixed_enough 8 16 places;
        least = ((λ h. absurd (packed h)), ((λ h. absurd (wide h)), ((λ h. absurd (no_fixed 1 8 middle h)), ((λ h. absurd (no_fixed 1 16 sum h)), ((λ h. absurd (no_fixed 2 4 small_lex h)), ((λ h. omega arith), tt))))));
      }
