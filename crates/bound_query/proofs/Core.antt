-- The items of a core ascend, and they are its atoms with their numbers from 1.
use Rattle.std.proofs.Common.{◌≡◌, ◌↔◌, ◌+◌, ◌<◌, ◌^◌, ℕ, zero, suc, List, [], ◌∷◌, map, filter, subst, arith}
use Rattle.std.specs.List.{range_with_len}
use Rattle.hyper_graph.proofs.Bits.{in_below}
use Rattle.hyper_graph.specs.Graph.{is_in}
use Rattle.hyper_graph.specs.Items.{items_below, items_of}
use Rattle.rankings.specs.Order.{IsMember, IsAscending}
use Rattle.rankings.proofs.Ascending.{ascending_filter, below_all}
use Rattle.rankings.proofs.Members.{below_member, kept_member, member_kept, member_map, member_unmap, range_bounds, range_member}
use Rattle.bound_query.specs.Shape.{IsInCore}

range_ascending : (a n : ℕ) → IsAscending (λ x y. x < y) (range_with_len a n)
range_ascending a zero = tt
range_ascending a (suc n) = (
  below_all (λ x y. x < y) a (range_with_len (a + 1) n) (λ k m. omega (arith, (range_bounds (a + 1) n k m).0)),
  range_ascending (a + 1) n,
)

next_ascending : (xs : List ℕ) → IsAscending (λ x y. x < y) xs → IsAscending (λ x y. x < y) (map (λ p. p + 1) xs)
next_ascending [] h = tt
next_ascending (x ∷ xs) h = (
  below_all (λ x y. x < y) (x + 1) (map (λ p. p + 1) xs)
      (λ y m. let (p, n, e) = member_unmap (λ (p : ℕ). p + 1) y xs m in omega (arith, e, below_member (λ x y. x < y) x p xs h.0 n)),
  next_ascending xs h.1,
)

pub items_ascending : (core : ℕ) → IsAscending (λ a b. a < b) (items_of core)
unfolding items_below
items_ascending core = next_ascending (filter (is_in core) (range_with_len 0 16)) (ascending_filter (λ x y. x < y) (is_in core) (range_with_len 0 16) (range_ascending 0 16))

pub items_members : (core item : ℕ) → core < 2 ^ 16 → IsMember item (items_of core) ↔ IsInCore core item
unfolding items_below
items_members core item fits = (to, from)
  where
    to : IsMember item (map (λ p. p + 1) (filter (is_in core) (range_with_len 0 16))) → IsInCore core item
    to m = let (a, n, e) = member_unmap (λ (p : ℕ). p + 1) item (filter (is_in core) (range_with_len 0 16)) m in
        (a, omega (arith, e), (kept_member (is_in core) a (range_with_len 0 16) n).1)

    from : IsInCore core item → IsMember item (map (λ p. p + 1) (filter (is_in core) (range_with_len 0 16)))
    from (a, e, h) =
        let below : a < 16 = in_below core a fits h in
        let next : a + 1 ≡ item = omega (arith, e) in
        subst (λ (k : ℕ). IsMember k (map (λ p. p + 1) (filter (is_in core) (range_with_len 0 16)))) next
        (member_map (λ (p : ℕ). p + 1) a (filter (is_in core) (range_with_len 0 16))
        (member_kept (is_in core) a (range_with_len 0 16) (range_member 0 16 a (omega arith) (omega arith)) h))
