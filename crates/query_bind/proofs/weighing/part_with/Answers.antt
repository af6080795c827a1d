use Rattle.std.proofs.Common.{◌≡◌, ◌≤◌, ◌+ℤ◌, ◌*ℤ◌, ◌∙◌, ℤ, SFits, arith, nat_abs}
use mir.Syntax.{w128}
use mir.Val.{of_z, to_z}
use Rattle.std.proofs.lemmas.Int.{ints, to_z-of_z}
use Rattle.bound_query.specs.Weights.{most_sum}
use Rattle.query_bind.proofs.weighing.part_with.Goals as goal

small : (z : ℤ) → nat_abs z ≤ most_sum → SFits w128 z
small z h = omega (arith, ints, h)

module _ (part net weight : ℤ) (p : SFits w128 part) (n : SFits w128 net) (w : SFits w128 weight) (product : nat_abs (net *ℤ weight) ≤ most_sum) where
  read_product : to_z w128 (of_z w128 net) *ℤ to_z w128 (of_z w128 weight) ≡ net *ℤ weight
  read_product = λ i. to_z-of_z w128 net n i *ℤ to_z-of_z w128 weight w i

  product_fits : SFits w128 (to_z w128 (of_z w128 net) *ℤ to_z w128 (of_z w128 weight))
  product_fits = rw read_product (small (net *ℤ weight) product)

  read_sum : to_z w128 (of_z w128 part) +ℤ to_z w128 (of_z w128 (to_z w128 (of_z w128 net) *ℤ to_z w128 (of_z w128 weight))) ≡ part +ℤ net *ℤ weight
  read_sum = λ i. to_z-of_z w128 part p i +ℤ (to_z-of_z w128 (to_z w128 (of_z w128 net) *ℤ to_z w128 (of_z w128 weight)) product_fits ∙ read_product) i

  sum_fits : nat_abs (part +ℤ net *ℤ weight) ≤ most_sum
      → SFits w128 (to_z w128 (of_z w128 part) +ℤ to_z w128 (of_z w128 (to_z w128 (of_z w128 net) *ℤ to_z w128 (of_z w128 weight))))
  sum_fits h = rw read_sum (small (part +ℤ net *ℤ weight) h)

pub overflow_mul-more : goal.overflow_mul-more
overflow_mul-more c = product_fits c.args.part c.args.net c.args.weight c.ranges.part c.ranges.net c.ranges.weight c.requires.product

pub overflow_add-result : goal.overflow_add-result
overflow_add-result c = sum_fits c.args.part c.args.net c.args.weight c.ranges.part c.ranges.net c.ranges.weight c.requires.product c.requires.sum

pub returns : goal.returns
returns c =
    let e = read_sum c.args.part c.args.net c.args.weight c.ranges.part c.ranges.net c.ranges.weight c.requires.product in
    let f = sum_fits c.args.part c.args.net c.args.weight c.ranges.part c.ranges.net c.ranges.weight c.requires.product c.requires.sum in
    to_z-of_z w128 _ f ∙ e
