use Rattle.std.proofs.Common.{◌≡◌, ◌+◌, ◌≤◌, List, ◌∷◌, length, subst, arith}
use Rattle.std.specs.List.Sorted.{IsPermutation}
use Rattle.std.proofs.lemmas.List.Sorted.{length_permutation}
use Rattle.rank_key.specs.Bits.{bit_length}
use Rattle.suffix_streams.proofs.waiting.offer.Goals as goal

longer : {X : Type 0} (x : X) (old new : List X) → IsPermutation (x ∷ old) new → length old + 1 ≡ length new
longer x old new moved = let same = length_permutation (x ∷ old) new moved in omega (arith, same)

pub returns-in-Some-clause-cost : goal.returns-in-Some-clause-cost
returns-in-Some-clause-cost g c = subst (λ n. c.push_reserved.new.steps ≤ c.args.steps.now + bit_length n) (longer _ _ _ c.push_reserved.ensures.permutation) c.push_reserved.ensures.cost
