-- The steps of calls that are made one by one, and the limits of the loops that make them.
use Rattle.std.proofs.Common.{◌≡◌, ◌≤◌, ◌<◌, ◌+◌, ◌-◌, ◌^◌, min, ℕ, List, Option, Some, None, IfSome, unwrap_or, is_some, true, ap, subst, sym, arith, ◌∙◌}
use Rattle.bound_query.specs.Steps.{steps_for}
use Rattle.bound_query.proofs.Pacing.{steps_next}

-- i calls were made, and took no more than their shares
pub record HasCalled (share : List ℕ → ℕ → ℕ) (size : List ℕ) (calls i : ℕ) (size_now : List ℕ) (calls_now before now : ℕ) : Type 0 where
  pub same : size_now ≡ size
  pub few : calls_now ≤ calls + i
  pub spent : now ≤ before + steps_for (λ n. share size (calls + n)) i

module _ (share : List ℕ → ℕ → ℕ) (rises : (s : List ℕ) (c d : ℕ) → c ≤ d → share s c ≤ share s d) (size : List ℕ) (calls : ℕ) where
  pub rises_from : (c d : ℕ) → c ≤ d → share size (calls + c) ≤ share size (calls + d)
  rises_from c d h = rises size (calls + c) (calls + d) (omega (arith, h))

  -- one call more
  pub called_more : (i : ℕ) (size_now size_later : List ℕ) (calls_now calls_later before now later due : ℕ)
      → HasCalled share size calls i size_now calls_now before now → due ≤ share size_now calls_now → later ≤ now + due
      → calls_later ≤ calls_now + 1 → size_later ≡ size_now → HasCalled share size calls (i + 1) size_later calls_later before later
  called_more i size_now size_later calls_now calls_later before now later due h within cost count kept =
      let at_most : share size_now calls_now ≤ share size (calls + i) =
      subst (λ s. share s calls_now ≤ share size (calls + i)) (sym h.same) (rises size calls_now (calls + i) h.few) in
      record {
        same = kept ∙ h.same;
        few = let few = h.few in omega (arith, few, count);
        spent = steps_next (λ n. share size (calls + n)) rises_from i before now later h.spent (omega (arith, within, cost, at_most));
      }

-- a count that stays at its last number rises by one at most
pub counted_few : (n m : ℕ) → m ≡ min (n + 1) (2 ^ 64 - 1) → m ≤ n + 1
counted_few n m is = omega (arith, is)

-- a number below what a limit allows
pub limit_below : (limit : Option ℕ) (i most greatest : ℕ) → most ≡ unwrap_or limit greatest → i < most → IfSome limit (λ n. i < n)
limit_below None i most greatest is below = tt
limit_below (Some n) i most greatest is below = omega (arith, is, below)

pub limit_within : (limit : Option ℕ) (i most greatest : ℕ) → most ≡ unwrap_or limit greatest → i < most → IfSome limit (λ n. i ≤ n)
limit_within None i most greatest is below = tt
limit_within (Some n) i most greatest is below = omega (arith, is, below)

-- the limit that a loop met
pub limit_reached : (limit : Option ℕ) (i most greatest : ℕ) → most ≡ unwrap_or limit greatest → is_some limit ≡ true → most ≤ i → i ≤ most → limit ≡ Some i
limit_reached None i most greatest is some end within = cc
limit_reached (Some n) i most greatest is some end within = ap Some (omega (arith, is, end, within))
