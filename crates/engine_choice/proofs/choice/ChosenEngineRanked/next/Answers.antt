use Rattle.std.proofs.Common.{ℕ, List, arith}
use Rattle.tdp_core.specs.RisingShares.{shares_rise}
use Rattle.tdp_core.specs.Shares.{size_of}
use Rattle.engine_choice.proofs.choice.ChosenEngineRanked.next.Goals as goal

pub returns-in-Part : goal.returns-in-Part
returns-in-Part g c = record {
  found = rw c.in-Part.is c.next.ensures.found;
  end = rw c.in-Part.is c.next.ensures.end;
  refused = rw c.in-Part.is c.next.ensures.refused;
  counted = rw c.in-Part.is c.next.ensures.counted;
  size = rw c.in-Part.is c.next.ensures.size;
  cost = rw c.in-Part.is c.next.ensures.cost;
}

pub returns-in-Rec : goal.returns-in-Rec
returns-in-Rec g c = record {
  found = rw c.in-Rec.is c.next-in-Rec.ensures.found;
  end = rw c.in-Rec.is c.next-in-Rec.ensures.end;
  refused = rw c.in-Rec.is c.next-in-Rec.ensures.refused;
  counted = rw c.in-Rec.is c.next-in-Rec.ensures.counted;
  size = rw c.in-Rec.is c.next-in-Rec.ensures.size;
  cost = rw c.in-Rec.is c.next-in-Rec.ensures.cost;
}

pub returns-in-Best : goal.returns-in-Best
returns-in-Best g c =
    let size : List ℕ = size_of c.in-Best.best.tree in
    let calls : ℕ = c.in-Best.best.calls in
    record {
      found = rw c.in-Best.is c.next-in-Best.ensures.found;
      end = rw c.in-Best.is c.next-in-Best.ensures.end;
      refused = rw c.in-Best.is c.next-in-Best.ensures.refused;
      counted = rw c.in-Best.is c.next-in-Best.ensures.counted;
      size = rw c.in-Best.is c.next-in-Best.ensures.size;
      cost = rw c.in-Best.is (omega (arith, c.next-in-Best.ensures.cost, shares_rise size 0 calls (omega arith)));
    }
