-- The cost of calls on a set of cursors, one after another.
use Rattle.std.proofs.Common.{◌≡◌, ◌+◌, ◌-◌, ◌*◌, ◌<◌, ◌≤◌, ◌⊎◌, inl, inr, ℕ, zero, suc, List, Bool, true, false, Some, Result, Ok, Err, OnOk, refl, sym, ap, subst, ◌∙◌, arith}
use Rattle.std.proofs.lemmas.Bool.{cases_lt}
use Rattle.std.proofs.lemmas.Nat.{mul-le}
use Rattle.cursor_set.specs.CursorSet.{CursorSet, IsKnownAt, Keeps, place_of, seen_of}
use Rattle.bound_query.specs.Steps.{steps_for}
use Rattle.bound_query.proofs.Pacing.{steps_more}
use Rattle.command_output.specs.SessionCosts.{KeepsSessionCost, Paid, Spent, engine_steps}

module _ (share : List ℕ → ℕ → ℕ) (rises : (s : List ℕ) (c d : ℕ) → c ≤ d → share s c ≤ share s d) where
  -- ---- calls of the engine

  rises_from : (size : List ℕ) (calls c d : ℕ) → c ≤ d → share size (calls + c) ≤ share size (calls + d)
  rises_from size calls c d h = rises size (calls + c) (calls + d) (omega (arith, h))

  -- the steps of x calls and of y calls after them
  joined : (size : List ℕ) (a b x y : ℕ) → b ≤ a + x
      → steps_for (λ n. share size (a + n)) x + steps_for (λ n. share size (b + n)) y ≤ steps_for (λ n. share size (a + n)) (x + y)
  joined size a b x zero h = let more = steps_more (λ n. share size (a + n)) (rises_from size a) x (x + 0) (omega arith) in omega (arith, more)
  joined size a b x (suc y) h =
      let most = share size (a + (x + suc y - 1)) in
      let first = mul-le x (share size (a + (x - 1))) x most (omega arith) (rises_from size a (x - 1) (x + suc y - 1) (omega arith)) in
      let second = mul-le (suc y) (share size (b + (suc y - 1))) (suc y) most (omega arith) (rises size (b + (suc y - 1)) (a + (x + suc y - 1)) (omega (arith, h))) in
      omega (arith, first, second)

  pub more_steps : (set : CursorSet) (m n : ℕ) → m ≤ n → engine_steps share set m ≤ engine_steps share set n
  more_steps set m n h = steps_more (λ k. share set.size (set.calls + k)) (rises_from set.size set.calls) m n h

  -- the same from the state that the first x of these calls led to
  pub joined_at : (old mid : CursorSet) (x y : ℕ) → mid.size ≡ old.size → mid.calls ≤ old.calls + x
      → engine_steps share old x + engine_steps share mid y ≤ engine_steps share old (x + y)
  joined_at old mid x y same few =
      subst (λ (size : List ℕ). engine_steps share old x + steps_for (λ n. share size (mid.calls + n)) y ≤ engine_steps share old (x + y)) (sym same)
      (joined old.size old.calls mid.calls x y few)

  -- ---- calls of the set, one after another

  pub within_spent : (old new : CursorSet) (reach calls before now : ℕ) → Spent share old new reach calls before now → KeepsSessionCost share old reach calls before now
  within_spent old new reach calls before now s =
      omega (arith, s.steps, more_steps old (seen_of new - seen_of old) (reach - seen_of old) (omega (arith, s.far)))

  pub paid_spent : {A E : Type 0} (old new : CursorSet) (reach calls before now : ℕ) (result : Result A E) → Spent share old new reach calls before now
      → Paid share old new reach calls before now result
  paid_spent old new reach calls before now result s = record { spent = at result; within = within_spent old new reach calls before now s }
    where
      at : {A E : Type 0} (r : Result A E) → OnOk r (Spent share old new reach calls before now)
      at (Ok a) = s
      at (Err e) = tt

  -- `reach` may be further, and there may be more calls
  pub spent_wider : (old new : CursorSet) (reach further calls more before now : ℕ) → reach ≤ further → calls ≤ more → Spent share old new reach calls before now
      → Spent share old new further more before now
  spent_wider old new reach further calls more before now wide many s = record {
    size = s.size;
    rises = s.rises;
    few = s.few;
    grown = let grown = s.grown in omega (arith, grown, many);
    far = let far = s.far in omega (arith, far, wide);
    steps = let steps = s.steps in omega (arith, steps, many);
  }

  module _ (old mid : CursorSet) (reach further whole calls more all before at now : ℕ) (first : Spent share old mid reach calls before at)
      (near : reach ≤ whole) (next : further ≤ whole) (few : calls + more ≤ all) where
    few_calls : mid.calls ≤ old.calls + (seen_of mid - seen_of old)
    few_calls = let r = first.rises in let f = first.few in omega (arith, r, f)

    pub within_then : KeepsSessionCost share mid further more at now → KeepsSessionCost share old whole all before now
    within_then within =
        let x = seen_of mid - seen_of old in
        let y = further - seen_of mid in
        let total = more_steps old (x + y) (whole - seen_of old) (omega (arith, first.rises, first.far, near, next)) in
        omega (arith, first.steps, within, joined_at old mid x y first.size few_calls, total, few)

    pub spent_then : (new : CursorSet) → Spent share mid new further more at now → Spent share old new whole all before now
    spent_then new second =
        let x = seen_of mid - seen_of old in
        let y = seen_of new - seen_of mid in
        let rise = first.rises in
        let rise' = second.rises in
        record {
          size = second.size ∙ first.size;
          rises = omega (arith, rise, rise');
          few = let f = first.few in let f' = second.few in omega (arith, f, f');
          grown = let g = first.grown in let g' = second.grown in omega (arith, g, g', few);
          far = let f = first.far in let f' = second.far in omega (arith, f, f', near, next);
          steps =
              let total = more_steps old (x + y) (seen_of new - seen_of old) (omega (arith, rise, rise')) in
              omega (arith, first.steps, second.steps, joined_at old mid x y first.size few_calls, total, few);
        }

  -- ---- one call of the set

  -- only places of cursors changed, in this many steps
  pub spent_places : (old new : CursorSet) (reach calls before now : ℕ) → new ≡ record old { places = new.places } → now ≤ before + 4 * calls
      → Spent share old new reach calls before now
  spent_places old new reach calls before now same few =
      let seen : seen_of new ≡ seen_of old = ap seen_of same in
      let called : new.calls ≡ old.calls = ap (λ (s : CursorSet). s.calls) same in
      record {
        size = ap (λ (s : CursorSet). s.size) same;
        rises = omega (arith, seen);
        few = omega (arith, seen, called);
        grown = omega (arith, seen);
        far = omega (arith, seen);
        steps = omega (arith, few);
      }

  pub paid_places : {A E : Type 0} (old new : CursorSet) (now : ℕ) (result : Result A E) → new ≡ record old { places = new.places } → Paid share old new 0 0 now now result
  paid_places old new now result same = paid_spent old new 0 0 now now result (spent_places old new 0 0 now now same (omega arith))

  -- each member before this place, and the end, is known already
  is_known : (set : CursorSet) (place : ℕ) → ((place + 1 ≤ set.known) ⊎ (set.ended ≡ true)) ⊎ ((set.known ≤ place) × (set.ended ≡ false))
  is_known set place = by (cases_lt place set.known) set.ended refl
    where
      by : (place < set.known) ⊎ (set.known ≤ place) → (b : Bool) → set.ended ≡ b → ((place + 1 ≤ set.known) ⊎ (set.ended ≡ true)) ⊎ ((set.known ≤ place) × (set.ended ≡ false))
      by (inl below) b e = inl (inl (omega (arith, below)))
      by (inr past) true e = inl (inr e)
      by (inr past) false e = inr (past, e)

  seen_open : (set : CursorSet) → set.ended ≡ false → seen_of set ≡ set.known
  seen_open set e = rw e (omega arith)

  seen_ended : (set : CursorSet) → set.ended ≡ true → seen_of set ≡ set.known + 1
  seen_ended set e = rw e refl

  one_call : (set : CursorSet) → engine_steps share set 1 ≡ share set.size set.calls
  one_call set =
      let same : set.calls + (1 - 1) ≡ set.calls = omega arith in
      let all : 1 * share set.size (set.calls + (1 - 1)) ≡ share set.size (set.calls + (1 - 1)) = omega arith in
      all ∙ ap (share set.size) same

  module _ (old new : CursorSet) (number place before now : ℕ) (here : place_of old number ≡ Some place) (kept : Keeps old new) (grown : seen_of new ≤ seen_of old + 1)
      (known : IsKnownAt old number → (new ≡ record old { places = new.places }) × (now ≤ before + 4)) (called : new.calls ≤ old.calls + 1)
      (cost : now ≤ before + share old.size old.calls + 4) where
    -- even if the call was refused memory
    pub within_call : KeepsSessionCost share old (place + 1) 1 before now
    within_call = by (is_known old place)
      where
        by : ((place + 1 ≤ old.known) ⊎ (old.ended ≡ true)) ⊎ ((old.known ≤ place) × (old.ended ≡ false)) → KeepsSessionCost share old (place + 1) 1 before now
        by (inl seen) = let few = (known (place, here, seen)).1 in omega (arith, few)
        by (inr (past, going)) =
            let more = more_steps old 1 (place + 1 - seen_of old) (omega (arith, seen_open old going, past)) in
            omega (arith, cost, one_call old, more)

    pub within_one : now ≤ before + engine_steps share old 1 + 4
    within_one = let one = one_call old in omega (arith, cost, one)

    -- if it gave the member or the end at the place
    pub spent_call : (place + 1 ≤ new.known) ⊎ (new.ended ≡ true) → Spent share old new (place + 1) 1 before now
    spent_call found = by (is_known old place)
      where
        rise : old.known ≤ place → old.ended ≡ false → seen_of old + 1 ≤ seen_of new
        rise past going = elim found [
          | inl more ↦ let seen = seen_open old going in omega (arith, seen, past, more)
          | inr end ↦ let seen = seen_open old going in let seen' = seen_ended new end in let least = kept.known in omega (arith, seen, seen', least)
        ]

        by : ((place + 1 ≤ old.known) ⊎ (old.ended ≡ true)) ⊎ ((old.known ≤ place) × (old.ended ≡ false)) → Spent share old new (place + 1) 1 before now
        by (inl seen) = let (same, few) = known (place, here, seen) in spent_places old new (place + 1) 1 before now same few
        by (inr (past, going)) =
            let least = rise past going in
            record {
              size = kept.size;
              rises = omega (arith, least);
              few = omega (arith, least, called);
              grown = grown;
              far = omega (arith, seen_open old going, past, grown);
              steps =
                  let more = more_steps old 1 (seen_of new - seen_of old) (omega (arith, least)) in
                  omega (arith, cost, one_call old, more);
            }

  -- ---- a new set

  pub new_steps : (set : CursorSet) (size : List ℕ) (first asked calls before now : ℕ) → set.size ≡ size → set.calls ≡ first
      → now ≤ before + engine_steps share set asked + 4 * calls → now ≤ before + steps_for (λ n. share size (first + n)) asked + 4 * calls
  new_steps set size first asked calls before now same called h =
      let A : List ℕ → Type 0 = λ s. now ≤ before + steps_for (λ n. share s (set.calls + n)) asked + 4 * calls in
      let B : ℕ → Type 0 = λ k. now ≤ before + steps_for (λ n. share size (k + n)) asked + 4 * calls in
      subst B called (subst A same h)

  pub within_new : (set : CursorSet) (size : List ℕ) (first reach calls before now : ℕ) → set.size ≡ size → set.calls ≡ first → seen_of set ≡ 0
      → KeepsSessionCost share set reach calls before now → now ≤ before + steps_for (λ n. share size (first + n)) reach + 4 * calls
  within_new set size first reach calls before now same called none within =
      let all : reach - seen_of set ≡ reach = omega (arith, none) in
      new_steps set size first reach calls before now same called (subst (λ k. now ≤ before + engine_steps share set k + 4 * calls) all within)
