-- How far steps reach, and the calls that they make.
use Rattle.std.proofs.Common.{◌≡◌, ◌+◌, ◌<◌, ◌≤◌, ℕ, List, ◌∷◌, Bool, true, false, not, nat_le, nat_lt, if◌then◌else◌, Option, Some, None, IfSome, IsSomeAnd, length, drop, get_or, unwrap_or, refl, sym, ap, subst, ◌∙◌, arith}
use Rattle.std.specs.Prelude.{max, min, take}
use Rattle.std.proofs.lemmas.Bool.{leb-true}
use Rattle.std.proofs.lemmas.Bool.Decides.{nat_tests}
use Rattle.std.proofs.lemmas.List.{drop_more, length-drop, length-take-le}
use Rattle.anyk_model.specs.Output.{cut}
use Rattle.cursor_set.specs.CursorSet.{CursorSet}
use Rattle.session_script.specs.declared.step.Step.{Step}
use Rattle.session_script.specs.declared.step.Step.TheVariants.{Next}
use Rattle.output_model.specs.Session.{Places, no_cursors, places_after}
use Rattle.output_model.specs.SessionCalls.{calls_among, calls_of_step, calls_of_steps, ends_by_itself, reach_of_step, reach_of_steps}
use Rattle.command_output.specs.SessionCosts.{KeepsSessionCost, Spent, calls_at}
use Rattle.command_output.proofs.SessionCosts.{spent_places, spent_then, spent_wider, within_spent, within_then}

-- ---- the calls of one step

calls_below : (limit : Option ℕ) (place : ℕ) → IfSome limit (λ n. place < n) → calls_at limit place ≡ 1
calls_below None place below = refl
calls_below (Some n) place below = grind (arith, nat_tests)

calls_past : (limit : Option ℕ) (place : ℕ) → IsSomeAnd limit (λ n. n ≤ place) → calls_at limit place ≡ 0
calls_past None place past = absurd past
calls_past (Some n) place past = grind (arith, nat_tests)

pub at_below : (P : ℕ → Type 0) (limit : Option ℕ) (place : ℕ) → IfSome limit (λ n. place < n) → P 1 → P (calls_at limit place)
at_below P limit place below h = subst P (sym (calls_below limit place below)) h

pub at_limit : (P : ℕ → Type 0) (limit : Option ℕ) (place : ℕ) → IsSomeAnd limit (λ n. n ≤ place) → P 0 → P (calls_at limit place)
at_limit P limit place past h = subst P (sym (calls_past limit place past)) h

-- members that were given are among those that were asked for
pub given_among : (ends : Bool) (left given count : ℕ) → given ≤ left → given ≤ count → given ≤ calls_among ends left count
given_among ends left given count within few = omega (arith, within, few)

more_among : (left given count : ℕ) → given ≤ left → given < count → given + 1 ≤ calls_among true left count
more_among left given count within few = by (nat_lt left count) refl
  where
    by : (b : Bool) → nat_lt left count ≡ b → given + 1 ≤ min count left + (if b then 1 else 0)
    by true e = omega (arith, within, few)
    by false e = let past : count ≤ left = grind (arith, nat_tests) in omega (arith, past, few)

-- and so is the next one, or the end, unless it is at the limit
pub next_among : (limit : Option ℕ) (ranking : List (List ℕ)) (start given count : ℕ) → given ≤ length (drop start (cut limit ranking)) → given < count
    → given + calls_at limit (start + given) ≤ calls_among (ends_by_itself limit ranking) (length (drop start (cut limit ranking))) count
next_among None ranking start given count within few = more_among (length (drop start ranking)) given count within few
next_among (Some n) ranking start given count within few = by (nat_lt (start + given) n) refl (nat_le n (length ranking)) refl
  where
    left : ℕ
    left = length (drop start (take n ranking))

    by : (b : Bool) → nat_lt (start + given) n ≡ b → (r : Bool) → nat_le n (length ranking) ≡ r
        → given + (if b then 1 else 0) ≤ calls_among (not r) (length (drop start (take n ranking))) count
    by false e r is = let h = given_among (not r) (length (drop start (take n ranking))) given count within (omega (arith, few)) in omega (arith, h)
    by true e false is = more_among (length (drop start (take n ranking))) given count within few
    by true e true is =
        let below : start + given < n = grind (arith, nat_tests) in
        let rest = length-drop start (take n ranking) in
        omega (arith, below, length-take-le n ranking (leb-true n (length ranking) is), rest, few)

-- ---- one member after another

-- the calls that members which were asked for may take
abbrev among : Option ℕ → List (List ℕ) → ℕ → ℕ → ℕ
among limit ranking start count = calls_among (ends_by_itself limit ranking) (length (drop start (cut limit ranking))) count

-- so many of the members from a place were given, and their cost is known
pub record HasGiven (share : List ℕ → ℕ → ℕ) (limit : Option ℕ) (ranking : List (List ℕ)) (start given count place : ℕ) (old mid : CursorSet) (before at : ℕ) : Type 0 where
  pub rises : (s : List ℕ) (c d : ℕ) → c ≤ d → share s c ≤ share s d
  pub is : place ≡ start + given
  pub within : given ≤ length (drop start (cut limit ranking))
  pub spent : Spent share old mid (start + given) given before at

module _ {share : List ℕ → ℕ → ℕ} {limit : Option ℕ} {ranking : List (List ℕ)} {start given count place : ℕ} {old mid : CursorSet} {before at : ℕ}
    (h : HasGiven share limit ranking start given count place old mid before at) where
  among_next : given < count → given + calls_at limit place ≤ among limit ranking start count
  among_next few = omega (arith, next_among limit ranking start given count h.within few, ap (calls_at limit) h.is)

  -- no more members are asked for
  pub given_done : given ≤ count → Spent share old mid (start + among limit ranking start count) (among limit ranking start count) before at
  given_done few =
      let all = given_among (ends_by_itself limit ranking) (length (drop start (cut limit ranking))) given count h.within few in
      spent_wider share h.rises old mid (start + given) (start + among limit ranking start count) given (among limit ranking start count) before at
      (omega (arith, all)) all h.spent

  -- the call for the next one
  pub given_spent : (new : CursorSet) (now : ℕ) → given < count → Spent share mid new (place + calls_at limit place) (calls_at limit place) at now
      → Spent share old new (start + among limit ranking start count) (among limit ranking start count) before now
  given_spent new now few next =
      let all = among_next few in
      spent_then share h.rises old mid (start + given) (place + calls_at limit place) (start + among limit ranking start count) given (calls_at limit place)
      (among limit ranking start count) before at now h.spent
      (omega (arith, all)) (omega (arith, all, h.is)) all new next

  pub given_within : (now : ℕ) → given < count → KeepsSessionCost share mid (place + calls_at limit place) (calls_at limit place) at now
      → KeepsSessionCost share old (start + among limit ranking start count) (among limit ranking start count) before now
  given_within now few next =
      let all = among_next few in
      within_then share h.rises old mid (start + given) (place + calls_at limit place) (start + among limit ranking start count) given (calls_at limit place)
      (among limit ranking start count) before at now h.spent
      (omega (arith, all)) (omega (arith, all, h.is)) all next

  -- which gave one
  pub given_more : (new : CursorSet) (now : ℕ) → IfSome limit (λ n. place < n) → Spent share mid new (place + calls_at limit place) (calls_at limit place) at now
      → Spent share old new (start + (given + 1)) (given + 1) before now
  given_more new now below next =
      let one = calls_below limit place below in
      spent_then share h.rises old mid (start + given) (place + calls_at limit place) (start + (given + 1)) given (calls_at limit place) (given + 1) before at now h.spent
      (omega arith) (omega (arith, one, h.is)) (omega (arith, one)) new next

-- ---- one step of a script

-- the cost of `next`, by the cursor's own place
pub next_paid : (P : ℕ → ℕ → Type 0) (ends : Bool) (members : List (List ℕ)) (places : Places) (name : List ℕ) (place count : ℕ) → places name ≡ Some place
    → P (place + calls_among ends (length (drop place members)) count) (calls_among ends (length (drop place members)) count)
    → P (reach_of_step ends members places (Next name count)) (calls_of_step ends members places (Next name count))
next_paid P ends members places name place count at h =
    let B : ℕ → Type 0 = λ p. P (p + calls_among ends (length (drop p members)) count) (calls_among ends (length (drop p members)) count) in
    subst B (ap (λ (o : Option ℕ). unwrap_or o 0) (sym at)) h

-- ---- steps, one after another

-- this many steps were taken with this many calls, and their cost is within that of the whole script
pub record HasPaid (share : List ℕ → ℕ → ℕ) (ends : Bool) (members : List (List ℕ)) (script : List Step) (i : ℕ) (places : Places) (old now : CursorSet)
    (calls before spent : ℕ) : Type 0 where
  pub reach : ℕ
  pub paid : Spent share old now reach calls before spent
  pub far : max reach (reach_of_steps ends members places (drop i script)) ≤ reach_of_steps ends members no_cursors script
  pub many : calls + calls_of_steps ends members places (drop i script) ≤ calls_of_steps ends members no_cursors script

module _ (share : List ℕ → ℕ → ℕ) (rises : (s : List ℕ) (c d : ℕ) → c ≤ d → share s c ≤ share s d) (ends : Bool) (members : List (List ℕ)) (script : List Step) where
  pub paid_start : (set : CursorSet) (n : ℕ) → HasPaid share ends members script 0 no_cursors set set 0 n n
  paid_start set n = record {
    reach = 0;
    paid = spent_places share rises set set 0 0 n n refl (omega arith);
    far = omega arith;
    many = omega arith;
  }

  module _ (i : ℕ) (step : Step) (inside : i < length script) (here : get_or script i step ≡ step) (places : Places) (old mid : CursorSet)
      (calls before at now : ℕ) (h : HasPaid share ends members script i places old mid calls before at) where
    split : drop i script ≡ step ∷ drop (i + 1) script
    split = drop_more script i step inside ∙ ap (λ (s : Step). s ∷ drop (i + 1) script) here

    reach_split : reach_of_steps ends members places (drop i script)
        ≡ max (reach_of_step ends members places step) (reach_of_steps ends members (places_after members places step) (drop (i + 1) script))
    reach_split = ap (reach_of_steps ends members places) split

    calls_split : calls_of_steps ends members places (drop i script)
        ≡ calls_of_step ends members places step + calls_of_steps ends members (places_after members places step) (drop (i + 1) script)
    calls_split = ap (calls_of_steps ends members places) split

    pub paid_more : (new : CursorSet) → Spent share mid new (reach_of_step ends members places step) (calls_of_step ends members places step) at now
        → HasPaid share ends members script (i + 1) (places_after members places step) old new (calls + calls_of_step ends members places step) before now
    paid_more new spent =
        let far = h.far in
        let many = h.many in
        let one = reach_of_step ends members places step in
        let more = calls_of_step ends members places step in
        record {
          reach = max h.reach one;
          paid = spent_then share rises old mid h.reach one (max h.reach one) calls more (calls + more) before at now h.paid (omega arith) (omega arith) (omega arith) new spent;
          far = omega (arith, far, reach_split);
          many = omega (arith, many, calls_split);
        }

    -- the last of them was cut short
    pub paid_stopped : KeepsSessionCost share mid (reach_of_step ends members places step) (calls_of_step ends members places step) at now
        → KeepsSessionCost share old (reach_of_steps ends members no_cursors script) (calls_of_steps ends members no_cursors script) before now
    paid_stopped within =
        let far = h.far in
        within_then share rises old mid h.reach (reach_of_step ends members places step) (reach_of_steps ends members no_cursors script) calls
        (calls_of_step ends members places step) (calls_of_steps ends members no_cursors script) before at now h.paid
        (omega (arith, far)) (omega (arith, far, reach_split)) (omega (arith, h.many, calls_split)) within

  -- the cost is within that of the whole script
  pub paid_all : (i : ℕ) (places : Places) (old now : CursorSet) (calls before spent : ℕ) → HasPaid share ends members script i places old now calls before spent
      → KeepsSessionCost share old (reach_of_steps ends members no_cursors script) (calls_of_steps ends members no_cursors script) before spent
  paid_all i places old now calls before spent h =
      let far = h.far in
      let many = h.many in
      let reach = reach_of_steps ends members no_cursors script in
      let all = calls_of_steps ends members no_cursors script in
      within_spent share rises old now reach all before spent
      (spent_wider share rises old now h.reach reach calls all before spent (omega (arith, far)) (omega (arith, many)) h.paid)
