-- Stages, one after another: each one finds something, or refuses.
use Rattle.std.specs.Prelude.{◌≡◌, Result, Ok, Err}
use Rattle.refusals.specs.Reason.{Reason}

-- what the second stage finds after the first, or the first refusal
pub data Then {A B : Type 0} (First : Result A Reason → Type 0)
    (Second : A → Result B Reason → Type 0) : Result B Reason → Type 0 where
  refused : {reason : Reason} → First (Err reason) → Then First Second (Err reason)
  followed : {a : A} {result : Result B Reason} → First (Ok a) → Second a result
      → Then First Second result

-- a stage that computes its result
abbrev pub Is : {A : Type 0} → Result A Reason → Result A Reason → Type 0
Is computed result = result ≡ computed

-- the same for stages that compute, one after another
abbrev pub then_by : {A B : Type 0} → Result A Reason → (A → Result B Reason) → Result B Reason
then_by (Ok a) go = go a
then_by (Err reason) go = Err reason

-- at most one value has P
abbrev pub AtMostOne : {A : Type 0} → (A → Type 0) → Type 0
AtMostOne {A} P = (x y : A) → P x → P y → x ≡ y
