-- The limits of loops that ask for one answer after another.
use Rattle.std.proofs.Common.{◌≡◌, ◌≤◌, ◌<◌, ℕ, Option, Some, None, IfSome, unwrap_or, is_some, true, false, subst, sym, ◌∙◌, ap, arith}
use Rattle.bound_query.proofs.Calls.{limit_below, limit_reached}

-- a number below the limit, as it was read
pub below_limit : (read limit : Option ℕ) (i most greatest : ℕ) → read ≡ limit → most ≡ unwrap_or read greatest → i < most → IfSome limit (λ n. i < n)
below_limit read limit i most greatest same is below = subst (λ (o : Option ℕ). IfSome o (λ n. i < n)) same (limit_below read i most greatest is below)

pub told_below : (read limit : Option ℕ) (i : ℕ) → read ≡ limit → IfSome read (λ n. i < n) → IfSome limit (λ n. i < n)
told_below read limit i same h = subst (λ (o : Option ℕ). IfSome o (λ n. i < n)) same h

pub below_within : (limit : Option ℕ) (i : ℕ) → IfSome limit (λ n. i < n) → IfSome limit (λ n. i ≤ n)
below_within None i below = tt
below_within (Some n) i below = omega (arith, below)

-- the limit that a loop met
pub reached_limit : (read again limit : Option ℕ) (i most greatest : ℕ) → read ≡ limit → again ≡ limit → most ≡ unwrap_or read greatest → is_some again ≡ true → most ≤ i → i ≤ most
    → limit ≡ Some i
reached_limit read again limit i most greatest same also is some end within =
    sym same ∙ limit_reached read i most greatest is (ap is_some (same ∙ sym also) ∙ some) end within

pub reached_within : (limit : Option ℕ) (i : ℕ) → limit ≡ Some i → IfSome limit (λ n. i ≤ n)
reached_within limit i is = subst (λ (o : Option ℕ). IfSome o (λ n. i ≤ n)) (sym is) (omega arith)

-- there is none
pub none_within : (read limit : Option ℕ) (i : ℕ) → read ≡ limit → is_some read ≡ false → IfSome limit (λ n. i ≤ n)
none_within read limit i same none = subst (λ (o : Option ℕ). IfSome o (λ n. i ≤ n)) same (by read none)
  where
    by : (read : Option ℕ) → is_some read ≡ false → IfSome read (λ n. i ≤ n)
    by None none = tt
    by (Some n) none = cc
