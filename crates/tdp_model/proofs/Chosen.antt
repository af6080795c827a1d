-- Lists that are chosen place by place.
use Rattle.std.proofs.Common.{◌≡◌, ℕ, zero, suc, ◌<◌, List, [], ◌∷◌, length, get_or, refl, ap, arith}

-- a list of numbers with a property at each place below n
pub record Chosen (n : ℕ) (P : ℕ → ℕ → Type 0) : Type 0 where
  pub list : List ℕ
  pub count : length list ≡ n
  pub each : (a : ℕ) → a < n → P a (get_or list a 0)

pub choose : (n : ℕ) (P : ℕ → ℕ → Type 0) → ((a : ℕ) → a < n → (x : ℕ) × P a x) → Chosen n P
choose zero P f = record { list = []; count = refl; each = λ a l. absurd (omega (arith, l)) }
choose (suc n) P f =
    let first = f 0 (omega arith) in
    let rest = choose n (λ a. P (suc a)) (λ a l. f (suc a) (omega (arith, l))) in
    record { list = first.0 ∷ rest.list; count = ap suc rest.count; each = pick first.0 first.1 rest.list rest.each }
  where
    pick : (x : ℕ) → P 0 x → (list : List ℕ) → ((a : ℕ) → a < n → P (suc a) (get_or list a 0))
        → (a : ℕ) → a < suc n → P a (get_or (x ∷ list) a 0)
    pick x p list rest zero l = p
    pick x p list rest (suc a) l = rest a (omega (arith, l))
