-- The limits on several queries.
use Rattle.std.proofs.Common.{◌≡◌, ◌≤◌, List, [], ◌∷◌, length, ltb, Bool, true, false, ◌||◌, inl, inr, refl, arith}
use Rattle.std.specs.List.{AllByRecursion, list_any}
use Rattle.std.proofs.lemmas.Bool.{ltb-true, ltb-false, lt-ltb, le-ltb}
use Rattle.query_select.specs.declared.select.Select.{Select}
use Rattle.query_parse.specs.Parse.{items_in, ExistsByRecursion, HasFewKeys, HasManyKeys}

-- whether some branch has too many order keys
abbrev pub have_many_keys : List Select → Bool
have_many_keys ss = list_any (λ (s : Select). ltb 8 (length s.keys)) ss

pub many_keys_there : (ss : List Select) → have_many_keys ss ≡ true → ExistsByRecursion HasManyKeys ss
many_keys_there [] e = absurd cc
many_keys_there (s ∷ ss) e = by_first (ltb 8 (length s.keys)) refl e (many_keys_there ss)
  where
    by_first : (b : Bool) → ltb 8 (length s.keys) ≡ b → (b || have_many_keys ss) ≡ true
        → (have_many_keys ss ≡ true → ExistsByRecursion HasManyKeys ss) → ExistsByRecursion HasManyKeys (s ∷ ss)
    by_first true is f later = inl (ltb-true _ _ is)
    by_first false is f later = inr (later f)

pub few_keys_each : (ss : List Select) → have_many_keys ss ≡ false → AllByRecursion HasFewKeys ss
few_keys_each [] e = tt
few_keys_each (s ∷ ss) e = by_first (ltb 8 (length s.keys)) refl e (few_keys_each ss)
  where
    by_first : (b : Bool) → ltb 8 (length s.keys) ≡ b → (b || have_many_keys ss) ≡ false
        → (have_many_keys ss ≡ false → AllByRecursion HasFewKeys ss) → AllByRecursion HasFewKeys (s ∷ ss)
    by_first true is f later = absurd cc
    by_first false is f later = (ltb-false _ _ is, later f)

pub many_keys_seen : (ss : List Select) → ExistsByRecursion HasManyKeys ss → have_many_keys ss ≡ true
many_keys_seen [] h = absurd h
many_keys_seen (s ∷ ss) (inl many) = let is : ltb 8 (length s.keys) ≡ true = lt-ltb _ _ many in rw is refl
many_keys_seen (s ∷ ss) (inr later) = or_true (ltb 8 (length s.keys)) (have_many_keys ss) (many_keys_seen ss later)
  where
    or_true : (a b : Bool) → b ≡ true → (a || b) ≡ true
    or_true true b e = refl
    or_true false b e = e

pub few_keys_seen : (ss : List Select) → AllByRecursion HasFewKeys ss → have_many_keys ss ≡ false
few_keys_seen [] h = refl
few_keys_seen (s ∷ ss) h = let is : ltb 8 (length s.keys) ≡ false = le-ltb _ _ h.0 in rw is (few_keys_seen ss h.1)

-- a branch within the limits on one query
abbrev pub IsFilled : Select → Type 0
IsFilled s = (1 ≤ length s.items) × ((length s.items ≤ 16) × (length s.keys ≤ 8))

pub each_filled : (ss : List Select) → AllByRecursion (λ (s : Select). 1 ≤ length s.items) ss
    → items_in ss ≤ 16 → AllByRecursion HasFewKeys ss → AllByRecursion IsFilled ss
each_filled [] some items keys = tt
each_filled (s ∷ ss) some items keys =
    let here : 1 ≤ length s.items = some.0 in
    let few : length s.keys ≤ 8 = keys.0 in
    ((here, (omega (arith, items), few)), each_filled ss some.1 (omega (arith, items)) keys.1)
