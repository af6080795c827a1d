-- Texts of members that are written one by one, with a call before each.
use Rattle.std.proofs.Common.{◌≡◌, ◌≤◌, ◌<◌, ◌+◌, ◌++◌, ℕ, List, length, map, take, drop, IfSome, Option, Some, None, refl, sym, ap, subst, ◌∙◌, arith, ◌⊎◌, append_assoc, take-append-drop, inl, inr}
use Rattle.std.proofs.lemmas.Bool.{cases_lt}
use Rattle.std.proofs.lemmas.List.{append_cancel_left, length-take-le, take-take, take_all}
use Rattle.std.proofs.Math.Seq.{drop-append_seam}
use Rattle.std.specs.List.{flat_map}
use Rattle.std.specs.Io.KnownBytes.{Appends}
use Rattle.std.proofs.KnownBytes.{Appends-trans}
use Rattle.anyk_model.specs.Output.{cut}
use Rattle.bound_query.specs.Steps.{whole_lines}
use Rattle.bound_query.proofs.Pacing.{whole_front}
use Rattle.anyk_model.specs.TaggedRows.{Tagged}
use Rattle.command_output.specs.UnionSteps.{UnionPaced}

-- the first k of a list are the first k within a limit of at least k
same_front : {A : Type 0} (list : List A) (limit : Option ℕ) (k : ℕ) → IfSome limit (λ n. k ≤ n)
    → take k (cut limit list) ≡ take k list
same_front list None k low = refl
same_front list (Some n) k low = take-take k n list low

long_enough : {A : Type 0} (list : List A) (limit : Option ℕ) (i : ℕ) → i ≤ length list → IfSome limit (λ n. i ≤ n)
    → i ≤ length (cut limit list)
long_enough list None i within low = within
long_enough list (Some n) i within low = long (cases_lt n (length list))
  where
    long : (n < length list) ⊎ (length list ≤ n) → i ≤ length (take n list)
    long (inl inside) = let h = length-take-le n list (omega (arith, inside)) in omega (arith, h, low)
    long (inr past) = let h = ap length (take_all n list past) in omega (arith, h, within)

-- a number below a limit
pub next_within : (limit : Option ℕ) (i : ℕ) → IfSome limit (λ n. i < n) → IfSome limit (λ n. i + 1 ≤ n)
next_within None i low = tt
next_within (Some n) i low = omega (arith, low)

told : (start part : List ℕ) (old new : Option (List ℕ)) → old ≡ Some start → new ≡ Some (start ++ part)
    → (bytes : List ℕ) → Appends old new bytes
    → part ≡ bytes
told start part old new is_old is_new bytes all =
    let given : Appends (Some start) (Some (start ++ part)) bytes =
    subst (λ (o : Option (List ℕ)). Appends (Some start) o bytes) is_new
    (subst (λ (o : Option (List ℕ)). Appends o new bytes) is_old all) in
    append_cancel_left start part bytes given

module _ (most : List Tagged → ℕ) (rises : (xs ys : List Tagged) → most xs ≤ most (xs ++ ys)) (list : List Tagged)
  where
    -- fewer members take no more steps
    most_front : (i k : ℕ) → i ≤ k → most (take i list) ≤ most (take k list)
    most_front i k h = subst (λ (xs : List Tagged). most xs ≤ most (take k list)) (take-take i k list h)
        (subst (λ (xs : List Tagged). most (take i (take k list)) ≤ most xs) (take-append-drop i (take k list))
        (rises (take i (take k list)) (drop i (take k list))))

    most_whole : (k : ℕ) → most (take k list) ≤ most list
    most_whole k = subst (λ (xs : List Tagged). most (take k list) ≤ most xs) (take-append-drop k list)
        (rises (take k list) (drop k list))

module _ (f : Tagged → List ℕ) (list : List Tagged) (limit : Option ℕ) (i : ℕ) (within : i ≤ length list)
    (low : IfSome limit (λ n. i ≤ n)) where
  -- if the first i texts were written, and nothing or a part of the next one, after the calls for k members, where
  -- k is i or i + 1
  pub paced : (most : List Tagged → ℕ) → ((xs ys : List Tagged) → most xs ≤ most (xs ++ ys)) → (k before now : ℕ)
      → k ≤ i + 1 → IfSome limit (λ n. k ≤ n)
      → now ≤ before + most (take k list) → (old mid new : Option (List ℕ)) (extra : List ℕ)
      → Appends old mid (flat_map f (take i list)) → Appends mid new extra
      → UnionPaced most f (cut limit list) old new before now
  paced most rises k before now few reach spent old mid new extra first next = record {
    bounded = let more = most_whole most rises (cut limit list) k in omega (arith, taken, more);
    prompt = λ start part is_old is_new.
        let same : part ≡ flat_map f (take i list) ++ extra =
        told start part old new is_old is_new (flat_map f (take i list) ++ extra)
        (Appends-trans old mid new (flat_map f (take i list)) extra first next) in
        let front : flat_map f (take i (cut limit list)) ++ extra ≡ part =
        ap (λ (xs : List Tagged). flat_map f xs ++ extra) (same_front list limit i low) ∙ sym same in
        let whole : i ≤ whole_lines (map f (cut limit list)) part =
        subst (λ (t : List ℕ). i ≤ whole_lines (map f (cut limit list)) t) front
        (whole_front f (cut limit list) i extra (long_enough list limit i within low)) in
        let more = most_front most rises (cut limit list) k (whole_lines (map f (cut limit list)) part + 1)
        (omega (arith, few, whole)) in
        omega (arith, taken, more);
  }
    where
      taken : now ≤ before + most (take k (cut limit list))
      taken = subst (λ (xs : List Tagged). now ≤ before + most xs) (sym (same_front list limit k reach)) spent

-- a text before them that was written whole, and calls only after it
pub paced_after : (most : List Tagged → ℕ) (f : Tagged → List ℕ) (members : List Tagged)
    (old mid new : Option (List ℕ)) (before now : ℕ) (head rest : List ℕ)
    → Appends old mid head → Appends mid new rest → UnionPaced most f members mid new before now
    → (start part : List ℕ) → old ≡ Some start → new ≡ Some (start ++ part)
    → now ≤ before + most (take (whole_lines (map f members) (drop (length head) part) + 1) members)
paced_after most f members old mid new before now head rest first next paced start part is_old is_new =
    by mid (subst (λ (o : Option (List ℕ)). Appends o mid head) is_old first)
    (subst (λ (o : Option (List ℕ)). Appends mid o rest) is_new next)
    (λ begin more is same. paced.prompt begin more is (is_new ∙ ap Some same))
  where
    by : (mid : Option (List ℕ)) → Appends (Some start) mid head → Appends mid (Some (start ++ part)) rest
        → ((begin more : List ℕ) → mid ≡ Some begin → start ++ part ≡ begin ++ more
        → now ≤ before + most (take (whole_lines (map f members) more + 1) members))
        → now ≤ before + most (take (whole_lines (map f members) (drop (length head) part) + 1) members)
    by None first next prompt = absurd first
    by (Some begin) first next prompt =
        let same : part ≡ head ++ rest = append_cancel_left start part (head ++ rest)
        (next ∙ ap (λ t. t ++ rest) first ∙ append_assoc start head rest) in
        let left : drop (length head) part ≡ rest = ap (drop (length head)) same ∙ drop-append_seam head rest in
        subst (λ (t : List ℕ). now ≤ before + most (take (whole_lines (map f members) t + 1) members)) (sym left)
        (prompt begin rest refl next)
