-- Texts that are written one by one, with a call before each.
use Rattle.std.proofs.Common.{◌≡◌, ◌≤◌, ◌<◌, ◌+◌, ◌-◌, ◌*◌, ◌∷◌, ◌++◌, [], ℕ, zero, suc, nat_le, true, false, if◌then◌else◌, Bool, List, length, map, take, drop, IfSome, Option, Some, None, refl, sym, ap, subst, ◌∙◌, arith, ◌⊎◌, append_assoc, inl, inr}
use Rattle.std.proofs.lemmas.Bool.{cases_lt, le-leb, leb-false, leb-true}
use Rattle.std.proofs.lemmas.List.{append_cancel_left, length-append, length-take-le, take-take, take_all}
use Rattle.std.proofs.lemmas.Nat.{mul-le}
use Rattle.std.proofs.Math.Seq.{drop-append_seam}
use Rattle.std.specs.List.{flat_map}
use Rattle.std.specs.Io.KnownBytes.{Appends}
use Rattle.std.proofs.KnownBytes.{Appends-trans}
use Rattle.anyk_model.specs.Output.{cut}
use Rattle.bound_query.specs.Steps.{Paced, calls_for, steps_for, whole_lines}

-- ---- steps of calls

module _ (share : ℕ → ℕ) (rises : (c d : ℕ) → c ≤ d → share c ≤ share d) where
  pub steps_more : (m n : ℕ) → m ≤ n → steps_for share m ≤ steps_for share n
  steps_more m n h = mul-le m (share (m - 1)) n (share (n - 1)) h (rises (m - 1) (n - 1) (omega (arith, h)))

  -- one call more
  pub steps_next : (i before now later : ℕ) → now ≤ before + steps_for share i → later ≤ now + share i → later ≤ before + steps_for share (i + 1)
  steps_next i before now later so_far one =
      let low : i * share (i - 1) ≤ i * share i = mul-le i (share (i - 1)) i (share i) (omega arith) (rises (i - 1) i (omega arith)) in
      let same : share (i + 1 - 1) ≡ share i = ap share (omega arith) in
      let whole : steps_for share (i + 1) ≡ (i + 1) * share i = ap (λ s. (i + 1) * s) same in
      omega (arith, so_far, one, low, whole)

-- ---- how many calls

pub calls_same : {A : Type 0} (limit : Option ℕ) (list : List A) (i : ℕ) → i ≤ length list → IfSome limit (λ n. i ≤ n) → i ≤ calls_for limit list
calls_same None list i within low = omega (arith, within)
calls_same (Some n) list i within low = by (cases_lt n (length list))
  where
    by : (n < length list) ⊎ (length list ≤ n) → i ≤ length (take n list) + (if nat_le n (length list) then 0 else 1)
    by (inl inside) = let long = length-take-le n list (omega (arith, inside)) in omega (arith, long, low)
    by (inr past) = let long = ap length (take_all n list past) in omega (arith, long, within)

pub calls_more : {A : Type 0} (limit : Option ℕ) (list : List A) (i : ℕ) → i ≤ length list → IfSome limit (λ n. i < n) → i + 1 ≤ calls_for limit list
calls_more None list i within low = omega (arith, within)
calls_more (Some n) list i within low = by (nat_le n (length list)) refl
  where
    by : (b : Bool) → nat_le n (length list) ≡ b → i + 1 ≤ length (take n list) + (if b then 0 else 1)
    by true e = let long = length-take-le n list (leb-true n (length list) e) in omega (arith, long, low)
    by false e = let long = ap length (take_all n list (let past = leb-false n (length list) e in omega (arith, past))) in omega (arith, long, within)

-- ---- texts at the front of a text

whole_one : (line : List ℕ) (lines : List (List ℕ)) (part rest : List ℕ) (n : ℕ) → part ≡ line ++ rest → n ≤ whole_lines lines rest
    → suc n ≤ whole_lines (line ∷ lines) part
unfolding whole_lines
whole_one line lines part rest n is h =
    let long = ap length is ∙ length-append line rest in
    let fits : nat_le (length line) (length part) ≡ true = le-leb (length line) (length part) (omega (arith, long)) in
    let left : drop (length line) part ≡ rest = ap (drop (length line)) is ∙ drop-append_seam line rest in
    rw (fits, left) (omega (arith, h))

-- a text that begins with the texts of n members has that many whole texts
pub whole_front : {A : Type 0} (f : A → List ℕ) (xs : List A) (n : ℕ) (extra : List ℕ) → n ≤ length xs
    → n ≤ whole_lines (map f xs) (flat_map f (take n xs) ++ extra)
whole_front f xs zero extra within = omega arith
whole_front f [] (suc n) extra within = omega (arith, within)
whole_front f (x ∷ xs) (suc n) extra within =
    whole_one (f x) (map f xs) ((f x ++ flat_map f (take n xs)) ++ extra) (flat_map f (take n xs) ++ extra) n (append_assoc (f x) (flat_map f (take n xs)) extra)
    (whole_front f xs n extra (omega (arith, within)))

-- ---- the two together

module _ {A : Type 0} (f : A → List ℕ) (list : List A) (limit : Option ℕ) (i : ℕ) (within : i ≤ length list) (low : IfSome limit (λ n. i ≤ n)) where
  -- the first members are among those within the limit
  among : (take i (cut limit list) ≡ take i list) × (i ≤ length (cut limit list))
  among = by limit low
    where
      by : (limit : Option ℕ) → IfSome limit (λ n. i ≤ n) → (take i (cut limit list) ≡ take i list) × (i ≤ length (cut limit list))
      by None low = (refl, within)
      by (Some n) low = (take-take i n list low, long (cases_lt n (length list)))
        where
          long : (n < length list) ⊎ (length list ≤ n) → i ≤ length (take n list)
          long (inl inside) = let h = length-take-le n list (omega (arith, inside)) in omega (arith, h, low)
          long (inr past) = let h = ap length (take_all n list past) in omega (arith, h, within)

  -- if the first i texts were written, and nothing or a part of the next one, after i or i + 1
  -- calls
  pub paced : (share : ℕ → ℕ) → ((c d : ℕ) → c ≤ d → share c ≤ share d) → (k before now : ℕ) → k ≤ i + 1 → k ≤ calls_for limit list
      → now ≤ before + steps_for share k → (old mid new : Option (List ℕ)) (extra : List ℕ) → Appends old mid (flat_map f (take i list)) → Appends mid new extra
      → Paced share (map f (cut limit list)) (calls_for limit list) old new before now
  paced share rises k before now few most spent old mid new extra first next = record {
    bounded = let more = steps_more share rises k (calls_for limit list) most in omega (arith, spent, more);
    prompt = λ start part is_old is_new.
        let all : Appends old new (flat_map f (take i list) ++ extra) = Appends-trans old mid new (flat_map f (take i list)) extra first next in
        let told : start ++ part ≡ start ++ (flat_map f (take i list) ++ extra) = tell start part old new is_old is_new (flat_map f (take i list) ++ extra) all in
        let same : part ≡ flat_map f (take i list) ++ extra = append_cancel_left start part (flat_map f (take i list) ++ extra) told in
        let front : flat_map f (take i (cut limit list)) ++ extra ≡ part = ap (λ xs. flat_map f xs ++ extra) among.0 ∙ sym same in
        let whole : i ≤ whole_lines (map f (cut limit list)) part =
        subst (λ (t : List ℕ). i ≤ whole_lines (map f (cut limit list)) t) front (whole_front f (cut limit list) i extra among.1) in
        let more = steps_more share rises k (whole_lines (map f (cut limit list)) part + 1) (omega (arith, few, whole)) in
        omega (arith, spent, more);
  }
    where
      tell : (start part : List ℕ) (old new : Option (List ℕ)) → old ≡ Some start → new ≡ Some (start ++ part) → (bytes : List ℕ) → Appends old new bytes
          → start ++ part ≡ start ++ bytes
      tell start part old new is_old is_new bytes all =
          let given : Appends (Some start) (Some (start ++ part)) bytes =
          subst (λ (o : Option (List ℕ)). Appends (Some start) o bytes) is_new (subst (λ (o : Option (List ℕ)). Appends o new bytes) is_old all) in
          given

-- a text before them that was written whole, and calls only after it
pub paced_after : (share : ℕ → ℕ) (lines : List (List ℕ)) (most : ℕ) (old mid new : Option (List ℕ)) (before now : ℕ) (head rest : List ℕ) → Appends old mid head
    → Appends mid new rest → Paced share lines most mid new before now → (start part : List ℕ) → old ≡ Some start → new ≡ Some (start ++ part)
    → now ≤ before + steps_for share (whole_lines lines (drop (length head) part) + 1)
paced_after share lines most old mid new before now head rest first next paced start part is_old is_new =
    by mid (subst (λ (o : Option (List ℕ)). Appends o mid head) is_old first) (subst (λ (o : Option (List ℕ)). Appends mid o rest) is_new next)
    (λ begin more is same. paced.prompt begin more is (is_new ∙ ap Some same))
  where
    by : (mid : Option (List ℕ)) → Appends (Some start) mid head → Appends mid (Some (start ++ part)) rest
        → ((begin more : List ℕ) → mid ≡ Some begin → start ++ part ≡ begin ++ more → now ≤ before + steps_for share (whole_lines lines more + 1))
        → now ≤ before + steps_for share (whole_lines lines (drop (length head) part) + 1)
    by None first next prompt = absurd first
    by (Some begin) first next prompt =
        let same : part ≡ head ++ rest = append_cancel_left start part (head ++ rest) (next ∙ ap (λ t. t ++ rest) first ∙ append_assoc start head rest) in
        let left : drop (length head) part ≡ rest = ap (drop (length head)) same ∙ drop-append_seam head rest in
        subst (λ (t : List ℕ). now ≤ before + steps_for share (whole_lines lines t + 1)) (sym left) (prompt begin rest refl next)
