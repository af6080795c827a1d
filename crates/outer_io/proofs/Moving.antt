-- Bytes that were moved in two calls, one after the other.
use Rattle.std.proofs.Common.{min, length-drop, ◌≡◌, ℕ, ◌+◌, ◌≤◌, ◌<◌, List, [], ◌++◌, Option, None, Some, IfSome, OnErr, refl, sym, ap, ◌∙◌, subst, take, drop, length, arith, length-take-le, length-append, drop_at, Result, Ok, Err, IfOk}
use Rattle.std.specs.Option.{IsSome}
use Rattle.std.specs.Io.{ReadsAtMost}
use Rattle.std.specs.Io.KnownBytes.{Appends, Consumes, IsAtEnd, Keeps, ReadConsumes}
use Rattle.std.proofs.KnownBytes.{Appends-trans, Consumes-trans, Consumes-all}
use Rattle.std.proofs.lemmas.List.{drop_all, take-append-drop}
use Rattle.outer_io.specs.Files.{Files, HasFile}
use lib.Seq.{take-add, take-append-le, take_at}

-- the first n bytes were written, and then the first k of the others
pub Appends-more : (a b c : Option (List ℕ)) (n k : ℕ) (bytes rest : List ℕ) → Appends a b (take n bytes) → Appends b c (take k rest) → rest ≡ drop n bytes
    → Appends a c (take (n + k) bytes)
Appends-more a b c n k bytes rest p q e =
    subst (Appends a c) (ap (λ l. take n bytes ++ take k l) e ∙ sym (take-add n k bytes)) (Appends-trans a b c _ _ p q)

-- the call after it wrote none
pub Appends-kept : (a b c : Option (List ℕ)) (bytes : List ℕ) → Appends a b bytes → Keeps b c → Appends a c bytes
Appends-kept None b c bytes p q = tt
Appends-kept (Some xs) None c bytes p q = absurd p
Appends-kept (Some xs) (Some ys) None bytes p q = absurd q
Appends-kept (Some xs) (Some ys) (Some zs) bytes p q = q ∙ p

-- the first n bytes were read, and then k more after them
pub Consumes-more : (a b c : Option (List ℕ)) (n k : ℕ) (old new : List ℕ) → take n new ≡ take n old → Consumes a b (take n old) → Consumes b c (take k (drop n new))
    → Consumes a c (take (n + k) new)
Consumes-more a b c n k old new same p q =
    subst (Consumes a c) (ap (λ l. l ++ take k (drop n new)) (sym same) ∙ sym (take-add n k new)) (Consumes-trans a b c _ _ p q)

-- what was read is all that there was
pub Consumes-whole : (a b : Option (List ℕ)) (bytes all : List ℕ) → Consumes a b bytes → IsAtEnd b → all ≡ bytes → IfSome a (λ xs. all ≡ xs)
Consumes-whole a b bytes all p end e = Consumes-all a b bytes [] all p end e

-- what was read is no longer than what there was
pub Consumes-long : (a b : Option (List ℕ)) (n limit : ℕ) (bytes : List ℕ) → Consumes a b (take n bytes) → n ≤ length bytes → limit < n → IfSome a (λ xs. limit < length xs)
Consumes-long None b n limit bytes p fits more = tt
Consumes-long (Some xs) None n limit bytes p fits more = absurd p
Consumes-long (Some xs) (Some ys) n limit bytes p fits more =
    let long = ap length p ∙ length-append (take n bytes) ys in
    let front = length-take-le n bytes fits in
    omega (arith, long, front, more)

-- what was read into the part stands after the front
pub Consumes-in_place : {E : Type 0} (a b : Option (List ℕ)) (r : Result ℕ E) (front part rest : List ℕ) (at : ℕ) → length front ≡ at → ReadsAtMost r part
    → IfOk r (λ n. Consumes a b (take n part)) → IfOk r (λ n. Consumes a b (take n (drop at (front ++ (part ++ rest)))))
Consumes-in_place a b (Ok n) front part rest at long fits read =
    subst (Consumes a b) (sym (ap (take n) (drop_at front (part ++ rest) at long) ∙ take-append-le n part rest fits.0)) read
Consumes-in_place a b (Err e) front part rest at long fits read = tt

-- n bytes were moved to the front of a buffer
pub moved_front : (rest now left buf moved : List ℕ) (n : ℕ) → now ≡ rest → n ≡ min (length buf) (length rest) → moved ≡ take n rest ++ drop n buf → left ≡ drop n rest
    → (now ≡ take n moved ++ left) × (n ≡ 0 → 0 < length moved → left ≡ [])
moved_front rest now left buf moved n same count is after =
    let front : length (take n rest) ≡ n = length-take-le n rest (omega (arith, count)) in
    let size : length moved ≡ length buf = omega (arith, ap length is, length-append (take n rest) (drop n buf), front, length-drop n buf, count) in (
      same ∙ sym (take-append-drop n rest) ∙ (λ j. sym (ap (take n) is ∙ take_at (take n rest) (drop n buf) n front) j ++ sym after j),
      λ none some. after ∙ drop_all n rest (omega (arith, count, size, none, some)),
    )

-- # Bytes that are known stay known

-- after a read
pub Consumes-told : (a b : Option (List ℕ)) (bytes : List ℕ) → Consumes a b bytes → IfSome a (λ _. IsSome b)
Consumes-told None b bytes p = tt
Consumes-told (Some xs) None bytes p = absurd p
Consumes-told (Some xs) (Some ys) bytes p = refl

-- after a call that moved none
pub Keeps-told : (a b : Option (List ℕ)) → Keeps a b → IfSome a (λ _. IsSome b)
Keeps-told None b p = tt
Keeps-told (Some xs) None p = absurd p
Keeps-told (Some xs) (Some ys) p = refl

-- without a call
pub same-told : (a : Option (List ℕ)) → IfSome a (λ _. IsSome a)
same-told None = tt
same-told (Some xs) = refl

-- after a call of `read`
pub ReadConsumes-told : {E : Type 0} (a b : Option (List ℕ)) (r : Result ℕ E) (bytes : List ℕ) → ReadConsumes a b r bytes → IfSome a (λ _. IsSome b)
ReadConsumes-told a b (Ok n) bytes p = Consumes-told a b (take n bytes) p.0
ReadConsumes-told a b (Err e) bytes p = Keeps-told a b p

-- after two calls
pub told-trans : {X : Type 0} (a : Option X) (b c : Option (List ℕ)) → IfSome a (λ _. IsSome b) → IfSome b (λ _. IsSome c) → IfSome a (λ _. IsSome c)
told-trans None b c p q = tt
told-trans (Some x) None c p q = cc
told-trans (Some x) (Some ys) c p q = q

-- after a file was opened
pub opened-told : (files : Option Files) (name : List ℕ) (rest : Option (List ℕ)) → HasFile files name rest → IfSome files (λ _. IsSome rest)
opened-told None name rest has = tt
opened-told (Some all) name rest has = has.1

-- after none was opened
pub closed-told : {T E : Type 0} (r : Result T E) (e : E) (files : Option Files) (rest : Option (List ℕ)) → r ≡ Err e → OnErr r (IfSome files (λ _. rest ≡ Some []))
    → IfSome files (λ _. IsSome rest)
closed-told (Ok x) e files rest is closed = absurd cc
closed-told (Err x) e None rest is closed = tt
closed-told (Err x) e (Some all) rest is closed = rw closed refl
