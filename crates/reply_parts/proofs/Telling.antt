-- What is told of texts that grow.
use Rattle.std.proofs.Common.{◌≡◌, ◌<◌, ◌+◌, ℕ, zero, suc, Bool, true, false, ◌&&◌, ◌==◌, List, [], ◌∷◌, ◌++◌, take, get_or, map, append-nil, Result, Ok, Err, Option, Some, None, option_map, refl, sym, ap, ◌∙◌, subst, nat_eq, arith, if◌then◌else◌}
use Rattle.std.specs.Io.KnownBytes.{Appends, Keeps, WriteAppends}
use Rattle.std.proofs.KnownBytes.{Appends-kept, Appends-nil, Appends-trans}
use Rattle.std.proofs.lemmas.Bool.Decides.{nat_tests}
use Rattle.std.proofs.lemmas.List.{map-append}
use Rattle.std.proofs.lemmas.Slice.Eq.{bytes_eq-Decides}
use Rattle.reply_parts.specs.History.{Place, Head, Body, Lost, start, after, items, greeting, behind_front, greeted, history}
use Rattle.reply_parts.specs.Known.{same_place, known_from, known_at, swap, seen, seen_items, seen_through, told, more_of, place_in}
use Rattle.reply_parts.specs.declared.mark.Mark.{Mark}
use Rattle.reply_parts.specs.declared.mark.Mark.TheVariants as mark
use Rattle.reply_parts.proofs.Reading.{after-append, items-append}
use Rattle.reply_parts.proofs.Sending.{Reads}

-- ---- places are told apart

both_true : (a b : Bool) → (a && b) ≡ true → (a ≡ true) × (b ≡ true)
both_true true b h = (refl, h)
both_true false b h = absurd (grind arith)

numbers_same : (m n : ℕ) → nat_eq m n ≡ true → m ≡ n
numbers_same m n h = grind (arith, nat_tests)

number_itself : (n : ℕ) → nat_eq n n ≡ true
number_itself n = grind (arith, nat_tests)

two_true : (a b : Bool) → a ≡ true → b ≡ true → (a && b) ≡ true
two_true a b p q = ap (λ x. x && b) p ∙ q

place_itself : (p : Place) → same_place p p ≡ true
place_itself (Head a) = (bytes_eq-Decides a a).1 refl
place_itself (Body more left) = two_true _ _ (number_itself more) (number_itself left)
place_itself Lost = refl

places_same : (p q : Place) → same_place p q ≡ true → p ≡ q
places_same (Head a) (Head b) h = ap Head ((bytes_eq-Decides a b).0 h)
places_same (Head a) (Body more left) h = absurd (grind arith)
places_same (Head a) Lost h = absurd (grind arith)
places_same (Body more left) (Head b) h = absurd (grind arith)
places_same (Body more left) (Body most rest) h =
    let both = both_true _ _ h in
    ap (λ n. Body n left) (numbers_same more most both.0) ∙ ap (Body most) (numbers_same left rest both.1)
places_same (Body more left) Lost h = absurd (grind arith)
places_same Lost (Head b) h = absurd (grind arith)
places_same Lost (Body more left) h = absurd (grind arith)
places_same Lost Lost h = refl

-- ---- the history where a reader comes to a place

pub known_there : (p : Place) (text : List ℕ) → after start text ≡ p → known_from p text ≡ Some (items start text)
known_there p text h =
    let e : same_place (after start text) p ≡ true = subst (λ q. same_place q p ≡ true) (sym h) (place_itself p) in
    rw e refl

from_grows : (b : Bool) (p q : Place) (text bytes : List ℕ) → same_place (after start text) p ≡ b → after p bytes ≡ q
    → Appends (if b then Some (items start text) else None) (known_from q (text ++ bytes)) (items p bytes)
from_grows false p q text bytes e h = tt
from_grows true p q text bytes e h =
    let at = places_same (after start text) p e in
    let there = known_there q (text ++ bytes) (after-append start text bytes ∙ ap (λ r. after r bytes) at ∙ h) in
    rw there (items-append start text bytes ∙ ap (λ r. items start text ++ items r bytes) at)

pub known_grows : (p q : Place) (old new : Option (List ℕ)) (bytes : List ℕ) → after p bytes ≡ q → Appends old new bytes → Appends (known_at p old) (known_at q new) (items p bytes)
known_grows p q None new bytes h a = tt
known_grows p q (Some text) None bytes h a = absurd a
known_grows p q (Some text) (Some now) bytes h a =
    subst (λ (l : List ℕ). Appends (known_from p text) (known_from q l) (items p bytes)) (sym a) (from_grows _ p q text bytes refl h)

-- ---- a text that is greeted

front_grows : (front text bytes : List ℕ) → Appends (behind_front front text) (behind_front front (text ++ bytes)) bytes
front_grows [] text bytes = refl
front_grows (b ∷ bs) [] bytes = tt
front_grows (b ∷ bs) (c ∷ text) bytes =
    elim (c == b) as (λ (v : Bool). Appends (if v then behind_front bs text else None) (if v then behind_front bs (text ++ bytes) else None) bytes)
    [ true ↦ front_grows bs text bytes | false ↦ tt ]

pub greeted_grows : (old new : Option (List ℕ)) (bytes : List ℕ) → Appends old new bytes → Appends (greeted old) (greeted new) bytes
greeted_grows None new bytes a = tt
greeted_grows (Some text) None bytes a = absurd a
greeted_grows (Some text) (Some now) bytes a = subst (λ (l : List ℕ). Appends (greeted (Some text)) (greeted (Some l)) bytes) (sym a) (front_grows greeting text bytes)

-- ---- as who writes sees it

seen_grows : (m : Mark) (old new : Option (List ℕ)) (given : List ℕ) → Appends old new given → Appends (seen m old) (seen m new) (seen_items m given)
seen_grows mark.Output old new given a = a
seen_grows mark.Errors None new given a = tt
seen_grows mark.Errors (Some xs) None given a = absurd a
seen_grows mark.Errors (Some xs) (Some ys) given a = ap (map swap) a ∙ map-append swap xs given

swap_back : (b : ℕ) → b < 256 → swap (b + 256) ≡ b
swap_back b h = grind (arith, nat_tests)

plus_none : (b : ℕ) → b + 0 ≡ b
plus_none b = omega arith

-- what is written counts as it is
written_seen : (m : Mark) (n : ℕ) (bytes : List ℕ) → ((k : ℕ) → get_or bytes k 0 < 256) → seen_items m (map (λ b. b + more_of m) (take n bytes)) ≡ take n bytes
written_seen mark.Output zero bytes small = refl
written_seen mark.Output (suc n) [] small = refl
written_seen mark.Output (suc n) (b ∷ bs) small = ap (λ l. (b + 0) ∷ l) (written_seen mark.Output n bs (λ k. small (suc k))) ∙ ap (λ x. x ∷ take n bs) (plus_none b)
written_seen mark.Errors zero bytes small = refl
written_seen mark.Errors (suc n) [] small = refl
written_seen mark.Errors (suc n) (b ∷ bs) small = (λ i. swap_back b (small 0) i ∷ written_seen mark.Errors n bs (λ k. small (suc k)) i)

-- what the sink below took of a part
pub seen_more : (m : Mark) (size sent now n : ℕ) (old new : Option (List ℕ)) (piece bytes : List ℕ) → Reads m size sent now piece (take n bytes)
    → ((k : ℕ) → get_or bytes k 0 < 256) → Appends old new piece → Appends (seen_through m size sent old) (seen_through m size now new) (take n bytes)
seen_more m size sent now n old new piece bytes reads small grown =
    let p = place_in m size sent in
    let q = place_in m size now in
    subst (Appends (seen_through m size sent old) (seen_through m size now new)) (ap (seen_items m) reads.gives ∙ written_seen m n bytes small)
    (seen_grows m _ _ _ (known_grows p q (greeted old) (greeted new) piece reads.place (greeted_grows old new piece grown)))

-- the same of a sink that is given by its parts
pub seen_now : (before : Option (List ℕ)) (m n : Mark) (size long sent at : ℕ) (low now : Option (List ℕ)) (given : List ℕ) → n ≡ m → long ≡ size → at ≡ sent → now ≡ low
    → Appends before (seen_through m size sent low) given → Appends before (seen_through n long at now) given
seen_now before m n size long sent at low now given same_mark same_size same_sent same_low a =
    subst (λ (x : Mark). Appends before (seen_through x long at now) given) (sym same_mark)
    (subst (λ (x : ℕ). Appends before (seen_through m x at now) given) (sym same_size)
    (subst (λ (x : ℕ). Appends before (seen_through m size x now) given) (sym same_sent)
    (subst (λ (x : Option (List ℕ)). Appends before (seen_through m size sent x) given) (sym same_low) a)))

keeps_none : (a b : Option (List ℕ)) → Appends a b [] → Keeps a b
keeps_none None b h = tt
keeps_none (Some xs) None h = absurd h
keeps_none (Some xs) (Some ys) h = h ∙ append-nil xs

pub kept_after : (a b c : Option (List ℕ)) → Appends a b [] → Keeps b c → Keeps a c
kept_after a b c same kept = keeps_none a c (Appends-kept a b c [] same kept)

-- a write after what told nothing
pub then_written : {E : Type 0} (a b c : Option (List ℕ)) (r : Result ℕ E) (bytes : List ℕ) → Appends a b [] → WriteAppends b c r bytes → WriteAppends a c r bytes
then_written a b c (Ok n) bytes same written = Appends-trans a b c [] (take n bytes) same written
then_written a b c (Err e) bytes same written = kept_after a b c same written

-- ---- what is told of a whole text, and of one that breaks off

-- where no part is begun
pub whole_seen : (m : Mark) (size sent : ℕ) (low : Option (List ℕ)) → sent ≡ 0 → seen_through m size sent low ≡ seen m (told low)
whole_seen m size sent low h = ap (λ n. seen_through m size n low) h

from_history : (b : Bool) (p : Place) (text bytes : List ℕ) → same_place (after start text) p ≡ b
    → Appends (if b then Some (items start text) else None) (Some (items start (text ++ bytes))) (items p bytes)
from_history false p text bytes e = tt
from_history true p text bytes e = items-append start text bytes ∙ ap (λ r. items start text ++ items r bytes) (places_same (after start text) p e)

-- the history, of whatever may follow
pub history_grows : (p : Place) (old new : Option (List ℕ)) (bytes : List ℕ) → Appends old new bytes → Appends (known_at p old) (option_map (items start) new) (items p bytes)
history_grows p None new bytes a = tt
history_grows p (Some text) None bytes a = absurd a
history_grows p (Some text) (Some now) bytes a =
    subst (λ (l : List ℕ). Appends (known_from p text) (Some (items start l)) (items p bytes)) (sym a) (from_history _ p text bytes refl)

seen_kept : (m : Mark) (a b : Option (List ℕ)) → Keeps a b → Keeps (seen m a) (seen m b)
seen_kept mark.Output a b h = h
seen_kept mark.Errors None b h = tt
seen_kept mark.Errors (Some xs) None h = absurd h
seen_kept mark.Errors (Some xs) (Some ys) h = ap (map swap) h

-- what a sink of parts tells is the history below it
pub seen_history : (m : Mark) (size sent : ℕ) (low : Option (List ℕ)) → Keeps (seen_through m size sent low) (seen m (history low))
seen_history m size sent low =
    let p = place_in m size sent in
    seen_kept m _ _ (keeps_none (known_at p (greeted low)) (history low) (history_grows p (greeted low) (greeted low) [] (Appends-nil (greeted low))))
