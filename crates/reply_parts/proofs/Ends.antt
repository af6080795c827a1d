-- The greeting and the ends of replies as they are told.
use Rattle.std.proofs.Common.{◌≡◌, ◌<◌, ◌+◌, ℕ, List, [], ◌∷◌, length, take, Option, Some, None, Result, Ok, Err, IfErr, OnErr, OnOk, ap, ◌∙◌, subst, arith, length-take-le}
use Rattle.std.specs.Io.KnownBytes.{Appends}
use Rattle.outer_io.specs.declared.writing.Unwritten.{Unwritten}
use Rattle.reply_parts.specs.Heads.{end_word, head_of}
use Rattle.reply_parts.specs.History.{start, after, items, greeting, greeted, history}
use Rattle.reply_parts.specs.Known.{told}
use Rattle.reply_parts.proofs.Digits.{after_written_end, items_written_end}
use Rattle.reply_parts.proofs.Reading.{items_in_head}
use Rattle.reply_parts.proofs.Telling.{greeted_grows, history_grows, known_grows}

first_text : (new : Option (List ℕ)) → Appends (Some []) new greeting → told new ≡ Some []
first_text None a = absurd a
first_text (Some now) a = ap (λ (l : List ℕ). told (Some l)) a

-- the greeting begins a text
pub greeted_first : (r : Result (Unit {0}) Unwritten) (old new : Option (List ℕ)) → OnOk r (Appends old new greeting) → OnOk r (old ≡ Some [] → told new ≡ Some [])
greeted_first (Ok done) old new a = λ e. first_text new (subst (λ (o : Option (List ℕ)). Appends o new greeting) e a)
greeted_first (Err e) old new a = tt

-- a whole end
pub ended : (r : Result (Unit {0}) Unwritten) (old new : Option (List ℕ)) (head : List ℕ) (status : ℕ) → status < 100000000 → head ≡ head_of end_word status
    → OnOk r (Appends old new head) → OnOk r (Appends (told old) (told new) ((512 + status) ∷ []))
ended (Ok done) old new head status small is a =
    subst (Appends (told old) (told new)) (ap (items start) is ∙ items_written_end status small)
    (known_grows start start (greeted old) (greeted new) head (ap (after start) is ∙ after_written_end status) (greeted_grows old new head a))
ended (Err e) old new head status small is a = tt

nothing_of : (n : ℕ) (head : List ℕ) → length head ≡ 13 → n < length head → items start (take n head) ≡ []
nothing_of n head long h = items_in_head [] (take n head) (omega (arith, length-take-le n head (omega (arith, h)), long, h))

-- an end that broke off tells nothing
pub end_broke : (r : Result (Unit {0}) Unwritten) (old new : Option (List ℕ)) (head : List ℕ) → length head ≡ 13
    → IfErr r (λ e. Appends old new (take e.taken head)) → IfErr r (λ e. e.taken < length head) → OnErr r (Appends (told old) (history new) [])
end_broke (Ok done) old new head long part within = tt
end_broke (Err e) old new head long part within =
    subst (Appends (told old) (history new)) (nothing_of e.taken head long within)
    (history_grows start (greeted old) (greeted new) (take e.taken head) (greeted_grows old new (take e.taken head) part))
