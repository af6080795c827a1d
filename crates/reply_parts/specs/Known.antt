-- What a sink of parts tells of the text of the sink below it.
use Rattle.std.specs.Prelude.{ℕ, ◌+◌, ◌-◌, nat_eq, nat_lt, List, take, map, Bool, true, false, ◌&&◌, Option, Some, None, option_map, if◌then◌else◌}
use Rattle.std.specs.Str.{bytes_eq}
use Rattle.reply_parts.specs.Heads.{head_of, word_of}
use Rattle.reply_parts.specs.History.{Place, Head, Body, Lost, start, body, after, items, greeted}
use Rattle.reply_parts.specs.declared.mark.Mark.{Mark}
use Rattle.reply_parts.specs.declared.mark.Mark.TheVariants as mark

abbrev pub same_place : Place → Place → Bool
same_place (Head a) (Head b) = bytes_eq a b
same_place (Body more left) (Body most rest) = nat_eq more most && nat_eq left rest
same_place Lost Lost = true
same_place p q = false

-- the history of what follows a greeting, if a reader of it comes to this place
abbrev pub known_from : Place → List ℕ → Option (List ℕ)
known_from place text = if same_place (after start text) place then Some (items start text) else
    None

-- the history of a text, if it is known and a reader of it comes to this place
abbrev pub known_at : Place → Option (List ℕ) → Option (List ℕ)
known_at place None = None
known_at place (Some text) = known_from place text

-- the history of a text of whole parts after a greeting
abbrev pub told : Option (List ℕ) → Option (List ℕ)
told text = known_at start (greeted text)

-- `out` and `err` with their roles exchanged
abbrev pub swap : ℕ → ℕ
swap n = if nat_lt n 256 then n + 256 else (if nat_lt n 512 then n - 256 else n)

-- the mark of the stream of this number
abbrev pub mark_of : ℕ → Mark
mark_of stream = if nat_eq stream 2 then mark.Errors else mark.Output

-- a history as who writes parts with this mark sees it: what it writes counts as it is
abbrev pub seen_items : Mark → List ℕ → List ℕ
seen_items mark.Output items = items
seen_items mark.Errors items = map swap items

abbrev pub seen : Mark → Option (List ℕ) → Option (List ℕ)
seen mark.Output items = items
seen mark.Errors items = option_map (map swap) items

-- how much more a byte of such a part counts
abbrev pub more_of : Mark → ℕ
more_of mark.Output = 0
more_of mark.Errors = 256

-- where a reader is after so many of the bytes of such a part and its head
abbrev pub place_in : Mark → ℕ → ℕ → Place
place_in m size sent = if nat_lt sent 13 then Head (take sent (head_of (word_of m) size)) else body
    (more_of m) (size + 13 - sent)

-- so many of the bytes of a part and its head are sent, or none if that is all
abbrev pub sent_after : ℕ → ℕ → ℕ
sent_after size sent = if nat_lt sent (13 + size) then sent else 0

-- what is seen of a text below, of which so much of a part is sent
abbrev pub seen_through : Mark → ℕ → ℕ → Option (List ℕ) → Option (List ℕ)
seen_through m size sent text = seen m (known_at (place_in m size sent) (greeted text))
