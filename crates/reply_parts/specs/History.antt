-- What the text of a service's output gives: its history.
use Rattle.std.specs.Prelude.{ℕ, zero, suc, ◌+◌, ◌==◌, nat_lt, List, [], ◌∷◌, ◌++◌, codes, length, Option, Some, None, option_map, if◌then◌else◌}
use Rattle.reply_parts.specs.Heads.{out_word, err_word, end_word, has_word, number_in}

-- where a reader of the text has come, after the greeting
pub data Place : Type 0 where
  -- in a head, of which these bytes came, and at first none
  Head : List ℕ → Place
  -- In the bytes of a part, each of which counts as so much more. So many follow after the next.
  Body : ℕ → ℕ → Place
  -- after what should be a head and is none
  Lost : Place

-- before a part
abbrev pub start : Place
start = Head []

-- before so many bytes of a part, each of which counts as so much more
abbrev pub body : ℕ → ℕ → Place
body more zero = start
body more (suc left) = Body more left

-- behind a head
abbrev pub behind : List ℕ → Place
behind head =
    if has_word out_word head then body 0 (number_in head)
    else (if has_word err_word head then body 256 (number_in head)
    else (if has_word end_word head then start else Lost))

-- what a head gives
abbrev pub given_by : List ℕ → List ℕ
given_by head = if has_word end_word head then (512 + number_in head) ∷ [] else []

-- one byte on
abbrev pub next : Place → ℕ → Place
next (Head came) b = if nat_lt (length came) 12 then Head (came ++ b ∷ []) else behind
    (came ++ b ∷ [])
next (Body more left) b = body more left
next Lost b = Lost

-- what a byte gives
abbrev pub gives : Place → ℕ → List ℕ
gives (Head came) b = if nat_lt (length came) 12 then [] else given_by (came ++ b ∷ [])
gives (Body more left) b = (b + more) ∷ []
gives Lost b = []

-- after these bytes
abbrev pub after : Place → List ℕ → Place
after place [] = place
after place (b ∷ bs) = after (next place b) bs

-- what these bytes give
abbrev pub items : Place → List ℕ → List ℕ
items place [] = []
items place (b ∷ bs) = gives place b ++ items (next place b) bs

-- the greeting: the line `anyk-serve 1`
abbrev pub greeting : List ℕ
greeting = codes "anyk-serve 1" ++ 10 ∷ []

-- what follows these bytes, if the text begins with them
abbrev pub behind_front : List ℕ → List ℕ → Option (List ℕ)
behind_front [] text = Some text
behind_front (b ∷ bs) [] = None
behind_front (b ∷ bs) (c ∷ text) = if c == b then behind_front bs text else None

-- what follows the greeting of a text, if the text is known and begins with it
abbrev pub greeted : Option (List ℕ) → Option (List ℕ)
greeted None = None
greeted (Some text) = behind_front greeting text

-- The history of a text, or `None` if it does not begin with the greeting. Each byte of an `out`
-- part counts as it is, each byte of an `err` part as 256 more, and each `end` part as 512 more
-- than its status. A part that is not whole counts as far as it goes.
abbrev pub history : Option (List ℕ) → Option (List ℕ)
history text = option_map (items start) (greeted text)
