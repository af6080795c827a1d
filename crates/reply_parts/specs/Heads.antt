-- Heads: a word of three letters and a space, eight decimal digits, and a line feed.
use Rattle.std.specs.Prelude.{ℕ, ◌+◌, ◌/◌, ◌%◌, List, [], ◌∷◌, codes, drop, take, slice_index, Bool, ◌&&◌}
use Rattle.std.specs.List.{list_all}
use Rattle.std.specs.Char.{is_ascii_digit}
use Rattle.std.specs.Str.{bytes_eq}
use Rattle.request_frames.specs.Frames.{value_of}
use Rattle.reply_parts.specs.declared.mark.Mark.{Mark}
use Rattle.reply_parts.specs.declared.mark.Mark.TheVariants as mark

-- the words of heads
abbrev pub out_word : List ℕ
out_word = codes "out "

abbrev pub err_word : List ℕ
err_word = codes "err "

abbrev pub end_word : List ℕ
end_word = codes "end "

-- the word of the parts with this mark
abbrev pub word_of : Mark → List ℕ
word_of mark.Output = out_word
word_of mark.Errors = err_word

-- the digit of the number that counts so many
abbrev pub digit_of : ℕ → ℕ → ℕ
digit_of number unit = 48 + number / unit % 10

-- the head of a word of four bytes and a number of at most eight digits
abbrev pub head_of : List ℕ → ℕ → List ℕ
head_of word number =
    slice_index word 0 ∷ slice_index word 1 ∷ slice_index word 2 ∷ slice_index word 3 ∷
    digit_of number 10000000 ∷ digit_of number 1000000 ∷ digit_of number 100000 ∷
    digit_of number 10000 ∷ digit_of number 1000 ∷ digit_of number 100 ∷ digit_of number 10 ∷
    digit_of number 1 ∷ 10 ∷ []

-- whether thirteen bytes are a head with this word
abbrev pub has_word : List ℕ → List ℕ → Bool
has_word word head = bytes_eq (take 4 head) word &&
    (list_all is_ascii_digit (take 8 (drop 4 head)) && bytes_eq (drop 12 head) (10 ∷ []))

-- the number that a head writes
abbrev pub number_in : List ℕ → ℕ
number_in head = value_of (take 8 (drop 4 head))
