-- The digits of a number, and heads that are read.
use Rattle.std.proofs.Common.{◌≡◌, ◌<◌, ◌+◌, ◌-◌, ◌*◌, ◌/◌, ◌%◌, ℕ, List, [], ◌∷◌, ◌++◌, refl, sym, ap, ◌∙◌, true, arith}
use Rattle.std.proofs.Math.Nat.{div-div-eq-div-mul}
use Rattle.std.proofs.lemmas.Nat.{div-add-mod'}
use Rattle.std.specs.List.{list_all}
use Rattle.std.specs.Char.{is_ascii_digit}
use Rattle.std.proofs.lemmas.Bool.Decides.{nat_tests}
use Rattle.request_frames.specs.Frames.{value_of}
use Rattle.reply_parts.specs.Heads.{digit_of, head_of, word_of, end_word}
use Rattle.reply_parts.specs.History.{start, body, behind, given_by, after, items}
use Rattle.reply_parts.specs.Known.{more_of}
use Rattle.reply_parts.specs.declared.mark.Mark.{Mark}
use Rattle.reply_parts.specs.declared.mark.Mark.TheVariants as mark
use Rattle.reply_parts.proofs.Reading.{after_head, items_head}

-- the digits of a number below a hundred million
abbrev pub digits_of : ℕ → List ℕ
digits_of n =
    digit_of n 10000000 ∷ digit_of n 1000000 ∷ digit_of n 100000 ∷ digit_of n 10000 ∷ digit_of n 1000 ∷ digit_of n 100 ∷ digit_of n 10 ∷ digit_of n 1 ∷ []

digit_below : (x : ℕ) → is_ascii_digit (48 + x % 10) ≡ true
digit_below x = let h : x % 10 < 10 = omega arith in grind (arith, nat_tests)

pub are_digits : (n : ℕ) → list_all is_ascii_digit (digits_of n) ≡ true
are_digits n =
    let d : (u : ℕ) → is_ascii_digit (digit_of n u) ≡ true = λ u. digit_below (n / u) in
    rw (d 10000000) (rw (d 1000000) (rw (d 100000) (rw (d 10000) (rw (d 1000) (rw (d 100) (rw (d 10) (rw (d 1) refl)))))))

-- a digit more
more_digit : (n d m : ℕ) → n ≡ m → n * 10 + (48 + d - 48) ≡ m * 10 + d
more_digit n d m h = omega (arith, h)

value_of_eight : (a b c d e f g h : ℕ) → value_of ((48 + a) ∷ (48 + b) ∷ (48 + c) ∷ (48 + d) ∷ (48 + e) ∷ (48 + f) ∷ (48 + g) ∷ (48 + h) ∷ [])
    ≡ ((((((a * 10 + b) * 10 + c) * 10 + d) * 10 + e) * 10 + f) * 10 + g) * 10 + h
value_of_eight a b c d e f g h =
    more_digit _ h _ (more_digit _ g _ (more_digit _ f _ (more_digit _ e _ (more_digit _ d _ (more_digit _ c _ (more_digit _ b _ (omega arith)))))))

-- a quotient by its last digit and the quotient by ten times as much
last_digit : (n u v : ℕ) → 0 < u → v ≡ u * 10 → n / v * 10 + n / u % 10 ≡ n / u
last_digit n u v some is = ap (λ q. q * 10 + n / u % 10) (ap (λ w. n / w) is ∙ sym (div-div-eq-div-mul n u 10)) ∙ div-add-mod' (n / u) 10

digits_sum : (n a b c d e f g h p q r s t u v : ℕ) → n < 100000000 → a ≡ p → p * 10 + b ≡ q → q * 10 + c ≡ r → r * 10 + d ≡ s → s * 10 + e ≡ t → t * 10 + f ≡ u → u * 10 + g ≡ v
    → v * 10 + h ≡ n → ((((((a * 10 + b) * 10 + c) * 10 + d) * 10 + e) * 10 + f) * 10 + g) * 10 + h ≡ n
digits_sum n a b c d e f g h p q r s t u v small ia ib ic id ie if_ ig ih = omega (arith, ia, ib, ic, id, ie, if_, ig, ih)

pub value-digits : (n : ℕ) → n < 100000000 → value_of (digits_of n) ≡ n
value-digits n small =
    value_of_eight _ _ _ _ _ _ _ _
    ∙ digits_sum n _ _ _ _ _ _ _ _ (n / 10000000) (n / 1000000) (n / 100000) (n / 10000) (n / 1000) (n / 100) (n / 10) small
    (omega (arith, small)) (last_digit n 1000000 10000000 (omega arith) refl) (last_digit n 100000 1000000 (omega arith) refl)
    (last_digit n 10000 100000 (omega arith) refl) (last_digit n 1000 10000 (omega arith) refl) (last_digit n 100 1000 (omega arith) refl)
    (last_digit n 10 100 (omega arith) refl) (last_digit n 1 10 (omega arith) refl ∙ omega arith)

module _ (a b c d e f g h : ℕ) (are : list_all is_ascii_digit (a ∷ b ∷ c ∷ d ∷ e ∷ f ∷ g ∷ h ∷ []) ≡ true) where
  behind_part : (m : Mark) → behind (word_of m ++ (a ∷ b ∷ c ∷ d ∷ e ∷ f ∷ g ∷ h ∷ 10 ∷ [])) ≡ body (more_of m) (value_of (a ∷ b ∷ c ∷ d ∷ e ∷ f ∷ g ∷ h ∷ []))
  behind_part mark.Output = rw are refl
  behind_part mark.Errors = rw are refl

  given_by_part : (m : Mark) → given_by (word_of m ++ (a ∷ b ∷ c ∷ d ∷ e ∷ f ∷ g ∷ h ∷ 10 ∷ [])) ≡ []
  given_by_part mark.Output = refl
  given_by_part mark.Errors = refl

  -- the head of a part is read
  pub after_part_head : (m : Mark) → after start (word_of m ++ (a ∷ b ∷ c ∷ d ∷ e ∷ f ∷ g ∷ h ∷ 10 ∷ [])) ≡ body (more_of m) (value_of (a ∷ b ∷ c ∷ d ∷ e ∷ f ∷ g ∷ h ∷ []))
  after_part_head mark.Output = after_head 111 117 116 32 a b c d e f g h 10 ∙ behind_part mark.Output
  after_part_head mark.Errors = after_head 101 114 114 32 a b c d e f g h 10 ∙ behind_part mark.Errors

  pub items_part_head : (m : Mark) → items start (word_of m ++ (a ∷ b ∷ c ∷ d ∷ e ∷ f ∷ g ∷ h ∷ 10 ∷ [])) ≡ []
  items_part_head mark.Output = items_head 111 117 116 32 a b c d e f g h 10 ∙ given_by_part mark.Output
  items_part_head mark.Errors = items_head 101 114 114 32 a b c d e f g h 10 ∙ given_by_part mark.Errors

  -- the end of a reply is read
  pub after_end_head : after start (end_word ++ (a ∷ b ∷ c ∷ d ∷ e ∷ f ∷ g ∷ h ∷ 10 ∷ [])) ≡ start
  after_end_head = after_head 101 110 100 32 a b c d e f g h 10 ∙ rw are refl

  pub items_end_head : items start (end_word ++ (a ∷ b ∷ c ∷ d ∷ e ∷ f ∷ g ∷ h ∷ 10 ∷ [])) ≡ (512 + value_of (a ∷ b ∷ c ∷ d ∷ e ∷ f ∷ g ∷ h ∷ [])) ∷ []
  items_end_head = items_head 101 110 100 32 a b c d e f g h 10 ∙ rw are refl

-- the heads that are written
pub after_written_head : (m : Mark) (n : ℕ) → n < 100000000 → after start (head_of (word_of m) n) ≡ body (more_of m) n
after_written_head mark.Output n small = after_part_head (digit_of n 10000000) (digit_of n 1000000) (digit_of n 100000) (digit_of n 10000) (digit_of n 1000) (digit_of n 100) (digit_of n 10) (digit_of n 1) (are_digits n) mark.Output ∙ ap (body 0) (value-digits n small)
after_written_head mark.Errors n small = after_part_head (digit_of n 10000000) (digit_of n 1000000) (digit_of n 100000) (digit_of n 10000) (digit_of n 1000) (digit_of n 100) (digit_of n 10) (digit_of n 1) (are_digits n) mark.Errors ∙ ap (body 256) (value-digits n small)

pub items_written_head : (m : Mark) (n : ℕ) → items start (head_of (word_of m) n) ≡ []
items_written_head mark.Output n = items_part_head (digit_of n 10000000) (digit_of n 1000000) (digit_of n 100000) (digit_of n 10000) (digit_of n 1000) (digit_of n 100) (digit_of n 10) (digit_of n 1) (are_digits n) mark.Output
items_written_head mark.Errors n = items_part_head (digit_of n 10000000) (digit_of n 1000000) (digit_of n 100000) (digit_of n 10000) (digit_of n 1000) (digit_of n 100) (digit_of n 10) (digit_of n 1) (are_digits n) mark.Errors

pub after_written_end : (n : ℕ) → after start (head_of end_word n) ≡ start
after_written_end n = after_end_head (digit_of n 10000000) (digit_of n 1000000) (digit_of n 100000) (digit_of n 10000) (digit_of n 1000) (digit_of n 100) (digit_of n 10) (digit_of n 1) (are_digits n)

pub items_written_end : (n : ℕ) → n < 100000000 → items start (head_of end_word n) ≡ (512 + n) ∷ []
items_written_end n small = items_end_head (digit_of n 10000000) (digit_of n 1000000) (digit_of n 100000) (digit_of n 10000) (digit_of n 1000) (digit_of n 100) (digit_of n 10) (digit_of n 1) (are_digits n) ∙ ap (λ x. (512 + x) ∷ []) (value-digits n small)
