-- Heads and frames at the front of a text.
use Rattle.std.proofs.Common.{◌≡◌, ◌≤◌, ℕ, List, [], ◌∷◌, ◌++◌, length, get_or, take, drop, IsTrue, Option, Some, None, MatchOption, sym, ap, subst, ◌∙◌, append_assoc, length-append, length-take-le, refl, arith}
use Rattle.std.specs.List.{list_all}
use Rattle.std.specs.Char.{is_ascii_digit}
use Rattle.std.proofs.lemmas.List.{take_all, take_at, take_more, drop_at}
use Rattle.request_frames.specs.Frames.{HasFrame, IsFrame, IsHead, value_of}

pub head_length : (head : List ℕ) (size : ℕ) → IsHead head size → length head ≡ 9
head_length head size h = omega (arith, ap length h.parts, length-append h.digits (10 ∷ []), h.eight)

head_digits : (head : List ℕ) (size : ℕ) (h : IsHead head size) → take 8 head ≡ h.digits
head_digits head size h = ap (take 8) h.parts ∙ take_at h.digits (10 ∷ []) 8 h.eight

-- nine bytes of which the last is this one
last_of_nine : (head : List ℕ) (b : ℕ) → length head ≡ 9 → get_or head 8 0 ≡ b → head ≡ take 8 head ++ b ∷ []
last_of_nine head b size is =
    sym (take_all 9 head (omega (arith, size))) ∙ take_more head 8 0 (omega (arith, size)) ∙ ap (λ x. take 8 head ++ x ∷ []) is

-- the first eight bytes write a number, or are no digits
pub size_of_head : (head : List ℕ) (r : Option ℕ) → length head ≡ 9 → get_or head 8 0 ≡ 10
    → MatchOption r (IsTrue (list_all is_ascii_digit (take 8 head)) → ⊥)
    (λ n. IsTrue (list_all is_ascii_digit (take 8 head)) × (value_of (take 8 head) ≡ n))
    → MatchOption r ((n : ℕ) → IsHead head n → ⊥) (λ n. IsHead head n)
size_of_head head None size end none =
    λ n h. none (subst (λ ds. IsTrue (list_all is_ascii_digit ds)) (sym (head_digits head n h)) h.are_digits)
size_of_head head (Some n) size end some = record {
  digits = take 8 head;
  eight = length-take-le 8 head (omega (arith, size));
  are_digits = some.0;
  writes = some.1;
  parts = last_of_nine head 10 size end;
}

-- two heads at the front of one text are one, and write one size
pub one_head : (a b : List ℕ) (m n : ℕ) (x y : List ℕ) → IsHead a m → IsHead b n → a ++ x ≡ b ++ y → (a ≡ b) × (m ≡ n)
one_head a b m n x y p q same =
    let heads : a ≡ b = sym (take_at a x 9 (head_length a m p)) ∙ ap (take 9) same ∙ take_at b y 9 (head_length b n q) in
    (heads, sym p.writes ∙ ap value_of (sym (head_digits a m p) ∙ ap (take 8) heads ∙ head_digits b n q) ∙ q.writes)

-- a frame at the front of a text has a head there, and the bytes that the head says
pub frame_room : (head more : List ℕ) (size : ℕ) → IsHead head size → HasFrame (head ++ more) → size ≤ length more
frame_room head more size h f =
    let is = f.is_frame in
    let whole : head ++ more ≡ is.head ++ (f.bytes ++ f.rest) = f.parts ∙ ap (λ l. l ++ f.rest) is.parts ∙ append_assoc is.head f.bytes f.rest in
    let same = one_head head is.head size (length f.bytes) more (f.bytes ++ f.rest) h is.is_head whole in
    let a = ap length whole ∙ length-append is.head (f.bytes ++ f.rest) in
    omega (arith, a, length-append head more, length-append f.bytes f.rest, ap length same.0, same.1)

-- a text that begins with a frame has room for a head
pub frame_head_room : (text : List ℕ) → HasFrame text → 9 ≤ length text
frame_head_room text f =
    let is = f.is_frame in
    omega (
      arith,
      ap length f.parts,
      length-append f.front f.rest,
      ap length is.parts,
      length-append is.head f.bytes,
      head_length is.head (length f.bytes) is.is_head,
    )

-- nine bytes that are no head begin no frame
pub no_head : (head more : List ℕ) → length head ≡ 9 → ((n : ℕ) → IsHead head n → ⊥) → HasFrame (head ++ more) → ⊥
no_head head more nine none f =
    let is = f.is_frame in
    let whole : head ++ more ≡ is.head ++ (f.bytes ++ f.rest) = f.parts ∙ ap (λ l. l ++ f.rest) is.parts ∙ append_assoc is.head f.bytes f.rest in
    let same : is.head ≡ head =
    sym (take_at is.head (f.bytes ++ f.rest) 9 (head_length is.head (length f.bytes) is.is_head)) ∙ ap (take 9) (sym whole) ∙ take_at head more 9 nine in
    none (length f.bytes) (subst (λ l. IsHead l (length f.bytes)) same is.is_head)

-- a text begins with one frame at most
pub one_frame : (s t b c x y : List ℕ) → IsFrame s b → IsFrame t c → s ++ x ≡ t ++ y → x ≡ y
one_frame s t b c x y p q same =
    let whole : p.head ++ (b ++ x) ≡ q.head ++ (c ++ y) =
    sym (append_assoc p.head b x) ∙ ap (λ l. l ++ x) (sym p.parts) ∙ same ∙ ap (λ l. l ++ y) q.parts ∙ append_assoc q.head c y in
    let heads = one_head p.head q.head (length b) (length c) (b ++ x) (c ++ y) p.is_head q.is_head whole in
    let front : length s ≡ length t =
    omega (arith, ap length p.parts, length-append p.head b, ap length q.parts, length-append q.head c, ap length heads.0, heads.1) in
    sym (drop_at s x (length t) front) ∙ ap (drop (length t)) same ∙ drop_at t y (length t) refl
