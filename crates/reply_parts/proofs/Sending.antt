-- Sending a part in pieces.
use Rattle.std.proofs.Common.{◌≡◌, ◌≤◌, ◌<◌, ◌+◌, ◌-◌, ℕ, zero, suc, List, [], ◌++◌, length, take, drop, map, refl, sym, ap, ◌∙◌, subst, true, false, nat_lt, arith, length-take-le, length-drop, ⊎_elim}
use Rattle.std.proofs.lemmas.Bool.{cases_lt}
use Rattle.std.proofs.lemmas.Bool.Decides.{nat_tests}
use Rattle.std.proofs.lemmas.List.{take-append-drop, take-append-le}
use Rattle.std.proofs.Math.Seq.{take-append-add}
use Rattle.reply_parts.specs.Heads.{head_of, word_of}
use Rattle.reply_parts.specs.History.{Head, start, body, after, items}
use Rattle.reply_parts.specs.Known.{more_of, place_in, sent_after}
use Rattle.reply_parts.specs.declared.mark.Mark.{Mark}
use Rattle.reply_parts.proofs.Digits.{after_written_head, items_written_head}
use Rattle.reply_parts.proofs.Reading.{after-append, items-append, after_in_head, items_in_head, after_body, items_body}

-- ---- where a reader is

head_place : (m : Mark) (size sent : ℕ) → sent < 13 → place_in m size sent ≡ Head (take sent (head_of (word_of m) size))
head_place m size sent h = let e : nat_lt sent 13 ≡ true = grind (arith, nat_tests) in rw e refl

body_place : (m : Mark) (size sent : ℕ) → 13 ≤ sent → place_in m size sent ≡ body (more_of m) (size + 13 - sent)
body_place m size sent h = let e : nat_lt sent 13 ≡ false = grind (arith, nat_tests) in rw e refl

less : (size sent : ℕ) → sent < 13 + size → sent_after size sent ≡ sent
less size sent h = let e : nat_lt sent (13 + size) ≡ true = grind (arith, nat_tests) in rw e refl

all : (size sent : ℕ) → sent ≡ 13 + size → sent_after size sent ≡ 0
all size sent h = let e : nat_lt sent (13 + size) ≡ false = grind (arith, nat_tests) in rw e refl

left_over : (rest size sent : ℕ) → rest + sent ≡ size + 13 → size + 13 - sent ≡ rest
left_over rest size sent e = omega (arith, e)

-- behind its last byte a part is not begun any more
counted_place : (m : Mark) (size sent rest : ℕ) → 13 ≤ sent → rest + sent ≡ size + 13 → place_in m size (sent_after size sent) ≡ body (more_of m) rest
counted_place m size sent zero h e = ap (place_in m size) (all size sent (omega (arith, e)))
counted_place m size sent (suc rest) h e =
    ap (place_in m size) (less size sent (omega (arith, e))) ∙ body_place m size sent h ∙ ap (body (more_of m)) (left_over (suc rest) size sent e)

-- what bytes do that a reader comes upon in a part: it is further in the part then, and they give these
pub record Reads (m : Mark) (size sent now : ℕ) (bytes given : List ℕ) : Type 0 where
  pub place : after (place_in m size sent) bytes ≡ place_in m size now
  pub gives : items (place_in m size sent) bytes ≡ map (λ b. b + more_of m) given

pub take_within : (k n : ℕ) (xs : List ℕ) → k ≤ n → n ≤ length xs → take k (take n xs) ≡ take k xs
take_within k n xs h within =
    sym (take-append-le k (take n xs) (drop n xs) (omega (arith, h, length-take-le n xs within))) ∙ ap (take k) (take-append-drop n xs)

-- ---- bytes of a part

pub reads_body : (m : Mark) (size sent k : ℕ) (bytes : List ℕ) → 13 ≤ sent → k ≤ length bytes → k + sent ≤ size + 13
    → Reads m size sent (sent_after size (sent + k)) (take k bytes) (take k bytes)
reads_body m size sent k bytes inside within fits =
    let at = body_place m size sent inside in
    let long = length-take-le k bytes within in
    let rest = size + 13 - (sent + k) in
    record {
      place =
          ap (λ p. after p (take k bytes)) at
          ∙ after_body (more_of m) (size + 13 - sent) rest (take k bytes) (omega (arith, long, fits))
          ∙ sym (counted_place m size (sent + k) rest (omega (arith, inside)) (omega (arith, fits)));
      gives = ap (λ p. items p (take k bytes)) at ∙ items_body (more_of m) (size + 13 - sent) (take k bytes) (omega (arith, long, fits));
    }

-- ---- the rest of a head, and bytes behind it

module _ (m : Mark) (size sent : ℕ) (early : sent < 13) (small : size < 100000000) where
  abbrev the_head : List ℕ
  the_head = head_of (word_of m) size

  front_length : length (take sent the_head) ≡ sent
  front_length = length-take-le sent the_head (omega (arith, early))

  rest_length : length (drop sent the_head) ≡ 13 - sent
  rest_length = length-drop sent the_head

  came : after start (take sent the_head) ≡ Head (take sent the_head)
  came = after_in_head [] (take sent the_head) (omega (arith, front_length, early))

  after_rest : after (Head (take sent the_head)) (drop sent the_head) ≡ body (more_of m) size
  after_rest =
      ap (λ p. after p (drop sent the_head)) (sym came) ∙ sym (after-append start (take sent the_head) (drop sent the_head))
      ∙ ap (after start) (take-append-drop sent the_head) ∙ after_written_head m size small

  items_rest : items (Head (take sent the_head)) (drop sent the_head) ≡ []
  items_rest =
      ap (λ p. items p (drop sent the_head)) (sym came)
      ∙ ap (λ l. l ++ items (after start (take sent the_head)) (drop sent the_head)) (sym (items_in_head [] (take sent the_head) (omega (arith, front_length, early))))
      ∙ sym (items-append start (take sent the_head) (drop sent the_head)) ∙ ap (items start) (take-append-drop sent the_head) ∙ items_written_head m size

  -- bytes that leave the head unfinished
  reads_less : (k : ℕ) (more : List ℕ) → sent + k < 13 → Reads m size sent (sent_after size (sent + k)) (take k (drop sent the_head ++ more)) []
  reads_less k more within =
      let rest = drop sent the_head in
      let part : take k (rest ++ more) ≡ take k rest = take-append-le k rest more (omega (arith, rest_length, within)) in
      let long : length (take k rest) ≡ k = length-take-le k rest (omega (arith, rest_length, within)) in
      let at = head_place m size sent early in
      let grown : take sent the_head ++ take k rest ≡ take (sent + k) the_head =
      sym (take-append-add (take sent the_head) rest k) ∙ ap (λ n. take (n + k) (take sent the_head ++ rest)) front_length ∙ ap (take (sent + k)) (take-append-drop sent the_head) in
      record {
        place =
            ap (after (place_in m size sent)) part ∙ ap (λ p. after p (take k rest)) at
            ∙ after_in_head (take sent the_head) (take k rest) (omega (arith, front_length, long, within)) ∙ ap Head grown
            ∙ sym (head_place m size (sent + k) within) ∙ ap (place_in m size) (sym (less size (sent + k) (omega (arith, within))));
        gives =
            ap (items (place_in m size sent)) part ∙ ap (λ p. items p (take k rest)) at
            ∙ items_in_head (take sent the_head) (take k rest) (omega (arith, front_length, long, within));
      }

  -- the rest of the head and the first of the bytes behind it
  reads_more : (k : ℕ) (more : List ℕ) → k ≤ length more → k ≤ size
      → Reads m size sent (sent_after size (sent + (13 - sent + k))) (take (13 - sent + k) (drop sent the_head ++ more)) (take k more)
  reads_more k more within fits =
      let rest = drop sent the_head in
      let part : take (13 - sent + k) (rest ++ more) ≡ rest ++ take k more = ap (λ n. take (n + k) (rest ++ more)) (sym rest_length) ∙ take-append-add rest more k in
      let long = length-take-le k more within in
      let at = head_place m size sent early in
      record {
        place =
            ap (after (place_in m size sent)) part ∙ ap (λ p. after p (rest ++ take k more)) at ∙ after-append (Head (take sent the_head)) rest (take k more)
            ∙ ap (λ p. after p (take k more)) after_rest ∙ after_body (more_of m) size (size - k) (take k more) (omega (arith, long, fits))
            ∙ sym (counted_place m size (sent + (13 - sent + k)) (size - k) (omega (arith, early)) (omega (arith, early, fits)));
        gives =
            ap (items (place_in m size sent)) part ∙ ap (λ p. items p (rest ++ take k more)) at ∙ items-append (Head (take sent the_head)) rest (take k more)
            ∙ ap (λ l. l ++ items (after (Head (take sent the_head)) rest) (take k more)) items_rest ∙ ap (λ p. items p (take k more)) after_rest
            ∙ items_body (more_of m) size (take k more) (omega (arith, long, fits));
      }

  -- what a write takes of the rest of a head and of as many bytes as the part has room for
  pub reads_head : (bytes : List ℕ) (count taken : ℕ) → count ≤ length bytes → count ≤ size → taken ≤ 13 - sent + count
      → Reads m size sent (sent_after size (sent + taken)) (take taken (drop sent the_head ++ take count bytes)) (take (taken - (13 - sent)) bytes)
  reads_head bytes count taken within fits all_of = ⊎_elim (λ less_than. first less_than) (λ more_than. second more_than) (cases_lt (sent + taken) 13)
    where
      none_of : sent + taken < 13 → taken - (13 - sent) ≡ 0
      none_of h = omega (arith, h)

      first : sent + taken < 13
          → Reads m size sent (sent_after size (sent + taken)) (take taken (drop sent the_head ++ take count bytes)) (take (taken - (13 - sent)) bytes)
      first h = subst
          (λ n. Reads m size sent (sent_after size (sent + taken)) (take taken (drop sent the_head ++ take count bytes)) (take n bytes)) (sym (none_of h))
          (reads_less taken (take count bytes) h)

      second : 13 ≤ sent + taken
          → Reads m size sent (sent_after size (sent + taken)) (take taken (drop sent the_head ++ take count bytes)) (take (taken - (13 - sent)) bytes)
      second h =
          let k = taken - (13 - sent) in
          let whole : 13 - sent + k ≡ taken = omega (arith, h, early) in
          let front : take k (take count bytes) ≡ take k bytes =
          sym (take-append-le k (take count bytes) (drop count bytes) (omega (arith, all_of, length-take-le count bytes within)))
          ∙ ap (take k) (take-append-drop count bytes) in
          subst (λ l. Reads m size sent (sent_after size (sent + taken)) (take taken (drop sent the_head ++ take count bytes)) l) front
          (subst (λ n. Reads m size sent (sent_after size (sent + n)) (take n (drop sent the_head ++ take count bytes)) (take k (take count bytes))) whole
          (reads_more k (take count bytes) (omega (arith, all_of, length-take-le count bytes within)) (omega (arith, all_of, fits))))
