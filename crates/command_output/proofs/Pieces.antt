-- Pieces of a text that are written one by one, with calls of the set between them.
use Rattle.std.proofs.Common.{◌≡◌, ◌≤◌, ◌+◌, ◌-◌, ◌*◌, ◌∷◌, ◌++◌, [], ℕ, suc, nat_le, Bool, true, false, if◌then◌else◌, List, length, drop, Option, Some, None, refl, sym, ap, subst, ◌∙◌, arith, append_assoc, append-nil}
use Rattle.std.proofs.lemmas.Bool.{le-leb}
use Rattle.std.proofs.lemmas.List.{append_cancel_left, length-append}
use Rattle.std.proofs.lemmas.List.Folds.{concat-append}
use Rattle.std.proofs.Math.Seq.{drop-append_seam}
use Rattle.std.specs.Io.KnownBytes.{Appends}
use Rattle.std.specs.List.{concat}
use Rattle.std.proofs.KnownBytes.{Appends-trans}
use Rattle.bound_query.specs.Steps.{whole_lines}
use Rattle.cursor_set.specs.CursorSet.{CursorSet, seen_of}
use Rattle.outer_io.proofs.Prints.{appends_nothing}
use Rattle.command_output.specs.SessionCosts.{SetPaced, Spent, engine_steps}
use Rattle.command_output.proofs.SessionCosts.{joined_at, more_steps}

-- ---- whole pieces at the front of a text

one_whole : (piece : List ℕ) (left : List (List ℕ)) (text part : List ℕ) → text ≡ piece ++ part → whole_lines (piece ∷ left) text ≡ suc (whole_lines left part)
unfolding whole_lines
one_whole piece left text part is =
    let long = ap length is ∙ length-append piece part in
    let rest : drop (length piece) text ≡ part = ap (drop (length piece)) is ∙ drop-append_seam piece part in
    rw (le-leb (length piece) (length text) (omega (arith, long)), rest) refl

-- pieces that were written are whole
all_whole : (done left : List (List ℕ)) (part : List ℕ) → whole_lines (done ++ left) (concat done ++ part) ≡ length done + whole_lines left part
all_whole [] left part = omega arith
all_whole (piece ∷ done) left part =
    let one = one_whole piece (done ++ left) ((piece ++ concat done) ++ part) (concat done ++ part) (append_assoc piece (concat done) part) in
    omega (arith, one, all_whole done left part)

-- there may be more pieces
more_whole : (pieces rest : List (List ℕ)) (part : List ℕ) → whole_lines pieces part ≤ whole_lines (pieces ++ rest) part
unfolding whole_lines
more_whole [] rest part = omega arith
more_whole (piece ∷ pieces) rest part = by (nat_le (length piece) (length part)) (more_whole pieces rest (drop (length piece) part))
  where
    by : (b : Bool) → whole_lines pieces (drop (length piece) part) ≤ whole_lines (pieces ++ rest) (drop (length piece) part)
        → (if b then suc (whole_lines pieces (drop (length piece) part)) else 0)
        ≤ (if b then suc (whole_lines (pieces ++ rest) (drop (length piece) part)) else 0)
    by true h = omega (arith, h)
    by false h = omega arith

-- ---- pieces one after another

-- these pieces are left, and those before them were written, after this many calls at most
pub record HasPieces (pieces left : List (List ℕ)) (calls : ℕ) (old now : Option (List ℕ)) : Type 0 where
  pub done : List (List ℕ)
  pub split : pieces ≡ done ++ left
  pub sent : Appends old now (concat done)
  pub many : calls ≤ length done

pub pieces_whole : (pieces : List (List ℕ)) (written : Option (List ℕ)) → HasPieces pieces pieces 0 written written
pieces_whole pieces written = record { done = []; split = refl; sent = appends_nothing written; many = omega arith }

pub pieces_more : (pieces left more rest : List (List ℕ)) (calls all : ℕ) (old mid now : Option (List ℕ)) → left ≡ more ++ rest → all ≤ calls + length more
    → HasPieces pieces left calls old mid → Appends mid now (concat more) → HasPieces pieces rest all old now
pieces_more pieces left more rest calls all old mid now is few h one = record {
  done = h.done ++ more;
  split = h.split ∙ ap (λ (l : List (List ℕ)). h.done ++ l) is ∙ sym (append_assoc h.done more rest);
  sent = subst (λ (text : List ℕ). Appends old now text) (sym (concat-append h.done more)) (Appends-trans old mid now (concat h.done) (concat more) h.sent one);
  many = let many = h.many in omega (arith, many, few, length-append h.done more);
}

-- one piece more, with one call
pub pieces_one : (pieces left : List (List ℕ)) (piece : List ℕ) (rest : List (List ℕ)) (calls : ℕ) (old mid now : Option (List ℕ)) → left ≡ piece ∷ rest
    → HasPieces pieces left calls old mid → Appends mid now piece → HasPieces pieces rest (calls + 1) old now
pieces_one pieces left piece rest calls old mid now is h one =
    pieces_more pieces left (piece ∷ []) rest calls (calls + 1) old mid now is (omega arith) h
    (subst (λ (text : List ℕ). Appends mid now text) (sym (append-nil piece)) one)

module _ (share : List ℕ → ℕ → ℕ) (rises : (s : List ℕ) (c d : ℕ) → c ≤ d → share s c ≤ share s d) where
  -- no step was taken
  pub paced_still : (set : CursorSet) (whole_in : List ℕ → ℕ) (old new : Option (List ℕ)) (now : ℕ) → SetPaced share set whole_in old new now now
  paced_still set whole_in old new now = λ start part is_old is_new. omega arith

  -- one call at most was made
  pub paced_one : (set : CursorSet) (whole_in : List ℕ → ℕ) (old new : Option (List ℕ)) (before now : ℕ) → now ≤ before + engine_steps share set 1 + 4
      → SetPaced share set whole_in old new before now
  paced_one set whole_in old new before now cost = λ start part is_old is_new.
      let more = more_steps share rises set 1 (whole_in part + 1) (omega arith) in omega (arith, cost, more)

  module _ {first mid : CursorSet} {pieces left : List (List ℕ)} {reach calls before at : ℕ} {old now : Option (List ℕ)} (h : HasPieces pieces left calls old now)
      (spent : Spent share first mid reach calls before at) where
    -- the calls for the pieces so far, and for w pieces more and the next one
    sum : (w later : ℕ) → later ≤ at + engine_steps share mid (w + 1) + 4 * (w + 1)
        → later ≤ before + engine_steps share first (length h.done + w + 1) + 4 * (length h.done + w + 1)
    sum w later cost =
        let x = seen_of mid - seen_of first in
        let many = h.many in
        let grown = spent.grown in
        let both = joined_at share rises first mid x (w + 1) spent.size (omega (arith, spent.rises, spent.few)) in
        let total = more_steps share rises first (x + (w + 1)) (length h.done + w + 1) (omega (arith, grown, many)) in
        omega (arith, spent.steps, cost, both, total, many)

    -- the same, after a text that begins with the pieces so far
    counted : (w later : ℕ) (part : List ℕ) → length h.done + w ≤ whole_lines pieces part → later ≤ at + engine_steps share mid (w + 1) + 4 * (w + 1)
        → later ≤ before + engine_steps share first (whole_lines pieces part + 1) + 4 * (whole_lines pieces part + 1)
    counted w later part least cost =
        let more = more_steps share rises first (length h.done + w + 1) (whole_lines pieces part + 1) (omega (arith, least)) in
        omega (arith, sum w later cost, more, least)

    -- the next pieces are paced too
    pub paced_then : (next rest : List (List ℕ)) (new : Option (List ℕ)) (extra : List ℕ) (later : ℕ) → left ≡ next ++ rest → Appends now new extra
        → SetPaced share mid (whole_lines next) now new at later → SetPaced share first (whole_lines pieces) old new before later
    paced_then next rest new extra later is appends paced = λ start part is_old is_new.
        by start part now (subst (λ (o : Option (List ℕ)). Appends o now (concat h.done)) is_old h.sent)
        (subst (λ (o : Option (List ℕ)). Appends now o extra) is_new appends) (λ begin more is same. paced begin more is (is_new ∙ ap Some same))
      where
        least : (part : List ℕ) → part ≡ concat h.done ++ extra → length h.done + whole_lines next extra ≤ whole_lines pieces part
        least part same =
            let count = ap (λ (l : List (List ℕ)). whole_lines l part) (h.split ∙ ap (λ (l : List (List ℕ)). h.done ++ l) is)
            ∙ ap (whole_lines (h.done ++ (next ++ rest))) same ∙ all_whole h.done (next ++ rest) extra in
            omega (arith, count, more_whole next rest extra)

        by : (start part : List ℕ) (written : Option (List ℕ)) → Appends (Some start) written (concat h.done) → Appends written (Some (start ++ part)) extra
            → ((begin more : List ℕ) → written ≡ Some begin → start ++ part ≡ begin ++ more
            → later ≤ at + engine_steps share mid (whole_lines next more + 1) + 4 * (whole_lines next more + 1))
            → later ≤ before + engine_steps share first (whole_lines pieces part + 1) + 4 * (whole_lines pieces part + 1)
        by start part None sent appends prompt = absurd sent
        by start part (Some begin) sent appends prompt =
            let same : part ≡ concat h.done ++ extra =
            append_cancel_left start part (concat h.done ++ extra) (appends ∙ ap (λ (t : List ℕ). t ++ extra) sent ∙ append_assoc start (concat h.done) extra) in
            counted (whole_lines next extra) later part (least part same) (prompt begin extra refl appends)

    -- the next call, and a part of its piece
    pub paced_call : (new : Option (List ℕ)) (extra : List ℕ) (later : ℕ) → later ≤ at + engine_steps share mid 1 + 4 → Appends now new extra
        → SetPaced share first (whole_lines pieces) old new before later
    paced_call new extra later cost appends = paced_then [] left new extra later refl appends (paced_one mid (whole_lines []) now new at later cost)

    -- no further call
    pub paced_end : SetPaced share first (whole_lines pieces) old now before at
    paced_end = paced_then [] left now [] at refl (appends_nothing now) (paced_still mid (whole_lines []) now now at)

  -- a text before them that was written whole, and calls only after it
  pub paced_after : (set : CursorSet) (pieces : List (List ℕ)) (old mid new : Option (List ℕ)) (head rest : List ℕ) (before now : ℕ) → Appends old mid head → Appends mid new rest
      → SetPaced share set (whole_lines pieces) mid new before now → SetPaced share set (λ part. whole_lines pieces (drop (length head) part)) old new before now
  paced_after set pieces old mid new head rest before now first next paced = λ start part is_old is_new.
      by start part mid (subst (λ (o : Option (List ℕ)). Appends o mid head) is_old first) (subst (λ (o : Option (List ℕ)). Appends mid o rest) is_new next)
      (λ begin more is same. paced begin more is (is_new ∙ ap Some same))
    where
      by : (start part : List ℕ) (written : Option (List ℕ)) → Appends (Some start) written head → Appends written (Some (start ++ part)) rest
          → ((begin more : List ℕ) → written ≡ Some begin → start ++ part ≡ begin ++ more
          → now ≤ before + engine_steps share set (whole_lines pieces more + 1) + 4 * (whole_lines pieces more + 1))
          → now ≤ before + engine_steps share set (whole_lines pieces (drop (length head) part) + 1) + 4 * (whole_lines pieces (drop (length head) part) + 1)
      by start part None first next prompt = absurd first
      by start part (Some begin) first next prompt =
          let same : part ≡ head ++ rest = append_cancel_left start part (head ++ rest) (next ∙ ap (λ (t : List ℕ). t ++ rest) first ∙ append_assoc start head rest) in
          let P : List ℕ → Type 0 = λ t. now ≤ before + engine_steps share set (whole_lines pieces t + 1) + 4 * (whole_lines pieces t + 1) in
          subst P (sym (ap (drop (length head)) same ∙ drop-append_seam head rest)) (prompt begin rest refl next)
