-- Bytes that are taken from what is left.
use Rattle.std.proofs.Common.{◌≡◌, ℕ, List, [], ◌++◌, Option, None, Some, take, drop, refl, sym, ap, subst, ◌∙◌, append_assoc}
use Rattle.std.specs.Io.KnownBytes.{Consumes, Keeps, prepend_known}
use Rattle.std.proofs.KnownBytes.{Consumes-kept, Consumes-nil, Consumes-trans}
use Rattle.std.proofs.Math.Nat.{le_refl, le_trans}
use Rattle.std.proofs.lemmas.List.{take-append-drop}
use Rattle.request_frames.specs.Reading.{GoesOn, Source}

pub GoesOn-trans : (a b c : Source) → GoesOn a b → GoesOn b c → GoesOn a c
GoesOn-trans a b c p q = record {
  files = q.files ∙ p.files;
  misses = le_trans p.misses q.misses;
  faults = le_trans p.faults q.faults;
  taken = le_trans p.taken q.taken;
}

-- what the reader holds does not matter
pub GoesOn-held : (a b : Source) (held : List ℕ) → GoesOn a b → GoesOn a (record b { held = held })
GoesOn-held a b held p = record {
  files = p.files;
  misses = p.misses;
  faults = p.faults;
  taken = p.taken;
}

-- the first of the bytes that are held were taken
pub Consumes-held : (held : List ℕ) (rest : Option (List ℕ)) (n : ℕ)
    → Consumes (prepend_known held rest) (prepend_known (drop n held) rest) (take n held)
Consumes-held held None n = tt
Consumes-held held (Some xs) n = ap (λ l. l ++ xs) (sym (take-append-drop n held)) ∙ append_assoc (take n held) (drop n held) xs

-- reading on takes nothing
pub Keeps-nothing : (a b : Option (List ℕ)) → Keeps a b → Consumes a b []
Keeps-nothing a b p = Consumes-kept a a b [] (Consumes-nil a) p

-- after a part, a call read on, and then the first of the bytes that are held were taken
pub took_more : (a b : Option (List ℕ)) (held now : List ℕ) (rest : Option (List ℕ)) (part : List ℕ) (n : ℕ)
    → Consumes a b part → Keeps b (prepend_known held rest) → now ≡ drop n held
    → Consumes a (prepend_known now rest) (part ++ take n held)
took_more a b held now rest part n took kept is =
    subst (λ h. Consumes a (prepend_known h rest) (part ++ take n held)) (sym is)
    (Consumes-trans a (prepend_known held rest) _ part (take n held) (Consumes-kept a b _ part took kept) (Consumes-held held rest n))

pub GoesOn-refl : (a : Source) → GoesOn a a
GoesOn-refl a = record { files = refl; misses = le_refl _; faults = le_refl _; taken = le_refl _ }
