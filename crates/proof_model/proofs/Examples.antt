-- Small certificates, written and read by computation.
use Rattle.std.specs.Prelude.{◌≡◌, ℕ, List, [], ◌∷◌, true, false, Ok, Err, codes}
use Rattle.std.proofs.Common.{refl}
use Rattle.std.specs.Fmt.{digits}
use Rattle.proof_model.specs.declared.fault.ProofFault.TheVariants.{BadHeader, BadLine}
use Rattle.proof_model.specs.Certificate.{Certificate}
use Rattle.proof_model.specs.Forms.{line_of_parts}
use Rattle.proof_model.specs.Reading.{proof_of, read_from}
use Rattle.proof_model.specs.Writing.{proof_text}

abbrev small : Certificate
small = record {
  bounds =
      record { line = 2; node = 1; rows = 2 ∷ 2 ∷ [] } ∷ (record { line = 3; node = 2; rows = 2 ∷ [] }
      ∷ (record { line = 4; node = 2; rows = 3 ∷ [] } ∷ []));
  answers = record { line = 5; rows = 2 ∷ 2 ∷ [] } ∷ (record { line = 6; rows = 3 ∷ 3 ∷ [] } ∷ []);
  ended = false;
}

abbrev small_text : List ℕ
small_text = codes "anyk-proof 1\nbound 1 2 2\nbound 2 2\nbound 2 3\nanswer 2 2\nanswer 3 3\nmore\n"

written : proof_text small ≡ small_text
unfolding digits
written = refl

read : proof_of small_text ≡ Ok small
unfolding read_from line_of_parts
read = refl

short : proof_of (codes "anyk-proof 1") ≡ Err (BadLine 2)
unfolding read_from line_of_parts
short = refl

late_bound : proof_of (codes "anyk-proof 1\nanswer 1\nbound 1 1\nend") ≡ Err (BadLine 3)
unfolding read_from line_of_parts
late_bound = refl

zero_before : proof_of (codes "anyk-proof 1\nanswer 01\nend") ≡ Err (BadLine 2)
unfolding read_from line_of_parts
zero_before = refl

returns : proof_of (codes "anyk-proof 1\r\nend") ≡ Ok (record { bounds = []; answers = []; ended = true })
unfolding read_from line_of_parts
returns = refl

empty : proof_of [] ≡ Err BadHeader
unfolding read_from line_of_parts
empty = refl

line_after_the_last : proof_of (codes "anyk-proof 1\nend\nend\n") ≡ Err (BadLine 3)
unfolding read_from line_of_parts
line_after_the_last = refl

two_spaces : proof_of (codes "anyk-proof 1\nanswer  1\nend\n") ≡ Err (BadLine 2)
unfolding read_from line_of_parts
two_spaces = refl

eight_digits : proof_of (codes "anyk-proof 1\nanswer 12345678\nend\n") ≡ Err (BadLine 2)
unfolding read_from line_of_parts
eight_digits = refl
