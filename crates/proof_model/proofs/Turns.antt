-- One line after another.
use Rattle.std.proofs.Common.{◌≡◌, ℕ, ◌+◌, ◌<◌, List, [], ◌∷◌, length, true, eqb, refl, ap, ◌∙◌, subst, arith}
use Rattle.std.specs.Prelude.{Result, Err, codes}
use Rattle.std.specs.Str.{bytes_eq}
use Rattle.std.specs.Str.Lines.{lines}
use Rattle.std.proofs.lemmas.Bool.{cond-true}
use Rattle.std.proofs.lemmas.List.Splits.{length-slice_split}
use Rattle.text_lines.specs.Parts.{parts}
use Rattle.proof_model.specs.declared.fault.ProofFault.{ProofFault}
use Rattle.proof_model.specs.declared.fault.ProofFault.TheVariants.{BadHeader, BadLine}
use Rattle.proof_model.specs.Certificate.{Certificate}
use Rattle.proof_model.specs.Forms.{last_line, line_of, line_of_parts, numbers_line}
use Rattle.proof_model.specs.Reading.{Lines, IsProofFault, by_line, no_lines, proof_of, proof_of_lines, read_from}

pub one_part : (text word : List ℕ) → parts text ≡ word ∷ [] → line_of text ≡ last_line word
unfolding line_of_parts
one_part text word e = ap line_of_parts e

pub many_parts : (word : List ℕ) (ps : List (List ℕ)) → 0 < length ps
    → line_of_parts (word ∷ ps) ≡ numbers_line word ps
unfolding line_of_parts
many_parts word [] h = absurd (omega arith)
many_parts word (p ∷ ps) h = refl

pub some_parts : (text word rest : List ℕ) → parts text ≡ word ∷ parts rest
    → line_of text ≡ numbers_line word (parts rest)
some_parts text word rest e =
    ap line_of_parts e ∙ many_parts word (parts rest) (omega (arith, length-slice_split (λ b. eqb b 32) rest))

pub turn : (n : ℕ) (read : Lines) (lines : List (List ℕ)) (text : List ℕ) (more : List (List ℕ)) → lines ≡ text ∷ more
    → read_from n read lines ≡ by_line n read (line_of text) more (λ after. read_from (n + 1) after more)
unfolding read_from
turn n read lines text more e = ap (read_from n read) e

pub no_turn : (n : ℕ) (read : Lines) (lines : List (List ℕ)) → lines ≡ [] → read_from n read lines ≡ Err (BadLine n)
unfolding read_from
no_turn n read lines e = ap (read_from n read) e

pub fails_so : (r all : Result Certificate ProofFault) (e : ProofFault) → r ≡ all → IsProofFault r e → IsProofFault all e
fails_so r all e same h = subst (λ z. IsProofFault z e) same h

pub after_header : (bytes first : List ℕ) (more : List (List ℕ)) → lines bytes ≡ first ∷ more
    → bytes_eq first (codes "anyk-proof 1") ≡ true
    → proof_of bytes ≡ read_from 2 no_lines more
after_header bytes first more e h =
    ap proof_of_lines e ∙ cond-true (bytes_eq first (codes "anyk-proof 1")) (read_from 2 no_lines more)
    (Err BadHeader) h
