use Rattle.std.proofs.Common.{◌≡◌, ◌++◌, length}
use Rattle.std.specs.Prelude.{option_map}
use Rattle.text_lines.specs.Parts.{parts, parts_after}
use Rattle.proof_model.specs.Forms.{numbers_of}
use Rattle.proof_model.proofs.number.read_numbers.Given as goal

abbrev pub invariant-parts : goal.invariant-parts
invariant-parts l =
    option_map (λ more. l.numbers.items ++ more) (numbers_of (parts_after l.rest)) ≡ numbers_of (parts l.text)

abbrev pub decreases-parts : goal.decreases-parts
decreases-parts l = length (parts_after l.rest)
