-- A certificate as it is written.
use Rattle.std.specs.Prelude.{ℕ, Bool, if◌then◌else◌, List, ◌++◌, codes, decimal}
use Rattle.std.specs.List.{flat_map}
pub use Rattle.text_lines.specs.SpacedNumbers.{spaced}
use Rattle.proof_model.specs.Certificate.{BoundLine, AnswerLine, Certificate}

abbrev pub header_text : List ℕ
header_text = codes "anyk-proof 1\n"

abbrev pub bound_text : ℕ → List ℕ → List ℕ
bound_text node rows = codes "bound " ++ (decimal node ++ (spaced rows ++ codes "\n"))

abbrev pub answer_text : List ℕ → List ℕ
answer_text rows = codes "answer" ++ (spaced rows ++ codes "\n")

abbrev pub last_text : Bool → List ℕ
last_text ended = if ended then codes "end\n" else codes "more\n"

abbrev pub proof_text : Certificate → List ℕ
proof_text c =
    header_text ++ (flat_map (λ (b : BoundLine). bound_text b.node b.rows) c.bounds
    ++ (flat_map (λ (a : AnswerLine). answer_text a.rows) c.answers ++ last_text c.ended))
