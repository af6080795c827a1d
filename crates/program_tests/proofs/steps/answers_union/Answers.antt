use Rattle.std.proofs.Common.{map, ap, ◌∙◌}
use Rattle.std.specs.String.{string_bytes}
use Rattle.program_tests.proofs.RowWords.{union_within}
use Rattle.program_tests.proofs.steps.answers_union.Goals as goal

pub returns : goal.returns
returns g c = union_within _ _ _ _ (ap (map string_bytes) c.as_slice-words.ensures.value ∙ c.in_ok-words.ensures) c.in_ok-shelf.ensures c.run_words-status.ensures.bounded
