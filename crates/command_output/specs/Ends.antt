-- The first and the last of some answers.
use Rattle.std.specs.Prelude.{◌≡◌, ℕ, List, ◌++◌, length, codes, decimal, option_map, take}
use Rattle.std.specs.List.{last_or, slice_get}
use Rattle.std.specs.Prelude.{None}
use Rattle.anyk_model.specs.Table.{Table}
use Rattle.anyk_model.specs.Query.{Query}
use Rattle.tdp_core.specs.AnswerView.{AnswerView}
use Rattle.output_model.specs.Summary.{member_text, rows_in_all}
use Rattle.command_output.specs.declared.first_and_last.FirstAndLast.{FirstAndLast}

-- the number of answers that were given, and the rows of the first and of the last of them
pub record HasEnds (given : List AnswerView) (ends : FirstAndLast) : Type 0 where
  pub count : ends.count ≡ length given
  pub first : ends.first ≡ option_map (λ (answer : AnswerView). answer.rows) (slice_get given 0)
  pub last : ends.last ≡ option_map (λ (answer : AnswerView). answer.rows) (last_or None given)

-- the summary of answers with these ends
abbrev pub ends_text : Query → List Table → FirstAndLast → List ℕ
ends_text query tables ends =
    codes "rows " ++ decimal (rows_in_all tables) ++ codes "\nanswers " ++ decimal ends.count
    ++ codes "\nfirst "
    ++ member_text query tables (option_map (take (length query.items)) ends.first)
    ++ codes "\nlast " ++ member_text query tables
    (option_map (take (length query.items)) ends.last) ++ codes "\n"
