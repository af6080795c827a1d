-- What a session lists of the answers of its engine.
use Rattle.std.specs.Prelude.{ℕ, Bool, List}
use Rattle.anyk_model.specs.Output.{cut, line_text}
use Rattle.answer_print.specs.StyleView.{style_view}
use Rattle.tdp_core.specs.AnswerView.{AnswerView}
use Rattle.output_model.specs.Session.{with_name}
use Rattle.output_model.specs.SessionCalls.{ends_by_itself}
use Rattle.witness_key.specs.WitnessKey.{combinations_in}
use Rattle.command_output.specs.declared.listing.Listing.{Listing}

-- the combinations that the answers stand for
abbrev pub ranking_in : Listing → List AnswerView → List (List ℕ)
ranking_in listing answers = combinations_in listing.query.now.query answers

-- those within the limit
abbrev pub members_in : Listing → List AnswerView → List (List ℕ)
members_in listing answers = cut listing.query.now.query.limit (ranking_in listing answers)

-- the list ends where the ranking does, before the limit
abbrev pub ends_in : Listing → List AnswerView → Bool
ends_in listing answers = ends_by_itself listing.query.now.query.limit (ranking_in listing answers)

-- the record of a member, with the name of its cursor
abbrev pub line_in : Listing → List ℕ → List ℕ → List ℕ
line_in listing name = line_text listing.query.now.query listing.tables.now
    (with_name (style_view listing.style.now) name)
