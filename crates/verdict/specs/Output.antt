-- The complete output of an accepted input.
use Rattle.std.specs.Prelude.{◌≡◌, ℕ, List, None, if◌then◌else◌}
use Rattle.anyk_model.specs.Output.{Style, output_of, cut}
use Rattle.anyk_model.specs.BestList.{list_of}
use Rattle.bound_query.specs.Report.{report_of}
use Rattle.proof_model.specs.ProofTexts.{IsProofText}
use Rattle.verdict.specs.Words.{Words, Command, run, plan, session, load, prove, verify}
use Rattle.anyk_model.specs.TaggedRows.{Tagged}
use Rattle.anyk_model.specs.Union.{union_of}
use Rattle.anyk_model.specs.UnionOutput.{union_output_of}
use Rattle.verdict.specs.AcceptedInput.{AcceptedInput, is_union, query_of, structure_of}
use Rattle.output_model.specs.Session.{session_text}
use Rattle.output_model.specs.Summary.{summary_text}

abbrev pub style_of : Words → Style
style_of words = record { ranks = words.ranks; rows = words.rows; cursor = None }

-- the list that is asked for: the ranking, or the best answer of each row of the item that is named
abbrev pub asked_list : AcceptedInput → List (List ℕ)
asked_list found = list_of (query_of found) found.tables found.best

-- its members that are within the limit
abbrev pub members_of : AcceptedInput → List (List ℕ)
members_of found = cut (query_of found).limit (asked_list found)

-- the members of all branches, in the order of the union, that are within the limit
abbrev pub tagged_of : AcceptedInput → List Tagged
tagged_of found = cut (query_of found).limit (union_of found.queries found.tables)

-- the header, and then a record for each of these members: those of the list, or those of all
-- branches if there are several
abbrev pub answers_text : Words → AcceptedInput → List ℕ
answers_text words found =
    if is_union found then union_output_of found.queries found.tables (style_of words)
    (tagged_of found)
    else output_of (query_of found) found.tables (style_of words) (members_of found)

-- The output of `run` is the answers, and so is that of `verify`. That of `plan` is the report of
-- the join tree, that of `session` is what the steps of its script print of the members of the
-- list, that of `load` is their summary, and that of `prove` is the text of a certificate.
abbrev pub HasOutput : Command → AcceptedInput → List ℕ → Type 0
HasOutput (run words) found text = text ≡ answers_text words found
HasOutput (plan words) found text = text
    ≡ report_of (query_of found) found.tables (structure_of found)
HasOutput (session script words) found text =
    text ≡ session_text (query_of found) found.tables (style_of words)
    (members_of found) found.steps
HasOutput (load number rows) found text = text
    ≡ summary_text (query_of found) found.tables (members_of found)
HasOutput (prove words) found text = IsProofText (query_of found) found.tables text
HasOutput (verify proof words) found text = text ≡ answers_text words found
