-- An input is loaded in at most one way, and has at most one verdict.
use Rattle.std.proofs.Common.{◌≡◌, ◌≢◌, ◌+◌, ℕ, Bool, true, false, List, [], ◌∷◌, Option, Result, Ok, Err, inl, inr, refl, ap, subst, sym, ◌∙◌}
use Rattle.outer_io.specs.Files.{Files}
use Rattle.query_parse.specs.declared.fault.ParseFault.{ParseFault}
use Rattle.query_parse.specs.declared.fault.ParseFault.TheVariants.{NoMemory as out_of_memory}
use Rattle.query_select.specs.declared.select.Select.{Select}
use Rattle.query_parse.specs.Parse.{Agree, Parses, ParsesAll}
use Rattle.query_parse.proofs.Exactly.{parses_agree, parses_all_agree}
use Rattle.bound_query.specs.Shape.{Flaw, Shape}
use Rattle.bound_query.proofs.OneShape.{one_shape}
use Rattle.anyk_model.specs.Query.{Query}
use Rattle.anyk_model.specs.Table.{Table}
use Rattle.refusals.specs.Reason.{Reason, Usage}
use Rattle.verdict.specs.MadeFiles.{files_of}
use Rattle.proof_model.specs.Certificate.{Certificate}
use Rattle.proof_model.specs.QueryProblem.{problem_of}
use Rattle.proof_model.specs.Faults.{fault_of}
use Rattle.proof_model.specs.Valid.{Flaw as ProofFlaw}
use Rattle.proof_model.proofs.OneFlaw.{one_flaw}
use Rattle.proof_model.proofs.QueryLaws.{no_flaw}
use Rattle.verdict.specs.Words.{Asked, Command, InputFiles, no_command, a_command, run, plan, session, load, prove, verify, input_files_of}
use Rattle.verdict.specs.Faults.{of_parse, of_proof, of_shape}
use Rattle.verdict.specs.Laws.{OneLoading, OneVerdict}
use Rattle.verdict.specs.Loading.{SideInput, IsParse, IsParseAll, IsReading, Loaded, are_several, branches_of, loaded_in, told_branch}
use Rattle.verdict.specs.AcceptedInput.{AcceptedInput, found_of, query_of, structure_of}
use Rattle.verdict.specs.Stages.{Then, Is, refused, followed, AtMostOne}
use Rattle.verdict.specs.Verdict.{AreStructures, IsAccompanied, IsBoundInput, IsRead, IsSelected, IsShaped, IsStructure, IsStructured, IsTabled, IsVerdict, IsCertified, IsVerified}

-- a stage that computes
pub one_computed : {A : Type 0} (r : Result A Reason) → AtMostOne (Is r)
one_computed r x y p q = p ∙ sym q

found_same : {A : Type 0} {a b : A} → ◌≡◌ {A = Result A Reason} (Ok a) (Ok b) → a ≡ b
found_same e = cc

refused_same : {A B : Type 0} {a b : Reason} → ◌≡◌ {A = Result A Reason} (Err a) (Err b) → ◌≡◌ {A = Result B Reason} (Err a) (Err b)
refused_same e = cc

no_both : {A : Type 0} {a : A} {b : Reason} → ◌≡◌ {A = Result A Reason} (Err b) (Ok a) → ⊥
no_both e = cc

-- two stages
pub one_then : {A B : Type 0} (First : Result A Reason → Type 0) (Second : A → Result B Reason → Type 0)
    → AtMostOne First → ((a : A) → AtMostOne (Second a)) → AtMostOne (Then First Second)
one_then First Second f s _ _ (refused h) (refused k) = refused_same (f _ _ h k)
one_then First Second f s _ _ (refused h) (followed k y) = absurd (no_both (f _ _ h k))
one_then First Second f s _ _ (followed h x) (refused k) = absurd (no_both (f _ _ k h))
one_then First Second f s result other (followed {a} h x) (followed {a = b} k y) =
    s b result other (subst (λ c. Second c result) (found_same (f _ _ h k)) x) y

-- the parse of the query, or of its branches
module _ {A : Type 0} where
  abbrev Answered : Result A ParseFault → Result A ParseFault → Type 0
  Answered a b = a ≡ b

  agreed : (a b : Result A ParseFault) → a ≢ Err out_of_memory → b ≢ Err out_of_memory → Agree a b → a ≡ b
  agreed a b no_a no_b (inl e) = absurd (no_a e)
  agreed a b no_a no_b (inr (inl e)) = absurd (no_b e)
  agreed a b no_a no_b (inr (inr e)) = e

  one_fault : {a b : ParseFault} → Answered (Err a) (Err b) → a ≡ b
  one_fault e = cc

  is_found : (a : A) → Answered (Ok a) (Err out_of_memory) → ⊥
  is_found a e = cc

  is_fault : (fault : ParseFault) → fault ≢ out_of_memory → Answered (Err fault) (Err out_of_memory) → ⊥
  is_fault fault some e = some (one_fault e)

  one_found : {a b : A} → Answered (Ok a) (Ok b) → ◌≡◌ {A = Result A Reason} (Ok a) (Ok b)
  one_found e = cc

  no_two : {B : Type 0} {a : A} {b : ParseFault} → Answered (Err b) (Ok a) → B
  no_two e = cc

  -- a result of parsing, and the reason that it tells
  module _ (Parsed : Result A ParseFault → Type 0) (agree : (a b : Result A ParseFault) → Parsed a → Parsed b → Agree a b) where
    abbrev Told : Reason → Type 0
    Told reason = (fault : ParseFault) × Parsed (Err fault) × (fault ≢ out_of_memory) × (reason ≡ of_parse fault)

    both_found : (a b : A) → Parsed (Ok a) → Parsed (Ok b) → ◌≡◌ {A = Result A Reason} (Ok a) (Ok b)
    both_found a b h k = one_found (agreed _ _ (is_found a) (is_found b) (agree (Ok a) (Ok b) h k))

    not_both : {B : Type 0} (a : A) (reason : Reason) → Parsed (Ok a) → Told reason → B
    not_both a reason h (fault, faults, some, is) =
        no_two (agreed _ _ (is_fault fault some) (is_found a) (agree (Err fault) (Ok a) faults h))

    both_told : (a b : Reason) → Told a → Told b → ◌≡◌ {A = Result A Reason} (Err a) (Err b)
    both_told a b (fault, faults, some, is) (fault', faults', some', is') =
        let same : fault ≡ fault' = one_fault (agreed _ _ (is_fault fault some) (is_fault fault' some') (agree (Err fault) (Err fault') faults faults')) in
        ap Err (is ∙ ap of_parse same ∙ sym is')

pub one_parse : (bytes : List ℕ) → AtMostOne (IsParse bytes)
one_parse bytes (Ok a) (Ok b) h k = both_found (Parses bytes) (parses_agree bytes) a b h k
one_parse bytes (Ok a) (Err b) h k = not_both (Parses bytes) (parses_agree bytes) a b h k
one_parse bytes (Err a) (Ok b) h k = not_both (Parses bytes) (parses_agree bytes) b a k h
one_parse bytes (Err a) (Err b) h k = both_told (Parses bytes) (parses_agree bytes) a b h k

pub one_parse_all : (bytes : List ℕ) → AtMostOne (IsParseAll bytes)
one_parse_all bytes (Ok a) (Ok b) h k = both_found (ParsesAll bytes) (parses_all_agree bytes) a b h k
one_parse_all bytes (Ok a) (Err b) h k = not_both (ParsesAll bytes) (parses_all_agree bytes) a b h k
one_parse_all bytes (Err a) (Ok b) h k = not_both (ParsesAll bytes) (parses_all_agree bytes) b a k h
one_parse_all bytes (Err a) (Err b) h k = both_told (ParsesAll bytes) (parses_all_agree bytes) a b h k

pub one_reading : (several : Bool) (bytes : List ℕ) → AtMostOne (IsReading several bytes)
one_reading true bytes = one_then _ _ (one_parse_all bytes) (λ all. one_computed (Ok (branches_of all)))
one_reading false bytes = one_then _ _ (one_parse bytes) (λ select. one_computed (Ok (select ∷ [])))

-- the structure
abbrev Shaped : Result Shape Flaw → Result Shape Flaw → Type 0
Shaped a b = a ≡ b

no_shape : {A : Type 0} {shape : Shape} {flaw : Flaw} → Shaped (Ok shape) (Err flaw) → A
no_shape e = cc

same_shape : {a b : Shape} → Shaped (Ok a) (Ok b) → a ≡ b
same_shape e = cc

same_flaw : {a b : Flaw} → Shaped (Err a) (Err b) → a ≡ b
same_flaw e = cc

one_structure : (branch : Option ℕ) (tables : List Table) (query : Query) → AtMostOne (IsStructure branch tables query)
one_structure branch tables query (Ok a) (Ok b) h k = ap Ok (same_shape (one_shape query tables (Ok a) (Ok b) h k))
one_structure branch tables query (Ok a) (Err b) h k = no_shape (one_shape query tables (Ok a) (Err k.flaw) h k.is_flaw)
one_structure branch tables query (Err a) (Ok b) h k = no_shape (one_shape query tables (Ok b) (Err h.flaw) k h.is_flaw)
one_structure branch tables query (Err a) (Err b) h k =
    let same = same_flaw (one_shape query tables (Err h.flaw) (Err k.flaw) h.is_flaw k.is_flaw) in
    ap Err (h.told ∙ ap (of_shape branch) same ∙ sym k.told)

one_structures : (several : Bool) (number : ℕ) (tables : List Table) (queries : List Query) → AtMostOne (AreStructures several number tables queries)
one_structures several number tables [] = one_computed (Ok [])
one_structures several number tables (query ∷ queries) =
    one_then _ _ (one_structure (told_branch several number) tables query)
    (λ shape. one_then _ _ (one_structures several (number + 1) tables queries) (λ shapes. one_computed (Ok (shape ∷ shapes))))

one_shaped : (loaded : Loaded) → AtMostOne (IsShaped loaded)
one_shaped loaded =
    one_then _ _ (one_structures (are_several loaded.queries) 1 loaded.tables loaded.queries) (λ shapes. one_computed (Ok (found_of loaded shapes)))

-- the stages of loading
one_bound : (sought : InputFiles) (selects : List Select) (tables : List Table) (beside : SideInput) → AtMostOne (IsBoundInput sought selects tables beside)
one_bound sought selects tables beside = one_then _ _ (one_computed _) (λ queries. one_computed (loaded_in sought.best_of queries tables beside))

one_tabled : (sought : InputFiles) (files : Files) (selects : List Select) (beside : SideInput) → AtMostOne (IsTabled sought files selects beside)
one_tabled sought files selects beside = one_then _ _ (one_computed _) (λ tables. one_bound sought selects tables beside)

one_selected : (sought : InputFiles) (files : Files) (selects : List Select) (beside : SideInput) → AtMostOne (IsSelected sought files selects beside)
one_selected sought files selects beside = one_then _ _ (one_computed _) (λ known. one_tabled sought files known beside)

one_accompanied : (sought : InputFiles) (files : Files) (selects : List Select) → AtMostOne (IsAccompanied sought files selects)
one_accompanied sought files selects = one_then _ _ (one_computed _) (one_selected sought files selects)

one_read : (sought : InputFiles) (files : Files) (bytes : List ℕ) → AtMostOne (IsRead sought files bytes)
one_read sought files bytes = one_then _ _ (one_reading sought.several bytes) (one_accompanied sought files)

pub one_loading : OneLoading
one_loading no_command files = one_computed (Err Usage)
one_loading (a_command command) files = one_then _ _ (one_computed _) (one_read (input_files_of command) (files_of command files))

-- the certificate
one_certified : (query : Query) (tables : List Table) (shape : Shape) (proof : Certificate)
    → AtMostOne (IsCertified query tables shape proof)
one_certified query tables shape proof (Ok a) (Ok b) h k = refl
one_certified query tables shape proof (Ok a) (Err b) h k =
    absurd (no_flaw (problem_of query tables shape.atoms shape.parents) proof query.limit h k.0 k.2.holds)
one_certified query tables shape proof (Err a) (Ok b) h k =
    absurd (no_flaw (problem_of query tables shape.atoms shape.parents) proof query.limit k h.0 h.2.holds)
one_certified query tables shape proof (Err a) (Err b) h k =
    let same = one_flaw (problem_of query tables shape.atoms shape.parents) proof query.limit h.0 k.0 h.2 k.2 in
    ap Err (h.1 ∙ ap (λ (flaw : ProofFlaw). of_proof (fault_of (problem_of query tables shape.atoms shape.parents) proof flaw)) same
    ∙ sym k.1)

one_verified : (found : AcceptedInput) → AtMostOne (IsVerified found)
one_verified found =
    one_then _ _ (one_certified (query_of found) found.tables (structure_of found) found.proof) (λ done. one_computed (Ok found))

-- all together
one_structured : (asked : Asked) (files : Files) → AtMostOne (IsStructured asked files)
one_structured asked files = one_then _ _ (one_loading asked files) one_shaped

pub one_verdict : OneVerdict
one_verdict (a_command (verify proof words)) files = one_then _ _ (one_structured (a_command (verify proof words)) files) one_verified
one_verdict no_command files = one_structured no_command files
one_verdict (a_command (run words)) files = one_structured (a_command (run words)) files
one_verdict (a_command (plan words)) files = one_structured (a_command (plan words)) files
one_verdict (a_command (session script words)) files = one_structured (a_command (session script words)) files
one_verdict (a_command (load number rows)) files = one_structured (a_command (load number rows)) files
one_verdict (a_command (prove words)) files = one_structured (a_command (prove words)) files

-- the verdict on arguments that are not a command
abbrev Same : Asked → Asked → Type 0
Same a b = a ≡ b

differ_built_none : {A : Type 0} {k : Command} → Same (a_command k) no_command → A
differ_built_none h = cc

pub usage_verdict : (files : Files) (asked : Asked) (result : Result AcceptedInput Reason) → asked ≡ no_command → IsVerdict asked files result → result ≡ Err Usage
usage_verdict files no_command _ e (refused h) = refused_same h
usage_verdict files no_command result e (followed h k) = absurd (no_both (sym h))
usage_verdict files (a_command command) result e v = differ_built_none e
