-- The faults of the parts as refusals of their stages.
use Rattle.std.proofs.Common.{◌≡◌, inl, inr, ℕ, List, Option, Some, None, option_map, Err, ap, refl, sym, ◌≤◌, ◌∷◌, ◌++◌, [], true, false, Ok, arith, subst, length, map, ◌∙◌}
use Rattle.std.proofs.lemmas.List.{length-append, length-map}
use Rattle.std.specs.List.{AllByRecursion}
use Rattle.query_parse.specs.declared.fault.ParseFault.{ParseFault}
use Rattle.query_parse.specs.declared.fault.ParseFault.TheVariants as parse
use Rattle.query_parse.specs.Parse.{IsParsed, IsParsedAll, Parses, ParsesAll, items_in}
use Rattle.query_bind.specs.declared.fault.BindFault.{BindFault}
use Rattle.query_bind.specs.declared.fault.BindFault.TheVariants as bind
use Rattle.query_bind.specs.Answers.{IsBindFault}
use Rattle.csv_tables.specs.declared.fault.TableFault.{TableFault}
use Rattle.csv_tables.specs.Faults.{fault_of}
use Rattle.csv_tables.specs.Faults as tables
use Rattle.anyk_model.specs.Query.{Query}
use Rattle.anyk_model.specs.Table.{Flaw, Table, flaw_of, records_of, table_of, no_header, too_many_columns, duplicate_name, too_many_rows, ragged}
use Rattle.session_script.specs.declared.script_fault.ScriptFault.{ScriptFault}
use Rattle.session_script.specs.declared.script_fault.ScriptFault.TheVariants as script
use Rattle.proof_model.specs.declared.fault.ProofFault.{ProofFault}
use Rattle.proof_model.specs.declared.fault.ProofFault.TheVariants as proof
use Rattle.proof_model.specs.Reading.{IsProofFault as FailsToRead, proof_of}
use Rattle.session_script.specs.Script.{IsScriptFault, steps_of}
use Rattle.verdict.specs.Faults.{of_bind, of_flaw, of_parse, of_proof, of_script}
use Rattle.verdict.specs.Loading.{IsParse, IsParseAll, IsReading, all_items, branches_of, proof_said, sound_table, steps_said, told_proof, told_steps}
use Rattle.session_script.specs.Script.{unless}
use Rattle.verdict.specs.Stages.{Is, followed}
use Rattle.verdict.proofs.Staging.{pure_refused}
use Rattle.verdict.specs.StageResults.{Pure}
use Rattle.command_input.specs.Entries.{table_after}
use Rattle.command_input.specs.Limits.{AreWithinLimits, IsWithinLimits}
use Rattle.command_input.specs.StageViews.{table_reason}
use Rattle.command_input.proofs.AllItems.{all_items_cons}
use Rattle.query_parse.specs.Grammar.{IsBranch, IsItems, IsQuery, branch, items, query}
use Rattle.query_parse.specs.Reading.{Clauses}
use Rattle.query_select.specs.Lexeme.{Lexeme}
use Rattle.query_select.specs.declared.select.Equality.{Equality}
use Rattle.query_select.specs.declared.select.ItemRef.{ItemRef}
use Rattle.query_select.specs.declared.select.Select.{Select}
use Rattle.query_select.specs.declared.select.SelectAll.{SelectAll}

-- a fault of the parser
parse_told : (bytes : List ℕ) (fault : ParseFault) → Parses bytes (Err fault) → Pure (IsParse bytes) (Err (of_parse fault))
parse_told bytes parse.TooLong h = (parse.TooLong, h, (λ e. cc), refl)
parse_told bytes (parse.Syntax at) h = (parse.Syntax at, h, (λ e. cc), refl)
parse_told bytes parse.TooManyBranches h = (parse.TooManyBranches, h, (λ e. cc), refl)
parse_told bytes parse.TooManyItems h = (parse.TooManyItems, h, (λ e. cc), refl)
parse_told bytes parse.TooManyKeys h = (parse.TooManyKeys, h, (λ e. cc), refl)
parse_told bytes (parse.LimitRange at) h = (parse.LimitRange at, h, (λ e. cc), refl)
parse_told bytes parse.NoMemory h = tt

parse_all_told : (bytes : List ℕ) (fault : ParseFault) → ParsesAll bytes (Err fault) → Pure (IsParseAll bytes) (Err (of_parse fault))
parse_all_told bytes parse.TooLong h = (parse.TooLong, h, (λ e. cc), refl)
parse_all_told bytes (parse.Syntax at) h = (parse.Syntax at, h, (λ e. cc), refl)
parse_all_told bytes parse.TooManyBranches h = (parse.TooManyBranches, h, (λ e. cc), refl)
parse_all_told bytes parse.TooManyItems h = (parse.TooManyItems, h, (λ e. cc), refl)
parse_all_told bytes parse.TooManyKeys h = (parse.TooManyKeys, h, (λ e. cc), refl)
parse_all_told bytes (parse.LimitRange at) h = (parse.LimitRange at, h, (λ e. cc), refl)
parse_all_told bytes parse.NoMemory h = tt

-- what the parser found or refused, as the stage of reading
pub one_refused : (bytes : List ℕ) (fault : ParseFault) → Parses bytes (Err fault) → Pure (IsReading false bytes) (Err (of_parse fault))
one_refused bytes fault h = pure_refused (IsParse bytes) (λ select. Is (Ok (select ∷ []))) (of_parse fault) (parse_told bytes fault h)

pub branches_refused : (bytes : List ℕ) (fault : ParseFault) → ParsesAll bytes (Err fault) → Pure (IsReading true bytes) (Err (of_parse fault))
branches_refused bytes fault h = pure_refused (IsParseAll bytes) (λ all. Is (Ok (branches_of all))) (of_parse fault) (parse_all_told bytes fault h)

pub one_read : (bytes : List ℕ) (select : Select) (selects : List Select) → Parses bytes (Ok select) → selects ≡ select ∷ [] → IsReading false bytes (Ok selects)
one_read bytes select selects h is = followed {a = select} h (ap Ok is)

pub branches_read : (bytes : List ℕ) (all : SelectAll) (selects : List Select) → ParsesAll bytes (Ok all) → selects ≡ branches_of all → IsReading true bytes (Ok selects)
branches_read bytes all selects h is = followed {a = all} h (ap Ok is)

-- the first fault of binding
bind_fault_refused : (told : Option ℕ) (bound : Query) (fault : BindFault) → Pure (Is (unless (Some (of_bind told fault)) bound)) (Err (of_bind told fault))
bind_fault_refused told bound (bind.DuplicateAlias item) = refl
bind_fault_refused told bound (bind.UnknownAlias at) = refl
bind_fault_refused told bound (bind.UnknownColumn at) = refl
bind_fault_refused told bound (bind.Ambiguous at) = refl
bind_fault_refused told bound (bind.BadWeight item row column) = refl
bind_fault_refused told bound (bind.RankRange key) = refl
bind_fault_refused told bound bind.NoMemory = tt

pub bind_refused : (told : Option ℕ) (first : Option BindFault) (bound : Query) (fault : BindFault) → IsBindFault first fault
    → Pure (Is (unless (option_map (of_bind told) first) bound)) (Err (of_bind told fault))
bind_refused told first bound fault (inl e) = rw e tt
bind_refused told first bound fault (inr e) = rw e (bind_fault_refused told bound fault)

pub script_refused : (bytes : List ℕ) (fault : ScriptFault) → IsScriptFault (steps_of bytes) fault → Pure (Is (steps_said bytes)) (Err (of_script fault))
script_refused bytes fault (inl e) = rw e tt
script_refused bytes script.NoMemory (inr e) = tt
script_refused bytes script.TooManyLines (inr e) = sym (ap told_steps e)
script_refused bytes (script.BadLine line) (inr e) = sym (ap told_steps e)
script_refused bytes (script.UnknownCursor line) (inr e) = sym (ap told_steps e)
script_refused bytes (script.CursorExists line) (inr e) = sym (ap told_steps e)
script_refused bytes (script.TooManyOpen line) (inr e) = sym (ap told_steps e)

pub proof_refused : (bytes : List ℕ) (fault : ProofFault) → FailsToRead (proof_of bytes) fault → Pure (Is (proof_said bytes)) (Err (of_proof fault))
proof_refused bytes fault (inl e) = rw e tt
proof_refused bytes proof.NoMemory (inr e) = tt
proof_refused bytes proof.BadHeader (inr e) = sym (ap told_proof e)
proof_refused bytes (proof.BadLine line) (inr e) = sym (ap told_proof e)
proof_refused bytes (proof.TooManyRows most) (inr e) = sym (ap told_proof e)
proof_refused bytes (proof.BadBound line) (inr e) = sym (ap told_proof e)
proof_refused bytes (proof.BoundTwice line) (inr e) = sym (ap told_proof e)
proof_refused bytes (proof.Weak node) (inr e) = sym (ap told_proof e)
proof_refused bytes (proof.BadAnswer line) (inr e) = sym (ap told_proof e)
proof_refused bytes (proof.Order line) (inr e) = sym (ap told_proof e)
proof_refused bytes proof.Count (inr e) = sym (ap told_proof e)
proof_refused bytes proof.Missed (inr e) = sym (ap told_proof e)

-- the first flaw of a table
flaw_refused : (name : List ℕ) (old : List Table) (t : Table) (flaw : Flaw)
    → Pure (Is (table_after old (unless (Some (of_flaw name flaw)) t))) (Err (table_reason name (fault_of flaw)))
flaw_refused name old t no_header = refl
flaw_refused name old t too_many_columns = refl
flaw_refused name old t (duplicate_name column) = refl
flaw_refused name old t too_many_rows = refl
flaw_refused name old t (ragged row) = refl

pub table_refused : (name : List ℕ) (old : List Table) (t : Table) (first : Option Flaw) (fault : TableFault) → tables.IsTableFault first fault
    → Pure (Is (table_after old (unless (option_map (of_flaw name) first) t))) (Err (table_reason name fault))
table_refused name old t first fault (inl e) = rw e tt
table_refused name old t None fault (inr e) = cc
table_refused name old t (Some flaw) fault (inr e) =
    let is : fault_of flaw ≡ fault = cc in
    rw (sym is) (flaw_refused name old t flaw)

-- a table without a flaw
pub table_added : (name bytes : List ℕ) (old new : List Table) → new ≡ old ++ table_of (records_of bytes) ∷ [] → flaw_of (records_of bytes) ≡ None
    → Pure (Is (table_after old (sound_table name bytes))) (Ok new)
table_added name bytes old new is sound =
    let t = table_of (records_of bytes) in
    ap Ok is ∙ sym (ap (λ (o : Option Flaw). table_after old (unless (option_map (of_flaw name) o) t)) sound)

-- a query has at least one item
some_items : {ts rest : List Lexeme} {r : List ItemRef × List Equality} → IsItems ts rest r → 1 ≤ length r.0
some_items (items one others) = omega arith

some_branch : {ts rest : List Lexeme} {s : Select} → IsBranch ts rest s → 1 ≤ length s.items
some_branch (branch s l f i w o) = some_items i

some_clauses : {ts : List Lexeme} {x : Clauses} → IsQuery ts x → 1 ≤ length x.0.items
some_clauses (query b l e) = some_branch b

parsed_limits : (bytes : List ℕ) (select : Select) → IsParsed bytes select → IsWithinLimits select
parsed_limits bytes select h =
    let P : Select → Type 0 = λ s. 1 ≤ length s.items in
    record { some = subst P (sym h.is) (some_clauses h.says.query); items = h.items; keys = h.keys }

pub one_limits : (bytes : List ℕ) (select : Select) → IsParsed bytes select → AreWithinLimits (select ∷ [])
one_limits bytes select h = record { some = omega arith; few = omega arith; each = (parsed_limits bytes select h, tt); items = h.items }

items_counted : (selects : List Select) → items_in selects ≡ length (all_items selects)
items_counted [] = refl
items_counted (select ∷ selects) =
    let later = items_counted selects in
    let whole : length (all_items (select ∷ selects)) ≡ length (select.items ++ all_items selects) = ap length (all_items_cons select selects) in
    let both = length-append select.items (all_items selects) in
    omega (arith, later, whole, both)

-- no more branches than a query may have, and no more items in all of them
all_limits : (bytes : List ℕ) (all : SelectAll) → IsParsedAll bytes all → (length all.branches ≤ 8) × (length (all_items all.branches) ≤ 16)
all_limits bytes all h =
    let counted = items_counted all.branches in
    let items = h.items in
    (h.branches, omega (arith, counted, items))

-- the limits of the branches change nothing else
limited_items : (limit : Option ℕ) (selects : List Select) → all_items (map (λ (s : Select). record s { limit = limit }) selects) ≡ all_items selects
limited_items limit [] = refl
limited_items limit (select ∷ []) = refl
limited_items limit (select ∷ other ∷ selects) = ap (λ (l : List ItemRef). select.items ++ l) (limited_items limit (other ∷ selects))

limited_each : (limit : Option ℕ) (selects : List Select) → AllByRecursion (λ (s : Select). (1 ≤ length s.items) × ((length s.items ≤ 16) × (length s.keys ≤ 8))) selects
    → AllByRecursion IsWithinLimits (map (λ (s : Select). record s { limit = limit }) selects)
limited_each limit [] all = tt
limited_each limit (select ∷ selects) all =
    (record { some = all.0.0; items = all.0.1.0; keys = all.0.1.1 }, limited_each limit selects all.1)

pub branches_limits : (bytes : List ℕ) (all : SelectAll) → IsParsedAll bytes all → 1 ≤ length all.branches
    → AllByRecursion (λ (s : Select). (1 ≤ length s.items) × ((length s.items ≤ 16) × (length s.keys ≤ 8))) all.branches → AreWithinLimits (branches_of all)
branches_limits bytes all h some filled =
    let limits = all_limits bytes all h in
    let few = limits.0 in
    let items = limits.1 in
    let as_many = length-map all.branches (λ (s : Select). record s { limit = all.limit }) in
    let as_many_items = ap length (limited_items all.limit all.branches) in
    record {
      some = omega (arith, some, as_many);
      few = omega (arith, few, as_many);
      each = limited_each all.limit all.branches filled;
      items = omega (arith, items, as_many_items);
    }
