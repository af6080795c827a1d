use Rattle.std.proofs.Common.{Result, Ok, Err, List, ℕ, ◌≤◌, length, ◌∙◌, ap, subst, sym}
use Rattle.std.specs.Prelude.{IfOk}
use Rattle.std.specs.List.{AllByRecursion}
use Rattle.std.proofs.lemmas.Result.{err_from_is_err_and}
use Rattle.query_parse.specs.declared.fault.ParseFault.{ParseFault}
use Rattle.query_select.specs.declared.select.Select.{Select}
use Rattle.query_select.specs.declared.select.SelectAll.{SelectAll}
use Rattle.query_select.specs.Lexeme.{lexemes}
use Rattle.query_parse.specs.Reading.{Branches, some_lexeme}
use Rattle.query_parse.specs.Parse.{Agree, LimitsAll, ParsesAll}
use Rattle.query_parse.proofs.Answered.{fails_faults_all, says_all_read, limit_faults_all, parsed_all}
use Rattle.query_select.specs.TextOrder.{columns_of, AreInTextOrder, ItemsAreInTextOrder}
use Rattle.query_parse.proofs.Exactly.{parses_all_agree}
use Rattle.query_parse.proofs.InOrder.{all_in_order, all_items_in_order, all_some}
use Rattle.query_parse.proofs.Limited.{IsFilled, each_filled}
use Rattle.query_parse.proofs.Sections.{queries_give}
use Rattle.query_parse.proofs.Stepping.{branch_steps}
use Rattle.query_parse.proofs.parsing.parse_all.Goals as goal

-- a result that is sound is exact and in order
record All (bytes : List ℕ) (r : Result SelectAll ParseFault) : Type 0 where
  sound : ParsesAll bytes r
  exact : (other : Result SelectAll ParseFault) → ParsesAll bytes other → Agree other r
  ordered : IfOk r (λ all. AllByRecursion (λ s. AreInTextOrder (columns_of s)) all.branches)
  items_ordered : IfOk r (λ all. AllByRecursion (λ (s : Select). ItemsAreInTextOrder s.items) all.branches)
  some : IfOk r (λ all. 1 ≤ length all.branches)
  filled : IfOk r (λ all. AllByRecursion IsFilled all.branches)

all_of_queries : (bytes : List ℕ) (all : SelectAll) → ParsesAll bytes (Ok all) → All bytes (Ok all)
all_of_queries bytes all h =
    let there = all_some bytes all h in
    record {
      sound = h;
      exact = λ other k. parses_all_agree bytes other (Ok all) k h;
      ordered = all_in_order bytes all h;
      items_ordered = all_items_in_order bytes all h;
      some = there.0;
      filled = each_filled all.branches there.1 h.items h.keys;
    }

pub several-requires : goal.several-requires
several-requires c = branch_steps

pub returns-in_err-branches : goal.returns-in_err-branches
returns-in_err-branches c =
    let p = err_from_is_err_and c.from_residual-in_err-branches.result c.from_residual-in_err-branches.ensures.1 in
    let is = ap lexemes c.as_slice.ensures.value ∙ c.in_ok-tokens.ensures in
    let bytes = c.args.bytes.now in
    let e = c.in_err-branches.field-0.0 in
    let short = c.if-bytes-gt-MAX_BYTES.false in
    let faults = fails_faults_all bytes e (lexemes c.as_slice.result.now) short is (queries_give (λ v. v.items) _ (λ r. lexemes r.now) some_lexeme (lexemes c.as_slice.result.now) c.several.result (Err e) c.several.ensures c.in_err-branches.ensures) in
    rw (p.1, p.2) (record { sound = faults; exact = λ other k. parses_all_agree bytes other (Err e) k faults; ordered = tt; items_ordered = tt; some = tt; filled = tt })

pub returns-in_err-limit : goal.returns-in_err-limit
returns-in_err-limit c =
    let p = err_from_is_err_and c.from_residual-in_err-limit.result c.from_residual-in_err-limit.ensures.1 in
    let is = ap lexemes c.as_slice.ensures.value ∙ c.in_ok-tokens.ensures in
    let x : Branches = (c.in_ok-branches.branches.items, some_lexeme c.in_ok-branches.digits) in
    let bytes = c.args.bytes.now in
    let short = c.if-bytes-gt-MAX_BYTES.false in
    let says = says_all_read bytes (lexemes c.as_slice.result.now) x short is (queries_give (λ v. v.items) _ (λ r. lexemes r.now) some_lexeme (lexemes c.as_slice.result.now) c.several.result (Ok (c.in_ok-branches.branches, c.in_ok-branches.digits)) c.several.ensures c.in_ok-branches.ensures) in
    let e = c.in_err-limit.field-0.0 in
    let limits = subst (λ (ss : List Select). LimitsAll ss x.1 (Err e)) c.as_slice-2.ensures.value c.in_err-limit.ensures in
    let faults = limit_faults_all bytes e x says limits in
    rw (p.1, p.2) (record { sound = faults; exact = λ other k. parses_all_agree bytes other (Err e) k faults; ordered = tt; items_ordered = tt; some = tt; filled = tt })

pub returns : goal.returns
returns c =
    let is = ap lexemes c.as_slice.ensures.value ∙ c.in_ok-tokens.ensures in
    let x : Branches = (c.in_ok-branches.branches.items, some_lexeme c.in_ok-branches.digits) in
    let bytes = c.args.bytes.now in
    let short = c.if-bytes-gt-MAX_BYTES.false in
    let says = says_all_read bytes (lexemes c.as_slice.result.now) x short is (queries_give (λ v. v.items) _ (λ r. lexemes r.now) some_lexeme (lexemes c.as_slice.result.now) c.several.result (Ok (c.in_ok-branches.branches, c.in_ok-branches.digits)) c.several.ensures c.in_ok-branches.ensures) in
    let limits = rw c.as_slice-2.ensures.value at c.in_ok-limit.ensures in
    let read = parsed_all bytes c.in_ok-limit.limit x says limits in
    let b = subst (λ (bs : List Select). All bytes (Ok (record { branches = bs; limit = c.in_ok-limit.limit }))) (sym c.from_vec-branches.ensures) (all_of_queries bytes (record { branches = x.0; limit = c.in_ok-limit.limit }) read) in
    record {
      sound = b.sound;
      exact = b.exact;
      ordered = b.ordered;
      items_ordered = b.items_ordered;
      some = b.some;
      filled = b.filled;
    }
