use Rattle.std.proofs.Common.{Result, Ok, Err, List, ℕ, ◌∙◌, ap}
use Rattle.std.specs.Prelude.{IfOk}
use Rattle.std.proofs.lemmas.Result.{err_from_is_err_and}
use Rattle.query_parse.specs.declared.fault.ParseFault.{ParseFault}
use Rattle.query_select.specs.declared.select.Select.{Select}
use Rattle.query_select.specs.Lexeme.{lexemes}
use Rattle.query_parse.specs.Reading.{Clauses, some_lexeme}
use Rattle.query_parse.specs.Parse.{Agree, Parses}
use Rattle.query_parse.proofs.Answered.{fails_faults, says_read, limit_faults, parsed}
use Rattle.query_select.specs.TextOrder.{columns_of, AreInTextOrder, ItemsAreInTextOrder}
use Rattle.query_parse.proofs.Exactly.{parses_agree}
use Rattle.query_parse.proofs.InOrder.{parsed_in_order, parsed_items_in_order}
use Rattle.query_parse.proofs.Sections.{query_gives}
use Rattle.query_parse.proofs.parsing.parse.Goals as goal

-- a result that is sound is exact and in order
record All (bytes : List ℕ) (r : Result Select ParseFault) : Type 0 where
  sound : Parses bytes r
  exact : (other : Result Select ParseFault) → Parses bytes other → Agree other r
  ordered : IfOk r (λ select. AreInTextOrder (columns_of select))
  items_ordered : IfOk r (λ select. ItemsAreInTextOrder select.items)

in_order : (bytes : List ℕ) (r : Result Select ParseFault) → Parses bytes r → IfOk r (λ select. AreInTextOrder (columns_of select))
in_order bytes (Ok select) h = parsed_in_order bytes select h
in_order bytes (Err e) h = tt

items_in_order : (bytes : List ℕ) (r : Result Select ParseFault) → Parses bytes r → IfOk r (λ select. ItemsAreInTextOrder select.items)
items_in_order bytes (Ok select) h = parsed_items_in_order bytes select h
items_in_order bytes (Err e) h = tt

all : (bytes : List ℕ) (r : Result Select ParseFault) → Parses bytes r → All bytes r
all bytes r h = record { sound = h; exact = λ other k. parses_agree bytes other r k h; ordered = in_order bytes r h; items_ordered = items_in_order bytes r h }

pub returns-in_err-select : goal.returns-in_err-select
returns-in_err-select c =
    let p = err_from_is_err_and c.from_residual-in_err-select.result c.from_residual-in_err-select.ensures.1 in
    let is = ap lexemes c.as_slice.ensures.value ∙ c.in_ok-tokens.ensures in
    let b = all c.args.bytes.now (Err c.in_err-select.field-0.0) (fails_faults c.args.bytes.now c.in_err-select.field-0.0 (lexemes c.as_slice.result.now) c.if-bytes-gt-MAX_BYTES.false is (query_gives _ (λ r. lexemes r.now) some_lexeme (lexemes c.as_slice.result.now) c.read.result (Err c.in_err-select.field-0.0) c.read.ensures c.in_err-select.ensures)) in
    rw (p.1, p.2) (record { sound = b.sound; exact = b.exact; ordered = b.ordered; items_ordered = b.items_ordered })

pub returns-in_err-select-2 : goal.returns-in_err-select-2
returns-in_err-select-2 c =
    let p = err_from_is_err_and c.from_residual-in_err-select-2.result c.from_residual-in_err-select-2.ensures.1 in
    let is = ap lexemes c.as_slice.ensures.value ∙ c.in_ok-tokens.ensures in
    let x : Clauses = (c.in_ok-select.select, some_lexeme c.in_ok-select.digits) in
    let says = says_read c.args.bytes.now (lexemes c.as_slice.result.now) x c.if-bytes-gt-MAX_BYTES.false is (query_gives _ (λ r. lexemes r.now) some_lexeme (lexemes c.as_slice.result.now) c.read.result (Ok (c.in_ok-select.select, c.in_ok-select.digits)) c.read.ensures c.in_ok-select.ensures) in
    let b = all c.args.bytes.now (Err c.in_err-select-2.field-0.0) (limit_faults c.args.bytes.now c.in_err-select-2.field-0.0 x says c.in_err-select-2.ensures) in
    rw (p.1, p.2) (record { sound = b.sound; exact = b.exact; ordered = b.ordered; items_ordered = b.items_ordered })

pub returns : goal.returns
returns c =
    let is = ap lexemes c.as_slice.ensures.value ∙ c.in_ok-tokens.ensures in
    let x : Clauses = (c.in_ok-select.select, some_lexeme c.in_ok-select.digits) in
    let says = says_read c.args.bytes.now (lexemes c.as_slice.result.now) x c.if-bytes-gt-MAX_BYTES.false is (query_gives _ (λ r. lexemes r.now) some_lexeme (lexemes c.as_slice.result.now) c.read.result (Ok (c.in_ok-select.select, c.in_ok-select.digits)) c.read.ensures c.in_ok-select.ensures) in
    let b = all c.args.bytes.now (Ok (record x.0 { limit = c.in_ok-select-2.field-0 })) (parsed c.args.bytes.now c.in_ok-select-2.field-0 x says c.in_ok-select-2.ensures) in
    record { sound = b.sound; exact = b.exact; ordered = b.ordered; items_ordered = b.items_ordered }
