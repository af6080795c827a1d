use Rattle.std.proofs.Common.{◌≡◌, ◌<◌, ◌++◌, [], ◌∙◌, SFits, ℕ, List, false, length, map, take, ap, subst, arith, rules}
use mir.Syntax.{w128}
use mir.Val.{of_z, to_z}
use Rattle.std.proofs.lemmas.Int.{to_z-of_z}
use Rattle.std.specs.Fmt.{signed_decimal}
use Rattle.std.proofs.lemmas.List.{take_all}
use Rattle.anyk_model.specs.Query.{OrderKey, sum_of}
use Rattle.answer_print.specs.WrittenRecords.{HasFields}
use Rattle.answer_print.proofs.Pushing.{element_more}
use Rattle.answer_print.proofs.answer.push_each_sum.Goals as goal

pub loop-key-preserved : goal.loop-key-preserved
loop-key-preserved c = λ fields has.
    let query = c.args.query.now.query in
    let sum_text : OrderKey → List ℕ = λ (k : OrderKey). signed_decimal (sum_of query c.args.tables.now (take (length query.items) c.args.rows.now) k) in
    let inside : c.loop-key.key < length query.order = omega (arith, c.loop-key-test.true, c.keys-key-end.ensures.keys) in
    let fits : SFits w128 c.sum_at-sum.result = search rules in
    let sum : to_z w128 (of_z w128 c.sum_at-sum.result) ≡ c.sum_at-sum.result = simp to_z-of_z in
    let more = element_more sum_text fields query.order c.loop-key.key (record { terms = []; descending = false }) _ (ap signed_decimal (sum ∙ c.sum_at-sum.ensures)) inside in
    subst (λ (fs : List (List ℕ)). HasFields fs c.push_signed.new.records.begun) more (c.in_ok-push_signed.ensures _ (c.loop-key.invariant fields has))

pub returns : goal.returns
returns c = λ fields has.
    let query = c.args.query.now.query in
    let sum_text : OrderKey → List ℕ = λ (k : OrderKey). signed_decimal (sum_of query c.args.tables.now (take (length query.items) c.args.rows.now) k) in
    let all : take c.loop-key.key query.order ≡ query.order = take_all _ _ (omega (arith, c.loop-key-test.false, c.keys-key-end.ensures.keys)) in
    subst (λ (l : List OrderKey). HasFields (fields ++ map sum_text l) c.loop-key.records.begun) all (c.loop-key.invariant fields has)
