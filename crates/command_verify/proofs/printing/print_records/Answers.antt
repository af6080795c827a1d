use Rattle.std.proofs.Common.{◌≡◌, ◌≤◌, List, ℕ, Err, Ok, length, take, subst, sym, rules}
use Rattle.std.proofs.lemmas.List.Folds.{flat_map-map}
use Rattle.anyk_model.specs.Output.{line_text}
use Rattle.answer_print.specs.StyleView.{style_view}
use Rattle.outer_io.specs.Printing.{Printed}
use Rattle.outer_io.specs.SinkState.{state_of}
use Rattle.command_verify.proofs.Records.{all_printed, cut_short, one_more}
use Rattle.command_verify.proofs.printing.print_records.Goals as goal

pub returns-in_err-print_answer : goal.returns-in_err-print_answer
returns-in_err-print_answer g c =
    let n = length c.args.query.now.query.items in
    let line = line_text c.args.query.now.query c.args.tables.now (style_view c.args.style.now) in
    let e : c.from_residual.result ≡ Err c.in_err-print_answer.field-0.0 = search rules in
    let old = state_of g.S.Sink c.args.out.now in
    let now = state_of g.S.Sink c.print_answer.new.out in
    rw e (subst (λ (text : List ℕ). Printed old now text (Err c.in_err-print_answer.field-0.0)) (sym (flat_map-map line (take n) c.args.answers.now))
    (cut_short (λ (rows : List ℕ). line (take n rows)) c.args.answers.now c.loop-answer.answer-index _ c.loop-answer-test.true
    old _ now c.in_err-print_answer.field-0.0 c.loop-answer.invariant c.in_err-print_answer.ensures))

pub loop-answer-preserved : goal.loop-answer-preserved
loop-answer-preserved g c =
    let n = length c.args.query.now.query.items in
    let line = line_text c.args.query.now.query c.args.tables.now (style_view c.args.style.now) in
    let printed = c.in_ok-print_answer.ensures in
    one_more (λ (rows : List ℕ). line (take n rows)) c.args.answers.now c.loop-answer.answer-index _ c.loop-answer-test.true
    _ _ _ c.loop-answer.invariant printed.whole printed.later

pub returns : goal.returns
returns g c =
    let n = length c.args.query.now.query.items in
    let line = line_text c.args.query.now.query c.args.tables.now (style_view c.args.style.now) in
    let old = state_of g.S.Sink c.args.out.now in
    let now = state_of g.S.Sink c.loop-answer.out in
    let end : length c.args.answers.now ≤ c.loop-answer.answer-index = search rules in
    subst (λ (text : List ℕ). Printed old now text (Ok tt)) (sym (flat_map-map line (take n) c.args.answers.now))
    (all_printed (λ (rows : List ℕ). line (take n rows)) c.args.answers.now c.loop-answer.answer-index old now end c.loop-answer.invariant)
