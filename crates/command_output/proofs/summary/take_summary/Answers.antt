use Rattle.std.proofs.Common.{length, sym, take, ◌∙◌}
use Rattle.std.proofs.lemmas.Result.{IfOk-from_err, IfOk-weaker}
use Rattle.tdp_core.specs.AnswerView.{AnswerView}
use Rattle.command_output.proofs.EndMembers.{calls_map, ends_text_lem, first_rows, last_rows}
use Rattle.command_output.proofs.summary.take_summary.Goals as goal

pub returns-in_err-ends : goal.returns-in_err-ends
returns-in_err-ends g c =
    let query = c.args.query.now.query in
    let calls = calls_map (λ (a : AnswerView). take (length query.items) a.rows) query.limit (g.E.Ranked.rest c.args.engine.now) in
    record {
      text = IfOk-from_err c.from_residual.result _ c.from_residual.ensures.0;
      bounded = rw (c.limit.ensures, sym calls) at c.take_ends.ensures.bounded;
    }

pub summary-requires-clause-first : goal.summary-requires-clause-first
summary-requires-clause-first g c =
    first_rows c.args.query.now.query c.args.tables.now c.in_ok-ends.ends (g.E.Ranked.rest c.args.engine.now) c.requires.rows
    (rw c.limit.ensures at c.in_ok-ends.ensures.ends)

pub summary-requires-clause-last : goal.summary-requires-clause-last
summary-requires-clause-last g c =
    last_rows c.args.query.now.query c.args.tables.now c.in_ok-ends.ends (g.E.Ranked.rest c.args.engine.now) c.requires.rows
    (rw c.limit.ensures at c.in_ok-ends.ensures.ends)

pub returns : goal.returns
returns g c =
    let query = c.args.query.now.query in
    let calls = calls_map (λ (a : AnswerView). take (length query.items) a.rows) query.limit (g.E.Ranked.rest c.args.engine.now) in
    let same = ends_text_lem query c.args.tables.now c.in_ok-ends.ends (g.E.Ranked.rest c.args.engine.now) c.requires.rows
    (rw c.limit.ensures at c.in_ok-ends.ensures.ends) in
    record {
      text = IfOk-weaker c.summary.result _ _ (λ text is. is ∙ same) c.summary.ensures;
      bounded = rw (c.limit.ensures, sym calls) at c.take_ends.ensures.bounded;
    }
