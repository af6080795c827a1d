use Rattle.std.proofs.Common.{◌≡◌, ◌<◌, option_map, [], length, refl, sym, ap, arith}
use Rattle.proof_model.specs.Certificate.{AnswerLine}
use Rattle.proof_model.specs.ProofView.{listed_view, proof_view}
use Rattle.proof_model.specs.declared.fault.ProofFault.TheVariants as fault
use Rattle.proof_model.specs.QueryProblem.{problem_in}
use Rattle.proof_model.specs.Valid.{answer_at, answer_key}
use Rattle.proof_check.specs.BoundedRows.{query_key}
use Rattle.proof_check.proofs.AnswerLists.{seen_at, seen_count}
use Rattle.proof_check.proofs.Ordering.{behind, last_key, ordered_next, rank_next, test_of}
use Rattle.proof_check.proofs.Counts.{none_below}
use Rattle.proof_check.proofs.order.last_rank.Goals as goal

pub rank_of_places-rank-requires-clause-solution : goal.rank_of_places-rank-requires-clause-solution
rank_of_places-rank-requires-clause-solution g c =
    let a = c.requires.answers in let i = c.loop-i.i in
    record {
      query = a.query;
      tables = a.tables;
      join = a.join;
      rows = (answer_at (problem_in a.query a.tables a.join) (proof_view c.args.proof.now) i).rows;
      tree = a.tree;
      placed = a.answers.each i (omega (arith, c.loop-i-test.true, a.answers.count));
    }

pub returns-then-not-is_after : goal.returns-then-not-is_after
returns-then-not-is_after g c = record {
  last = λ query tables join few tree answers. tt;
  ordered = λ query tables join few tree answers. tt;
  fault = λ query tables join few tree answers.
      let d = g.R.Rank.KEYS in let key = g.R.Rank.key in
      let t = problem_in query tables join in
      let cert = proof_view c.args.proof.now in
      let i = c.loop-i.i in let x = c.index.result.now in
      let l : i < length cert.answers = omega (arith, c.loop-i-test.true, answers.count) in
      let before = c.loop-i.invariant query tables join few tree answers in
      let here : key c.rank_of_places-rank.result ≡ query_key query d (answer_key t cert i) =
      c.rank_of_places-rank.ensures query tables join (answer_at t cert i).rows few tree (answers.each i l) in
      let test = test_of query tables join d cert key c.loop-i.last c.rank_of_places-rank.result c.is_after.result
      c.is_after.ensures.first c.is_after.ensures.next in
      let found = behind query tables join d cert few i (option_map key c.loop-i.last)
      (key c.rank_of_places-rank.result) here
      before.0 c.is_after.result test c.if-not-is_after.true in
      let is : answer_at t cert i ≡ listed_view x =
      seen_at c.args.proof.now.answers.items i x (record { line = 0; rows = [] })
      (omega (arith, l, seen_count c.args.proof.now.answers.items)) c.index.ensures in
      (i, ap (λ (a : AnswerLine). fault.Order a.line) (sym is), (found.0, l, found.1, before.1));
}

pub loop-i-preserved : goal.loop-i-preserved
loop-i-preserved g c query tables join few tree answers =
    let d = g.R.Rank.KEYS in let key = g.R.Rank.key in
    let t = problem_in query tables join in
    let cert = proof_view c.args.proof.now in
    let i = c.loop-i.i in
    let l : i < length cert.answers = omega (arith, c.loop-i-test.true, answers.count) in
    let before = c.loop-i.invariant query tables join few tree answers in
    let here : key c.rank_of_places-rank.result ≡ query_key query d (answer_key t cert i) =
    c.rank_of_places-rank.ensures query tables join (answer_at t cert i).rows few tree (answers.each i l) in
    let test = test_of query tables join d cert key c.loop-i.last c.rank_of_places-rank.result c.is_after.result
    c.is_after.ensures.first c.is_after.ensures.next in (
      rank_next query tables join d cert few i (option_map key c.loop-i.last) (key c.rank_of_places-rank.result) here,
      ordered_next query tables join d cert few i (option_map key c.loop-i.last) (key c.rank_of_places-rank.result) here
          before.0 c.is_after.result test c.if-not-is_after.false before.1,
    )

pub returns : goal.returns
returns g c = record {
  last = λ query tables join few tree answers.
      let cert = proof_view c.args.proof.now in
      let done : c.loop-i.i ≡ length cert.answers =
      omega (arith, c.loop-i.auto.i-end, c.loop-i-test.false, answers.count) in
      last_key query tables join g.R.Rank.KEYS cert c.loop-i.i (option_map g.R.Rank.key c.loop-i.last) done
      (c.loop-i.invariant query tables join few tree answers).0;
  ordered = λ query tables join few tree answers i l.
      (c.loop-i.invariant query tables join few tree answers).1 i (omega (arith, l, c.loop-i-test.false));
  fault = λ query tables join few tree answers. tt;
}

pub loop-i-init : goal.loop-i-init
loop-i-init g c query tables join few tree answers = (refl, λ i l. absurd (none_below _ l))

pub index-requires : goal.index-requires
index-requires g c =
    let items = c.args.proof.now.answers in
    omega (arith, c.loop-i-test.true, c.requires.answers.answers.count, seen_count items.items, items.ok.0)
