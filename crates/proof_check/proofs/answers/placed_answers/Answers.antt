use Rattle.std.proofs.Common.{◌≡◌, List, ◌+◌, ◌<◌, ℕ, suc, length, sym, ap, subst, ◌∙◌, refl, arith}
use Rattle.std.proofs.lemmas.Result.{IfOk-from_err}
use Rattle.anyk_model.specs.Query.{Query}
use Rattle.anyk_model.specs.Table.{Table}
use Rattle.join_tree.specs.declared.tree.JoinTree.{JoinTree}
use Rattle.tdp_model.specs.KeyTuple.{KeyOf}
use Rattle.proof_model.specs.Certificate.{Certificate}
use Rattle.proof_model.specs.Problem.{Problem}
use Rattle.tdp_model.specs.Below.{is_below}
use Rattle.proof_model.specs.ProofView.{proof_view}
use Rattle.proof_model.specs.declared.fault.ProofFault.TheVariants as fault
use Rattle.proof_model.specs.Faults.{TellsFlaw}
use Rattle.proof_model.specs.QueryProblem.{problem_in}
use Rattle.proof_model.specs.Valid.{IsCount, weak, wrong_count}
use Rattle.proof_check.specs.BoundedRows.{HasProblemRows}
use Rattle.proof_check.specs.Coverage.{AllCovered}
use Rattle.proof_check.specs.Solutions.{AreAnswers, AreOrdered}
use Rattle.proof_check.specs.RowPlaces.{ArePlaced}
use Rattle.proof_check.proofs.Coverings.{not-true}
use Rattle.proof_check.proofs.Firsts.{first_weak_lem, first_bad, first_behind, first_count}
use Rattle.proof_check.proofs.Nodes.{nodes_few, parents_earlier}
use Rattle.proof_check.proofs.Roots.{below_root, without}
use Rattle.proof_check.proofs.Tellings.{tells_bad, tells_behind, told_err}
use Rattle.proof_check.proofs.answers.placed_answers.Given.{Over}
use Rattle.proof_check.proofs.answers.placed_answers.Goals.{After-answer_places}
use Rattle.proof_check.proofs.answers.placed_answers.Goals as goal

pub overflow_add-result : goal.overflow_add-result
overflow_add-result g c =
    let query = c.args.query.now.query in let tables = c.args.tables.now in
    let found = c.in-Some.ensures query tables (proof_view c.args.proof.now) c.requires.keys c.requires.bounded in
    omega (arith, found.0, nodes_few query tables c.args.join.now, c.requires.ordered.few)

pub returns-in-Some : goal.returns-in-Some
returns-in-Some g c = record {
  placed = tt;
  last = tt;
  fault =
      let query = c.args.query.now.query in let tables = c.args.tables.now in
      let cert = proof_view c.args.proof.now in
      let b = c.requires.bounded in let v = c.in-Some.node in
      let found = c.in-Some.ensures query tables cert c.requires.keys b in
      let next : v + 1 ≡ suc v = omega arith in (
        b.shape,
        b.is_shape,
        weak v,
        ap fault.Weak next,
        first_weak_lem (problem_in query tables c.args.join.now) cert query.limit b.solutions b.apart v found,
      );
}

-- # What the proofs share, once no row is weak

module _ (g : Over) (c : After-answer_places g) where
  abbrev query : Query
  query = c.args.query.now.query

  abbrev tables : List Table
  tables = c.args.tables.now

  abbrev join : JoinTree
  join = c.args.join.now

  abbrev cert : Certificate
  cert = proof_view c.args.proof.now

  abbrev t : Problem (KeyOf (length query.order) 16)
  t = problem_in query tables join

  tree : HasProblemRows query tables join g.R.Rank.KEYS g.R.Rank.key c.tree.inside.raw
  tree = subst (λ z. HasProblemRows query tables join g.R.Rank.KEYS g.R.Rank.key z.raw) (sym c.tree.view_is) c.requires.bounded.rows

  covered : (v : ℕ) → v < t.nodes → AllCovered t cert v
  covered =
      without c.first_weak.result _ _ (c.first_weak.ensures query tables cert c.requires.keys c.requires.bounded) c.in_default.not-Some

  seen : (places shown : List (List ℕ)) → shown ≡ places → AreAnswers query tables join c.tree.inside.raw cert places
      → AreAnswers query tables join c.tree.inside.raw cert shown
  seen places shown e = subst (AreAnswers query tables join c.tree.inside.raw cert) (sym e)

pub returns-in_err-places : goal.returns-in_err-places
returns-in_err-places g c = record {
  placed = IfOk-from_err c.from_residual.result _ c.from_residual.ensures.0;
  last = IfOk-from_err c.from_residual.result _ c.from_residual.ensures.0;
  fault =
      let at = (goal.at.returns-in_err-places g c).After-answer_places in
      let b = c.requires.bounded in
      told_err c.from_residual.result _ (TellsFlaw (query g at) (tables g at) (join g at) (cert g at)) c.from_residual.ensures.1
      (tells_bad (query g at) (tables g at) (join g at) (cert g at) b.shape b.is_shape c.in_err-places.field-0.0
      (c.in_err-places.ensures.fault (query g at) (tables g at) (join g at) (tree g at))
      (first_bad (t g at) (cert g at) (query g at).limit b.solutions b.apart (covered g at)));
}

pub last_rank-requires-clause-answers : goal.last_rank-requires-clause-answers
last_rank-requires-clause-answers g c =
    let at = (goal.at.last_rank-requires-clause-answers g c).After-answer_places in
    record {
      query = query g at;
      tables = tables g at;
      join = join g at;
      few = c.requires.keys;
      tree = tree g at;
      answers = seen g at _ _ c.as_slice.ensures.value (c.in_ok-places.ensures.places (query g at) (tables g at) (join g at) (tree g at));
    }

pub returns-in_err-last : goal.returns-in_err-last
returns-in_err-last g c = record {
  placed = IfOk-from_err c.from_residual-in_err-last.result _ c.from_residual-in_err-last.ensures.0;
  last = IfOk-from_err c.from_residual-in_err-last.result _ c.from_residual-in_err-last.ensures.0;
  fault =
      let at = (goal.at.returns-in_err-last g c).After-answer_places in
      let b = c.requires.bounded in
      let found = c.in_ok-places.ensures.places (query g at) (tables g at) (join g at) (tree g at) in
      told_err c.from_residual-in_err-last.result _ (TellsFlaw (query g at) (tables g at) (join g at) (cert g at)) c.from_residual-in_err-last.ensures.1
      (tells_behind (query g at) (tables g at) (join g at) (cert g at) b.shape b.is_shape c.in_err-last.field-0.0
      (c.in_err-last.ensures.fault (query g at) (tables g at) (join g at) c.requires.keys (tree g at) (seen g at _ _ c.as_slice.ensures.value found))
      (first_behind (t g at) (cert g at) (query g at).limit b.solutions b.apart (covered g at) (λ i l. (found.each i l).solution)));
}

pub returns-then-not-is_count : goal.returns-then-not-is_count
returns-then-not-is_count g c = record {
  placed = tt;
  last = tt;
  fault =
      let at = (goal.at.returns-then-not-is_count g c).After-answer_places in
      let b = c.requires.bounded in
      let found = c.in_ok-places.ensures.places (query g at) (tables g at) (join g at) (tree g at) in
      let answers = seen g at _ _ c.as_slice.ensures.value found in
      let ordered = c.in_ok-last.ensures.ordered (query g at) (tables g at) (join g at) c.requires.keys (tree g at) answers in
      let number : c.len.result ≡ length (cert g at).answers = c.len.ensures ∙ sym c.as_slice.ensures.len ∙ answers.count in (
        b.shape,
        b.is_shape,
        wrong_count,
        refl,
        first_count (t g at) (cert g at) (query g at).limit b.solutions b.apart (covered g at) (λ i l. (found.each i l).solution)
            (subst (AreOrdered (t g at) (cert g at)) answers.count ordered)
            (λ h. not-true (sym c.if-not-is_count.true ∙ (c.is_count.ensures (query g at) (tables g at) (join g at) (cert g at)).1
            (subst (λ k. IsCount (t g at) (cert g at) c.limit.result (cert g at).ended k) (sym number)
            (subst (λ o. IsCount (t g at) (cert g at) o (cert g at).ended (length (cert g at).answers)) (sym c.limit.ensures) h)))),
      );
}

pub returns : goal.returns
returns g c =
    let at = (goal.at.returns g c).After-answer_places in
    let found = c.in_ok-places.ensures.places (query g at) (tables g at) (join g at) (tree g at) in
    let answers = seen g at _ _ c.as_slice.ensures.value found in
    record {
      placed =
          let ordered = c.in_ok-last.ensures.ordered (query g at) (tables g at) (join g at) c.requires.keys (tree g at) answers in
          let is = c.is_count.ensures (query g at) (tables g at) (join g at) (cert g at) in
          let number : c.len.result ≡ length (cert g at).answers = c.len.ensures ∙ sym c.as_slice.ensures.len ∙ answers.count in
          let first = parents_earlier (query g at) (tables g at) (join g at) c.requires.ordered in
          let below : (q : ℕ) → q < (t g at).nodes → 0 < is_below (t g at).parent 0 q =
          λ q l. let e = below_root (t g at).nodes (t g at).parent first q q (omega arith) l in omega (arith, e) in
          let placed : ArePlaced (query g at) (tables g at) (join g at) (cert g at) c.tree.inside.raw c.in_ok-places.places.items = record {
            count = found.count;
            within = λ i q l lq. (found.each i l).within q lq (below q lq);
            rows = λ i q l lq. (found.each i l).numbers q lq (below q lq);
            covered = λ v row l is_row. covered g at v l row is_row;
            answers = λ i l. (found.each i l).solution;
            ascending = λ i l. ordered i (omega (arith, l, answers.count));
            limited = subst (λ o. IsCount (t g at) (cert g at) o (cert g at).ended (length (cert g at).answers)) c.limit.ensures
                (subst (λ k. IsCount (t g at) (cert g at) c.limit.result (cert g at).ended k) number (is.0 c.if-not-is_count.false));
          } in
          subst (λ z. ArePlaced (query g at) (tables g at) (join g at) (cert g at) z.raw c.in_ok-places.places.items) c.tree.view_is placed;
      last = c.in_ok-last.ensures.last (query g at) (tables g at) (join g at) c.requires.keys (tree g at) answers;
      fault = tt;
    }

pub first_weak-requires-clause-ordered : goal.first_weak-requires-clause-ordered
first_weak-requires-clause-ordered g c = c.requires.ordered

pub first_weak-requires-clause-bounded : goal.first_weak-requires-clause-bounded
first_weak-requires-clause-bounded g c = record {
  query = c.args.query.now.query;
  tables = c.args.tables.now;
  c = proof_view c.args.proof.now;
  few = c.requires.keys;
  bounded = c.requires.bounded;
}
