use Rattle.std.proofs.Common.{◌≡◌, option_map, length, sym, ap, subst, ◌∙◌, inl, inr, arith}
use Rattle.std.proofs.lemmas.Bool.{cases_lt, false≢true}
use Rattle.tdp_core.specs.RawView.{IsRawFormed}
use Rattle.proof_check.proofs.Nodes.{all_nodes}
use Rattle.proof_check.specs.Levels.{IsPassedAt}
use Rattle.std.proofs.lemmas.Result.{IfOk-from_err}
use Rattle.proof_check.proofs.choices.all_leave_after.Given.{Over}
use Rattle.proof_check.proofs.choices.all_leave_after.Goals.{Start}
use Rattle.proof_check.proofs.Counts.{below_count, last_one, none_below}
use Rattle.proof_check.proofs.choices.all_leave_after.Goals as goal

module _ (g : Over) where
  -- the join tree has 16 places
  has_room : (c : Start g) → length c.args.join.atom ≡ 16
  has_room c = omega arith

pub node_leaves_after-requires-clause-ready : goal.node_leaves_after-requires-clause-ready
node_leaves_after-requires-clause-ready g c =
    let b = c.requires.bounded in
    let long = has_room g (goal.at.node_leaves_after-requires-clause-ready g c).Start in
    record {
      ordered = c.requires.ordered;
      bounded = b;
      formed = subst (λ z. IsRawFormed g.R.Rank.KEYS g.R.Rank.key z.raw) c.tree.view_is c.nodes-node-end.ensures.formed;
      long = long;
      node = below_count _ _ _ c.loop-node-test.true
          (c.nodes-node-end.ensures.count ∙ ap (λ z. length z.raw.shapes) c.tree.view_is ∙ b.bounded.rows.nodes
          ∙ all_nodes b.query b.tables c.args.join c.requires.ordered long);
    }

pub node_leaves_after-requires-clause-within : goal.node_leaves_after-requires-clause-within
node_leaves_after-requires-clause-within g c = c.requires.within

pub node_leaves_after-requires-clause-prefixes : goal.node_leaves_after-requires-clause-prefixes
node_leaves_after-requires-clause-prefixes g c = c.loop-node.invariant.prefixes

pub loop-node-init : goal.loop-node-init
loop-node-init g c = record { prefixes = c.in_ok-prefixes.ensures; passed = λ p l. absurd (none_below _ l) }

pub loop-node-preserved : goal.loop-node-preserved
loop-node-preserved g c =
    let key = g.R.Rank.key in
    record {
      prefixes = c.in-Ok-true.ensures.prefixes;
      passed = λ p l. elim (cases_lt p c.loop-node.node) [
        | inl less ↦ c.loop-node.invariant.passed p less
        | inr far ↦
            let at : p ≡ c.loop-node.node = last_one _ _ l far in
            subst (IsPassedAt c.args.join c.args.tree.now g.R.Rank.KEYS key c.args.places.now (option_map key c.args.last.now)) (sym at)
            (c.in-Ok-true.ensures.passed c.in-Ok-true.field-0-test)
      ];
    }

pub returns : goal.returns
returns g c = record {
  room = has_room g (goal.at.returns g c).Start;
  passed = λ _ p l.
      let b = c.requires.bounded in
      c.loop-node.invariant.passed p (omega (
        arith,
        l,
        c.loop-node-test.false,
        c.nodes-node-end.ensures.count,
        ap (λ z. length z.raw.shapes) c.tree.view_is,
        b.bounded.rows.nodes,
        all_nodes b.query b.tables c.args.join c.requires.ordered (has_room g (goal.at.returns g c).Start),
      ));
  missed = λ bad. absurd (false≢true (sym bad));
}

pub returns-in_err-prefixes : goal.returns-in_err-prefixes
returns-in_err-prefixes g c = record {
  room = has_room g (goal.at.returns-in_err-prefixes g c).Start;
  passed = IfOk-from_err c.from_residual.result _ c.from_residual.ensures.0;
  missed = IfOk-from_err c.from_residual.result _ c.from_residual.ensures.0;
}

pub returns-in-Ok-false : goal.returns-in-Ok-false
returns-in-Ok-false g c = record {
  room = has_room g (goal.at.returns-in-Ok-false g c).Start;
  passed = λ good. absurd (false≢true good);
  missed = λ _. c.in-Ok-false.ensures.missed c.in-Ok-false.field-0-test;
}

pub returns-in-Err : goal.returns-in-Err
returns-in-Err g c = record {
  room = has_room g (goal.at.returns-in-Err g c).Start;
  passed = tt;
  missed = tt;
}
