use Rattle.std.proofs.Common.{◌<◌, sym, ap, subst, ◌∙◌, below_more}
use Rattle.std.proofs.lemmas.Bool.{false≢true}
use Rattle.tdp_core.specs.RawView.{raw_len, raw_number}
use Rattle.proof_model.specs.QueryProblem.{problem_in}
use Rattle.proof_model.specs.Valid.{IsCovered}
use Rattle.proof_check.proofs.Coverings.{not-true}
use Rattle.proof_check.proofs.Counts.{at_list, below_count, none_below, within_end}
use Rattle.proof_check.proofs.covering.has_weak_row.Goals as goal

pub returns-then-not-is_covered : goal.returns-then-not-is_covered
returns-then-not-is_covered g c = record {
  covered = λ same. absurd (false≢true (sym same));
  weak = λ same query tables cert few bounded.
      let t = problem_in query tables c.args.join.now in
      let v = c.args.node in let i = c.loop-row.row in
      let inside : i < raw_len c.args.tree.now.raw v =
      below_count _ _ _ c.loop-row-test.true (c.len-row-end.ensures ∙ ap (λ z. raw_len z.raw v) c.tree.view_is) in
      let weak : IsCovered t cert v (raw_number c.args.tree.now.raw v i) → ⊥ =
      λ p. not-true (sym c.if-not-is_covered.true ∙ (c.is_covered.ensures query tables cert few bounded).1 p) in
      (raw_number c.args.tree.now.raw v i, bounded.rows.is_row v i (below_count _ _ _ c.requires.node bounded.rows.nodes) inside, weak);
}

pub loop-row-preserved : goal.loop-row-preserved
loop-row-preserved g c query tables cert few bounded =
    below_more _ _ (c.loop-row.invariant query tables cert few bounded)
    ((c.is_covered.ensures query tables cert few bounded).0 c.if-not-is_covered.false)

pub returns : goal.returns
returns g c = record {
  covered = λ same query tables cert few bounded row is_row.
      let v = c.args.node in
      let at = bounded.rows.every_row v row (below_count _ _ _ c.requires.node bounded.rows.nodes) is_row in
      subst (λ r. IsCovered (problem_in query tables c.args.join.now) cert v r) at.2
      (c.loop-row.invariant query tables cert few bounded at.0
      (within_end _ _ _ (at_list _ _ _ at.1 (c.len-row-end.ensures ∙ ap (λ z. raw_len z.raw v) c.tree.view_is)) c.loop-row-test.false));
  weak = λ same. absurd (false≢true same);
}

pub loop-row-init : goal.loop-row-init
loop-row-init g c query tables cert few bounded i l = absurd (none_below _ l)

pub is_covered-requires-clause-row : goal.is_covered-requires-clause-row
is_covered-requires-clause-row g c =
    below_count _ _ _ c.loop-row-test.true (c.len-row-end.ensures ∙ ap (λ z. raw_len z.raw c.args.node) c.tree.view_is)

pub is_covered-requires-clause-ordered : goal.is_covered-requires-clause-ordered
is_covered-requires-clause-ordered g c = c.requires.ordered

pub is_covered-requires-clause-bounded : goal.is_covered-requires-clause-bounded
is_covered-requires-clause-bounded g c = c.requires.bounded

pub is_covered-requires-clause-node : goal.is_covered-requires-clause-node
is_covered-requires-clause-node g c = c.requires.node
