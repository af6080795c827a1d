use Rattle.std.proofs.Common.{◌≡◌, ◌<◌, not, option_map, length, refl, sym, ap, subst, ◌∙◌, arith}
use Rattle.std.proofs.Common.{inl, inr}
use Rattle.std.proofs.lemmas.Bool.{false≢true}
use Rattle.proof_model.specs.ProofView.{proof_view}
use Rattle.tdp_core.specs.RawView.{raw_len}
use Rattle.proof_check.specs.Levels.{IsMissedAt, IsPassedAt}
use Rattle.proof_check.specs.RowPlaces.{place_at}
use Rattle.proof_model.specs.QueryProblem.{problem_in}
use Rattle.proof_check.proofs.Passing.{IsLimit, all_passed, is_missed, limit_from, none_passed}
use Rattle.proof_check.proofs.Counts.{below_count}
use Rattle.proof_check.proofs.choices.check_choices.Given.{Over}
use Rattle.proof_check.proofs.choices.check_choices.Goals as goal
use Rattle.proof_check.proofs.choices.check_choices.Goals.{After-all_leave_after, then-proof, else-proof}
use Rattle.proof_check.proofs.choices.check_choices.Goals.{else-not-proof-via-then-not-proof+else-is_none}
use Rattle.proof_check.proofs.choices.check_choices.Goals.{else-not-proof-via-else-not-proof}

-- # Whether the certificate has a last answer, as the tests have it

module _ (g : Over) (c : After-all_leave_after g) where
  long : length c.args.join.now.atom ≡ 16
  long = c.all_leave_after.ensures.room

  limit : IsLimit c.args.query.now.query c.args.tables.now c.args.join.now g.R.Rank.KEYS g.R.Rank.key (proof_view c.args.proof.now)
      c.args.tree.now c.requires.keys c.requires.bounded c.requires.ordered long c.args.answers.now.places.items c.requires.placed
      (option_map g.R.Rank.key c.if-proof.last)
  limit = elim c.if-proof.branch [
    | then-proof w ↦ inl (w.if-proof.true, ap (option_map g.R.Rank.key) w.last-is)
    | else-proof w ↦ elim c.else-not-proof.branch [
      | else-not-proof-via-then-not-proof+else-is_none v ↦
          limit_from c.args.query.now.query c.args.tables.now c.args.join.now g.R.Rank.KEYS g.R.Rank.key (proof_view c.args.proof.now)
          c.args.tree.now c.requires.keys c.requires.bounded c.requires.ordered long c.args.answers.now.places.items c.requires.placed
          c.args.answers.now.last c.requires.last (v.is_none.ensures ∙ ap not v.if-is_none.false) w.if-proof.false
          (option_map g.R.Rank.key c.if-proof.last) (ap (option_map g.R.Rank.key) w.last-is)
      | else-not-proof-via-else-not-proof v ↦ absurd (false≢true (sym w.if-proof.false ∙ v.if-not-proof.false))
    ]
  ]

pub returns-in-Ok-true : goal.returns-in-Ok-true
returns-in-Ok-true g c = record {
  passed =
      let at = (goal.at.returns-in-Ok-true g c).After-all_leave_after in let key = g.R.Rank.key in
      all_passed c.args.query.now.query c.args.tables.now c.args.join.now g.R.Rank.KEYS key (proof_view c.args.proof.now) c.args.tree.now
      c.requires.keys c.requires.bounded c.requires.ordered (long g at) c.args.answers.now.places.items c.requires.placed
      (option_map key c.if-proof.last) (limit g at)
      (λ p l. subst (λ xs. IsPassedAt c.args.join.now c.args.tree.now g.R.Rank.KEYS key xs (option_map key c.if-proof.last) p) c.deref.ensures.value
      (c.in-Ok-true.ensures.passed c.in-Ok-true.field-0-test p l));
  fault = tt;
}

pub returns-in-Ok-false : goal.returns-in-Ok-false
returns-in-Ok-false g c = record {
  passed = tt;
  fault =
      let at = (goal.at.returns-in-Ok-false g c).After-all_leave_after in let key = g.R.Rank.key in
      inr (
        refl,
        is_missed c.args.query.now.query c.args.tables.now c.args.join.now g.R.Rank.KEYS key (proof_view c.args.proof.now) c.args.tree.now
            c.requires.keys c.requires.bounded c.requires.ordered (long g at) c.args.answers.now.places.items c.requires.placed
            (option_map key c.if-proof.last) (limit g at)
            (subst (λ xs. IsMissedAt c.args.join.now c.args.tree.now g.R.Rank.KEYS key xs (option_map key c.if-proof.last)) c.deref.ensures.value
            (c.in-Ok-false.ensures.missed c.in-Ok-false.field-0-test)),
      );
}

pub returns-then-is_none : goal.returns-then-is_none
returns-then-is_none g c = record {
  passed =
      none_passed c.args.query.now.query c.args.tables.now c.args.join.now g.R.Rank.KEYS g.R.Rank.key (proof_view c.args.proof.now)
      c.args.answers.now.last c.requires.last (c.is_none.ensures ∙ ap not c.if-is_none.true) c.if-not-proof.true;
  fault = tt;
}

pub all_leave_after-requires-clause-within : goal.all_leave_after-requires-clause-within
all_leave_after-requires-clause-within g c i q l h =
    let placed = c.requires.placed in let value = c.deref.ensures.value in
    let node : q < (problem_in c.args.query.now.query c.args.tables.now c.args.join.now).nodes = omega arith in
    subst (λ xs. place_at xs i q < raw_len c.args.tree.now.raw q) (sym value)
    (placed.within i q (below_count _ _ _ (subst (λ xs. i < length xs) value l) placed.count) node)

pub all_leave_after-requires-clause-ordered : goal.all_leave_after-requires-clause-ordered
all_leave_after-requires-clause-ordered g c = c.requires.ordered

pub returns-in-Err : goal.returns-in-Err
returns-in-Err g c = record {
  passed = tt;
  fault = inl refl;
}

pub all_leave_after-requires-clause-bounded : goal.all_leave_after-requires-clause-bounded
all_leave_after-requires-clause-bounded g c = record {
  query = c.args.query.now.query;
  tables = c.args.tables.now;
  c = proof_view c.args.proof.now;
  few = c.requires.keys;
  bounded = c.requires.bounded;
}
