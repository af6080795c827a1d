use Rattle.std.proofs.Common.{◌≡◌, None, Some, map, option_map, slice_index_or, sym, ap, subst, ◌∙◌, inl, inr}
use Rattle.std.proofs.lemmas.Bool.{cases_lt, false≢true}
use Rattle.std.proofs.lemmas.List.{get_or_default}
use Rattle.proof_check.specs.Levels.{IsFirstPast}
use Rattle.proof_check.proofs.Counts.{last_one, none_below, within_end}
use Rattle.proof_check.proofs.deviations.branches_leave_after.Goals as goal

pub loop-number-init : goal.loop-number-init
loop-number-init g c n b l e = absurd (none_below _ l)

pub branch_leaves_after-requires-clause-group : goal.branch_leaves_after-requires-clause-group
branch_leaves_after-requires-clause-group g c b e =
    c.requires.group c.loop-number.number b c.loop-number-test.true
    (get_or_default c.args.branches.now c.loop-number.number None c.index-branches-number.result c.loop-number-test.true
    ∙ sym c.index-branches-number.is ∙ e)

pub branch_leaves_after-requires-clause-fits : goal.branch_leaves_after-requires-clause-fits
branch_leaves_after-requires-clause-fits g c b e =
    c.requires.fits c.loop-number.number b c.loop-number-test.true
    (get_or_default c.args.branches.now c.loop-number.number None c.index-branches-number.result c.loop-number-test.true
    ∙ sym c.index-branches-number.is ∙ e)

pub loop-number-preserved : goal.loop-number-preserved
loop-number-preserved g c n b l e = elim (cases_lt n c.loop-number.number) [
  | inl less ↦ c.loop-number.invariant n b less e
  | inr far ↦
      let at : n ≡ c.loop-number.number = last_one _ _ l far in
      let is : c.index-branches-number.result ≡ Some b =
      c.index-branches-number.is
      ∙ get_or_default c.args.branches.now c.loop-number.number c.index-branches-number.result None c.loop-number-test.true
      ∙ ap (λ k. slice_index_or c.args.branches.now k None) (sym at) ∙ e in
      subst (λ k. IsFirstPast g.R.Rank.KEYS g.R.Rank.key c.args.taken.now k (option_map g.R.Rank.key c.args.last.now) b
      (map (λ v. v.items) c.args.lists.now)) (sym at) (c.branch_leaves_after.ensures.passed c.if-not-branch_leaves_after.false b is)
]

pub returns : goal.returns
returns g c = record {
  passed = λ _ n b l e.
      c.loop-number.invariant n b (within_end _ _ _ l c.loop-number-test.false) e;
  missed = λ bad. absurd (false≢true (sym bad));
}

pub returns-then-not-branch_leaves_after : goal.returns-then-not-branch_leaves_after
returns-then-not-branch_leaves_after g c = record {
  passed = λ good. absurd (false≢true good);
  missed = λ _.
      let m = c.branch_leaves_after.ensures.missed c.if-not-branch_leaves_after.true in (
        c.loop-number.number,
        (
          m.0,
          c.loop-number-test.true,
          get_or_default c.args.branches.now c.loop-number.number None c.index-branches-number.result c.loop-number-test.true
              ∙ sym c.index-branches-number.is ∙ m.1,
          m.2,
        ),
      );
}
