use Rattle.std.proofs.Common.{◌≡◌, ℕ, Some, [], map, option_map, slice_get, slice_index_or, sym, ap, subst, ◌∙◌, inl, inr}
use Rattle.std.proofs.lemmas.Bool.{false≢true}
use Rattle.std.proofs.lemmas.List.{get_or-map}
use Rattle.proof_check.specs.Levels.{AreTaken, IsFirstPast, IsPairAt, is_past}
use Rattle.proof_check.specs.declared.offers.Offer.{Offer}
use Rattle.std.proofs.lemmas.Option.{same_Some}
use Rattle.proof_check.proofs.deviations.branch_leaves_after.Given.{Over}
use Rattle.proof_check.proofs.deviations.branch_leaves_after.Goals.{After-deref}
use Rattle.proof_check.proofs.deviations.branch_leaves_after.Goals as goal

module _ (g : Over) (c : After-deref g) where
  -- the list of the branch's group
  list_is : slice_index_or (map (λ v. v.items) c.args.lists.now) c.in-Some.branch.group [] ≡ c.deref.result.now
  list_is =
      get_or-map (λ v. v.items) c.args.lists.now c.in-Some.branch.group c.index-lists-branch.result []
      (c.requires.group c.in-Some.branch c.in-Some.is)
      ∙ sym (ap (λ v. v.items) c.index-lists-branch.is) ∙ sym c.deref.ensures.value

pub bounds-lists-branch : goal.bounds-lists-branch
bounds-lists-branch g c = c.requires.group c.in-Some.branch c.in-Some.is

pub join-rank-requires : goal.join-rank-requires
join-rank-requires g c =
    let at = goal.at.join-rank-requires g c in
    let found = c.in-Some-first_open.ensures.found in
    c.requires.fits c.in-Some.branch c.in-Some.is found.0 c.in-Some-first_open.offer
    (subst (λ xs. slice_get xs found.0 ≡ Some c.in-Some-first_open.offer) (sym (list_is g at.After-deref)) found.1)

pub returns-in_default : goal.returns-in_default
returns-in_default g c = record {
  passed = λ _ b e. absurd (c.in_default.not-Some b e);
  missed = λ bad. absurd (false≢true (sym bad));
}

pub returns-in_default-first_open : goal.returns-in_default-first_open
returns-in_default-first_open g c = record {
  passed = λ _ b e.
      let d = g.R.Rank.KEYS in let key = g.R.Rank.key in let pairs = c.args.taken.now in
      let last = option_map key c.args.last.now in
      let lists = map (λ v. v.items) c.args.lists.now in
      let at = goal.at.returns-in_default-first_open g c in
      subst (λ x. IsFirstPast d key pairs c.args.number last x lists) (same_Some c.in-Some.branch b (sym c.in-Some.is ∙ e))
      (inl (subst (λ xs. (i : ℕ) (a : Offer g.row.R.Denot) → slice_get xs i ≡ Some a
      → (k : ℕ) × IsPairAt pairs k (c.args.number, a.row)) (sym (list_is g at.After-deref)) c.in_default-first_open.ensures.none));
  missed = λ bad. absurd (false≢true (sym bad));
}

pub returns : goal.returns
returns g c = record {
  passed = λ good b e.
      let d = g.R.Rank.KEYS in let key = g.R.Rank.key in let pairs = c.args.taken.now in
      let last = option_map key c.args.last.now in
      let lists = map (λ v. v.items) c.args.lists.now in
      let found = c.in-Some-first_open.ensures.found in
      let is = sym (list_is g (goal.at.returns g c).After-deref) in
      let o = c.in-Some-first_open.offer in
      subst (λ x. IsFirstPast d key pairs c.args.number last x lists) (same_Some c.in-Some.branch b (sym c.in-Some.is ∙ e))
      (inr (
        found.0,
        (
          o,
          subst (λ xs. slice_get xs found.0 ≡ Some o) is found.1,
          subst (λ xs. AreTaken d key pairs c.args.number xs found.0) is found.3,
          ap (is_past d last) (sym c.join-rank.ensures.sum) ∙ sym c.is_past.ensures ∙ good,
        ),
      ));
  missed = λ bad.
      let last = option_map g.R.Rank.key c.args.last.now in
      let found = c.in-Some-first_open.ensures.found in
      let o = c.in-Some-first_open.offer in (
        c.in-Some.branch,
        c.in-Some.is,
        (
          found.0,
          (
            o,
            subst (λ xs. slice_get xs found.0 ≡ Some o) (sym (list_is g (goal.at.returns g c).After-deref)) found.1,
            found.2,
            ap (is_past g.R.Rank.KEYS last) (sym c.join-rank.ensures.sum) ∙ sym c.is_past.ensures ∙ bad,
          ),
        ),
      );
}
