use Rattle.std.proofs.Common.{◌≡◌, ◌<◌, ℕ, None, Some, length, map, option_map, slice_index_or, sym, subst, arith}
use Rattle.std.proofs.lemmas.List.{length-map}
use Rattle.std.proofs.lemmas.Result.{IfOk-from_err}
use Rattle.proof_check.specs.declared.open_places.OpenPlace.{OpenPlace}
use Rattle.proof_check.specs.Levels.{CanLeave, FitSums, IsFirstEarly, IsFirstPast}
use Rattle.proof_check.proofs.Counts.{at_list}
use Rattle.proof_check.proofs.Testing.{can_leave, way_from, way_past}
use Rattle.proof_check.proofs.Walking.{left_after, left_before, offers_fit}
use Rattle.proof_check.proofs.deviations.leaves_after.Given.{Over}
use Rattle.proof_check.proofs.deviations.leaves_after.Goals.{In_ok-branches}
use Rattle.proof_check.proofs.deviations.leaves_after.Goals as goal

module _ (g : Over) (c : In_ok-branches g) where
  count_is : length c.in_ok-branches.branches.items ≡ length c.args.starts.now
  count_is = let a = c.in_ok-branches.ensures.count in let v = c.in_ok-branches.branches in omega (arith, a)

  can : (n : ℕ) (b : OpenPlace g.row.R.Denot) → n < length c.in_ok-branches.branches.items
      → slice_index_or c.in_ok-branches.branches.items n None ≡ Some b
      → CanLeave c.args.join.now c.args.tree.now g.R.Rank.KEYS g.R.Rank.key c.args.node b
  can = can_leave c.args.join.now c.args.tree.now g.R.Rank.KEYS g.R.Rank.key c.args.node c.args.starts.now
      c.in_ok-branches.branches.items c.in_ok-branches.ensures.each c.requires.ready count_is c.requires.rows

pub branches_of-requires-clause-ready : goal.branches_of-requires-clause-ready
branches_of-requires-clause-ready g c = c.requires.ready

pub branches_of-requires-clause-rows : goal.branches_of-requires-clause-rows
branches_of-requires-clause-rows g c = c.requires.rows

pub lists_of-requires-clause-ready : goal.lists_of-requires-clause-ready
lists_of-requires-clause-ready g c = c.requires.ready

pub lists_of-requires-clause-branches : goal.lists_of-requires-clause-branches
lists_of-requires-clause-branches g c n b l e =
    can g (goal.at.lists_of-requires-clause-branches g c).In_ok-branches n b (subst (λ xs. n < length xs) c.deref.ensures.value l)
    (subst (λ xs. slice_index_or xs n None ≡ Some b) c.deref.ensures.value e)

pub branches_leave_after-requires-clause-group : goal.branches_leave_after-requires-clause-group
branches_leave_after-requires-clause-group g c n b l e =
    let its = c.in_ok-lists.ensures n b
    (subst (λ xs. n < length xs) (sym c.deref.ensures.value) (subst (λ xs. n < length xs) c.deref-2.ensures.value l))
    (subst (λ xs. slice_index_or xs n None ≡ Some b) (sym c.deref.ensures.value)
    (subst (λ xs. slice_index_or xs n None ≡ Some b) c.deref-2.ensures.value e)) in
    subst (λ xs. b.group < length xs) (sym c.deref-3.ensures.value)
    (at_list _ _ _ its.within (sym (length-map c.in_ok-lists.lists.items (λ v. v.items))))

pub branches_leave_after-requires-clause-fits : goal.branches_leave_after-requires-clause-fits
branches_leave_after-requires-clause-fits g c n b l e =
    let d = g.R.Rank.KEYS in let key = g.R.Rank.key in let join = c.args.join.now in
    let tree = c.args.tree.now in let p = c.args.node in
    let at = goal.at.branches_leave_after-requires-clause-fits g c in
    let l' = subst (λ xs. n < length xs) c.deref-2.ensures.value l in
    let e' = subst (λ xs. slice_index_or xs n None ≡ Some b) c.deref-2.ensures.value e in
    let lists = map (λ v. v.items) c.in_ok-lists.lists.items in
    let its = c.in_ok-lists.ensures n b (subst (λ xs. n < length xs) (sym c.deref.ensures.value) l')
    (subst (λ xs. slice_index_or xs n None ≡ Some b) (sym c.deref.ensures.value) e') in
    subst (λ xs. FitSums d key b (map (λ v. v.items) xs)) (sym c.deref-3.ensures.value)
    (offers_fit join tree d key p c.requires.ready (option_map key c.args.last.now) b lists its (can g at.In_ok-branches n b l' e'))

pub returns : goal.returns
returns g c = record {
  passed = λ is.
      let d = g.R.Rank.KEYS in let key = g.R.Rank.key in let join = c.args.join.now in
      let tree = c.args.tree.now in let p = c.args.node in
      let at = goal.at.returns g c in
      let branches = c.in_ok-branches.branches.items in let pairs = c.args.taken.now in
      let last = option_map key c.args.last.now in
      way_past join tree d key p c.args.starts.now branches c.in_ok-branches.ensures.each pairs last (count_is g at.In_ok-branches)
      (λ n b l e.
      let its = c.in_ok-lists.ensures n b (subst (λ xs. n < length xs) (sym c.deref.ensures.value) l)
      (subst (λ xs. slice_index_or xs n None ≡ Some b) (sym c.deref.ensures.value) e) in
      left_after join tree d key p c.requires.ready last b (map (λ v. v.items) c.in_ok-lists.lists.items) its pairs n
      (subst (λ xs. IsFirstPast d key pairs n last b (map (λ v. v.items) xs)) c.deref-3.ensures.value
      (c.branches_leave_after.ensures.passed is n b (subst (λ xs. n < length xs) (sym c.deref-2.ensures.value) l)
      (subst (λ xs. slice_index_or xs n None ≡ Some b) (sym c.deref-2.ensures.value) e))));
  missed = λ is.
      let d = g.R.Rank.KEYS in let key = g.R.Rank.key in let join = c.args.join.now in
      let tree = c.args.tree.now in let p = c.args.node in
      let at = goal.at.returns g c in
      let branches = c.in_ok-branches.branches.items in let pairs = c.args.taken.now in
      let last = option_map key c.args.last.now in
      let m = c.branches_leave_after.ensures.missed is in
      let n = m.0 in
      let b : OpenPlace g.row.R.Denot = m.1.0 in
      let l = subst (λ xs. n < length xs) c.deref-2.ensures.value m.1.1 in
      let e = subst (λ xs. slice_index_or xs n None ≡ Some b) c.deref-2.ensures.value m.1.2 in
      let its = c.in_ok-lists.ensures n b (subst (λ xs. n < length xs) (sym c.deref.ensures.value) l)
      (subst (λ xs. slice_index_or xs n None ≡ Some b) (sym c.deref.ensures.value) e) in
      way_from join tree d key p c.args.starts.now branches c.in_ok-branches.ensures.each pairs last (count_is g at.In_ok-branches)
      n b l e
      (left_before join tree d key p c.requires.ready last b (map (λ v. v.items) c.in_ok-lists.lists.items) its pairs n
      (subst (λ xs. IsFirstEarly d key pairs n last b (map (λ v. v.items) xs)) c.deref-3.ensures.value m.1.3));
}

pub returns-in_err-branches : goal.returns-in_err-branches
returns-in_err-branches g c = record {
  passed = IfOk-from_err c.from_residual.result _ c.from_residual.ensures.0;
  missed = IfOk-from_err c.from_residual.result _ c.from_residual.ensures.0;
}

pub returns-in_err-lists : goal.returns-in_err-lists
returns-in_err-lists g c = record {
  passed = IfOk-from_err c.from_residual-in_err-lists.result _ c.from_residual-in_err-lists.ensures.0;
  missed = IfOk-from_err c.from_residual-in_err-lists.result _ c.from_residual-in_err-lists.ensures.0;
}
