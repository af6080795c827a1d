use Rattle.std.proofs.Common.{◌≡◌, ◌<◌, ◌≤◌, None, Some, option_map, length, map, slice_index_or, sym, subst, ◌∙◌}
use Rattle.std.proofs.lemmas.Result.{IfOk-from_err, IfOk-weaker}
use Rattle.proof_check.specs.Levels.{AreGroups, AreLeast, own_bounds}
use Rattle.proof_check.proofs.Counts.{at_list}
use Rattle.proof_check.proofs.Preparing.{few_rows_lem, node_bounds, own_within}
use Rattle.proof_check.proofs.Testing.{least_fits}
use Rattle.proof_check.proofs.Walking.{listed}
use Rattle.proof_check.proofs.deviations.lists_of.Goals as goal

pub bound_count-count-requires : goal.bound_count-count-requires
bound_count-count-requires g c = node_bounds c.args.join.now c.args.tree.now g.R.Rank.KEYS g.R.Rank.key c.args.node c.requires.ready

pub own_numbers-requires : goal.own_numbers-requires
own_numbers-requires g c = node_bounds c.args.join.now c.args.tree.now g.R.Rank.KEYS g.R.Rank.key c.args.node c.requires.ready

pub rows_by_bound-requires-clause-few : goal.rows_by_bound-requires-clause-few
rows_by_bound-requires-clause-few g c =
    subst (λ xs. length xs ≤ 4194304) (sym c.own_numbers.ensures)
    (few_rows_lem c.args.join.now c.args.tree.now g.R.Rank.KEYS g.R.Rank.key c.args.node c.requires.ready)

pub rows_by_bound-requires-clause-within : goal.rows_by_bound-requires-clause-within
rows_by_bound-requires-clause-within g c i b l e =
    subst (λ n. b < n) (sym c.bound_count-count.ensures)
    (own_within c.args.join.now c.args.tree.now g.R.Rank.KEYS g.R.Rank.key c.args.node c.requires.ready i b
    (subst (λ xs. i < length xs) c.own_numbers.ensures l)
    (subst (λ xs. slice_index_or xs i None ≡ Some b) c.own_numbers.ensures e))

pub least_of-requires : goal.least_of-requires
least_of-requires g c = record {
  within = λ n b l e. subst (λ k. b.group < k) (sym c.bound_count-count.ensures) (c.requires.branches n b l e).0;
}

pub lists_by_group-requires-clause-ready : goal.lists_by_group-requires-clause-ready
lists_by_group-requires-clause-ready g c = c.requires.ready

pub lists_by_group-requires-clause-groups : goal.lists_by_group-requires-clause-groups
lists_by_group-requires-clause-groups g c =
    let size : c.bound_count-count.result ≡ length c.deref.result.now = sym c.in_ok-least.ensures.count ∙ sym c.deref.ensures.len in
    subst (λ n. AreGroups (own_bounds c.args.tree.now c.args.node) n c.in_ok-groups.groups) size
    (subst (λ xs. AreGroups xs c.bound_count-count.result c.in_ok-groups.groups) c.own_numbers.ensures c.in_ok-groups.ensures)

pub lists_by_group-requires-clause-fits : goal.lists_by_group-requires-clause-fits
lists_by_group-requires-clause-fits g c h k e =
    least_fits c.args.join.now c.args.tree.now g.R.Rank.KEYS g.R.Rank.key c.args.node c.args.branches.now c.in_ok-least.least.items
    c.requires.branches c.in_ok-least.ensures.least h k
    (subst (λ xs. slice_index_or xs h None ≡ Some k) c.deref.ensures.value e)

pub returns : goal.returns
returns g c =
    let d = g.R.Rank.KEYS in let key = g.R.Rank.key in let join = c.args.join.now in
    let tree = c.args.tree.now in let p = c.args.node in let least = c.deref.result.now in
    let size : c.bound_count-count.result ≡ length least = sym c.in_ok-least.ensures.count ∙ sym c.deref.ensures.len in
    let grouped = subst (λ n. AreGroups (own_bounds tree p) n c.in_ok-groups.groups) size
    (subst (λ xs. AreGroups xs c.bound_count-count.result c.in_ok-groups.groups) c.own_numbers.ensures c.in_ok-groups.ensures) in
    let its : AreLeast d key (length c.args.branches.now) c.args.branches.now least =
    subst (AreLeast d key (length c.args.branches.now) c.args.branches.now) (sym c.deref.ensures.value) c.in_ok-least.ensures.least in
    IfOk-weaker c.lists_by_group.result _ _
    (λ lists are n b l e.
    listed join tree d key p c.requires.ready c.in_ok-groups.groups least grouped (option_map key c.args.last.now)
    c.args.branches.now its (map (λ v. v.items) lists.items) are n b l e
    (at_list _ _ _ (c.requires.branches n b l e).0 (sym size ∙ c.bound_count-count.ensures)))
    c.lists_by_group.ensures

pub returns-in_err-groups : goal.returns-in_err-groups
returns-in_err-groups g c = IfOk-from_err c.from_residual.result _ c.from_residual.ensures.0

pub returns-in_err-least : goal.returns-in_err-least
returns-in_err-least g c = IfOk-from_err c.from_residual-in_err-least.result _ c.from_residual-in_err-least.ensures.0
