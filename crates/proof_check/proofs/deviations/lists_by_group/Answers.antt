use Rattle.std.proofs.Common.{◌≡◌, ◌<◌, ◌+◌, None, Some, [], ◌∷◌, length, map, option_map, slice_index, slice_index_or}
use Rattle.std.proofs.Common.{sym, ap, subst, ◌∙◌, arith}
use Rattle.std.proofs.lemmas.List.{get_or_default, map-append}
use Rattle.std.proofs.lemmas.Result.{IfOk-from_err}
use Rattle.tdp_core.specs.RawView.{raw_len}
use Rattle.proof_check.specs.Levels.{AreLists, AreOffers, FitsRows}
use Rattle.proof_check.proofs.Walking.{lists_more, row_fits, row_in}
use Rattle.proof_check.proofs.Counts.{none_below}
use Rattle.proof_check.proofs.deviations.lists_by_group.Goals as goal

pub loop-group-init : goal.loop-group-init
loop-group-init g c = record {
  count = ap (λ xs. length (map (λ v. v.items) xs)) c.new-lists.ensures.items;
  each = λ h k l e. absurd (none_below _ l);
}

pub group-rows-requires : goal.group-rows-requires
group-rows-requires g c = let n = c.requires.groups.count in let h = c.loop-group-test.true in omega (arith, n, h)

pub offers_of-requires-clause-ready : goal.offers_of-requires-clause-ready
offers_of-requires-clause-ready g c = c.requires.ready

pub offers_of-requires-clause-rows : goal.offers_of-requires-clause-rows
offers_of-requires-clause-rows g c m l =
    let e = c.group-rows.ensures in
    subst (λ xs. slice_index xs m < raw_len c.args.tree.now.raw c.args.node) (sym e)
    (row_in c.args.join.now c.args.tree.now g.R.Rank.KEYS g.R.Rank.key c.args.node c.requires.ready (length c.args.least.now)
    c.args.groups.now c.requires.groups c.loop-group.group m c.loop-group-test.true (subst (λ xs. m < length xs) e l)).0

pub offers_of-requires-clause-fits : goal.offers_of-requires-clause-fits
offers_of-requires-clause-fits g c k is =
    let d = g.R.Rank.KEYS in let key = g.R.Rank.key in let join = c.args.join.now in
    let tree = c.args.tree.now in let p = c.args.node in
    let here : slice_index_or c.args.least.now c.loop-group.group None ≡ Some k =
    get_or_default c.args.least.now c.loop-group.group None c.index-least-group.result c.loop-group-test.true
    ∙ sym c.index-least-group.is ∙ is in
    subst (λ xs. FitsRows join tree d key p xs (key k)) (sym c.group-rows.ensures)
    (row_fits join tree d key p c.requires.ready (length c.args.least.now) c.args.groups.now c.requires.groups c.loop-group.group
    (key k) c.loop-group-test.true (c.requires.fits c.loop-group.group k here))

pub loop-group-preserved : goal.loop-group-preserved
loop-group-preserved g c =
    let d = g.R.Rank.KEYS in let key = g.R.Rank.key in let join = c.args.join.now in
    let tree = c.args.tree.now in let p = c.args.node in
    let last = option_map key c.args.last.now in
    let h = c.loop-group.group in let old = c.loop-group.lists.items in
    let one = c.in_ok-offers.offers in
    subst (AreLists join tree d key p last c.args.groups.now c.args.least.now (h + 1))
    (sym (ap (map (λ v. v.items)) c.in_ok-push.ensures.items ∙ map-append (λ v. v.items) old (one ∷ [])))
    (lists_more join tree d key p last c.args.groups.now c.args.least.now h (map (λ v. v.items) old) one.items c.loop-group.invariant
    (λ k e. subst (λ xs. AreOffers join tree d key p xs (key k) last one.items) c.group-rows.ensures
    (c.in_ok-offers.ensures k (c.index-least-group.is
    ∙ get_or_default c.args.least.now h c.index-least-group.result None c.loop-group-test.true ∙ e))))

pub returns : goal.returns
returns g c =
    let d = g.R.Rank.KEYS in let key = g.R.Rank.key in let join = c.args.join.now in
    let tree = c.args.tree.now in let p = c.args.node in let f = c.loop-group-test.false in
    let done : c.loop-group.group ≡ length c.args.least.now = omega (arith, c.loop-group.auto.group-end, f) in
    subst (λ n. AreLists join tree d key p (option_map key c.args.last.now) c.args.groups.now c.args.least.now n
    (map (λ v. v.items) c.loop-group.lists.items)) done c.loop-group.invariant

pub returns-in_err-offers : goal.returns-in_err-offers
returns-in_err-offers g c = IfOk-from_err c.from_residual.result _ c.from_residual.ensures.0

pub returns-in_err-push : goal.returns-in_err-push
returns-in_err-push g c = IfOk-from_err c.from_residual-in_err-push.result _ c.from_residual-in_err-push.ensures.0
