use Rattle.std.proofs.Common.{◌≡◌, ◌≢◌, ◌<◌, [], length, get_or, sym, ap, subst, ◌∙◌, inl, inr, arith}
use Rattle.std.proofs.Math.ListN.{length-set, set}
use Rattle.std.proofs.lemmas.Bool.{cases_eq}
use Rattle.tdp_model.specs.KeyTuple.{key_add}
use Rattle.rank_key.specs.Keys.{KeyFits}
use Rattle.tree_dp.specs.Orders.{joined_at, key_at}
use Rattle.tree_dp.proofs.JoinedBests.{key_kept, key_read, key_set}
use Rattle.tree_dp.proofs.bests.add_leasts.Goals as goal

pub join-requires : goal.join-requires
join-requires g c =
    let d = g.R.Rank.KEYS in
    let key = g.R.Rank.key in
    let l = c.loop-row.invariant in
    let row = c.loop-row.row in
    let first = c.args.bests.now.items in
    let here : row < length first = omega (arith, c.loop-row-test.true, c.len-row-end.ensures, c.args.bests.now.ok.0) in
    let inside : row < length c.loop-row.bests.items = omega (arith, here, l.long) in
    let own : key c.index.result.now ≡ key_at d key first row = sym (key_read d key c.loop-row.bests.items row c.index.result.now inside c.index.ensures) ∙ l.rest row (omega arith) in
    let group = c.get-group.ensures in
    let there : c.get-group.result < length c.args.leasts.now = subst (λ k. k < length c.args.leasts.now) (sym group) (c.requires.groups row here) in
    let least : key c.index-leasts-group.result ≡ key_at d key c.args.leasts.now (get_or (get_or c.args.named.now.rows row []) c.args.child 0) =
    sym (key_read d key c.args.leasts.now c.get-group.result c.index-leasts-group.result there c.index-leasts-group.is) ∙ ap (key_at d key c.args.leasts.now) group in
    subst (λ k. KeyFits d key (key_add d 16 k (key c.index-leasts-group.result))) (sym own)
    (subst (λ k. KeyFits d key (key_add d 16 (key_at d key first row) k)) (sym least) (c.requires.fits row here))

pub loop-row-preserved : goal.loop-row-preserved
loop-row-preserved g c =
    let d = g.R.Rank.KEYS in
    let key = g.R.Rank.key in
    let l = c.loop-row.invariant in
    let row = c.loop-row.row in
    let first = c.args.bests.now.items in
    let now = c.loop-row.bests.items in
    let x = c.join.result in
    let here : row < length first = omega (arith, c.loop-row-test.true, c.len-row-end.ensures, c.args.bests.now.ok.0) in
    let inside : row < length now = omega (arith, here, l.long) in
    let own : key c.index.result.now ≡ key_at d key first row = sym (key_read d key now row c.index.result.now inside c.index.ensures) ∙ l.rest row (omega arith) in
    let group = c.get-group.ensures in
    let there : c.get-group.result < length c.args.leasts.now = subst (λ k. k < length c.args.leasts.now) (sym group) (c.requires.groups row here) in
    let least : key c.index-leasts-group.result ≡ key_at d key c.args.leasts.now (get_or (get_or c.args.named.now.rows row []) c.args.child 0) =
    sym (key_read d key c.args.leasts.now c.get-group.result c.index-leasts-group.result there c.index-leasts-group.is) ∙ ap (key_at d key c.args.leasts.now) group in
    let made : key x ≡ joined_at d key first c.args.named.now.rows c.args.child c.args.leasts.now row =
    c.join.ensures.sum ∙ ap (λ k. key_add d 16 k (key c.index-leasts-group.result)) own ∙ ap (key_add d 16 (key_at d key first row)) least in
    record {
      long = length-set now row x ∙ l.long;
      done = λ r h. elim (cases_eq r row) [
        | inl e ↦ subst (λ k. key_at d key (set now row x) k ≡ joined_at d key first c.args.named.now.rows c.args.child c.args.leasts.now k) (sym e) (key_set d key now row x inside ∙ made)
        | inr other ↦ key_kept d key now row r x other ∙ l.done r (omega arith)
      ];
      rest = λ r h. let other : r ≢ row = λ e. omega (arith, e, h) in key_kept d key now row r x other ∙ l.rest r (omega (arith, h));
      counted = omega (arith, c.join.ensures.counted, l.counted);
    }
