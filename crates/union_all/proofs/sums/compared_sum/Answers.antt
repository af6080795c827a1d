use Rattle.std.proofs.Common.{◌≡◌, SFits, length, take, sym, ◌∙◌, rules}
use mir.Syntax.{w128}
use mir.Val.{of_z, to_z}
use Rattle.std.proofs.lemmas.Int.{to_z-of_z}
use Rattle.union_all.proofs.Compared.{descending_rank, rank_fits}
use Rattle.union_all.proofs.sums.compared_sum.Goals as goal

pub overflow_sub-result : goal.overflow_sub-result
overflow_sub-result c =
    let rows = take (length c.args.query.now.query.items) c.args.rows.now in
    let fits : SFits w128 c.key_sum-sum.result = search rules in
    let same : to_z w128 (of_z w128 c.key_sum-sum.result) ≡ c.key_sum-sum.result = simp to_z-of_z in
    rank_fits c.args.query.now c.args.tables.now c.requires.fits rows c.args.key c.requires.key _
    (descending_rank c.args.query.now c.args.tables.now c.requires.fits rows c.args.key c.requires.key _ (same ∙ c.key_sum-sum.ensures) (sym c.descending.ensures ∙ c.if-descending.true))

pub returns-then-descending : goal.returns-then-descending
returns-then-descending c =
    let rows = take (length c.args.query.now.query.items) c.args.rows.now in
    let fits : SFits w128 c.key_sum-sum.result = search rules in
    let same : to_z w128 (of_z w128 c.key_sum-sum.result) ≡ c.key_sum-sum.result = simp to_z-of_z in
    let is = descending_rank c.args.query.now c.args.tables.now c.requires.fits rows c.args.key c.requires.key _ (same ∙ c.key_sum-sum.ensures) (sym c.descending.ensures ∙ c.if-descending.true) in
    to_z-of_z w128 _ (rank_fits c.args.query.now c.args.tables.now c.requires.fits rows c.args.key c.requires.key _ is) ∙ is
