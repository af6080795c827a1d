use Rattle.std.proofs.Common.{◌≡◌, ℕ, ◌^◌, ◌<◌, ◌≤◌, [], ◌∷◌, get_or, pos, unsigned_abs, ap, sym, subst, ◌∙◌, arith}
use Rattle.std.specs.Int.{w128}
use Rattle.std.proofs.lemmas.Int.{to_z-of_z, fits_signed_from_abs}
use Rattle.rank_key.specs.Keys.{IsHeld, row_key}
use Rattle.tdp_core.specs.declared.parts.NodeShape.{NodeShape}
use Rattle.tdp_core.specs.RawView.{RawView, raw_len, row_total, shape_item, shape_cap, shape_children}
use Rattle.tdp_core.specs.WellFormed.{RowFits}
use Rattle.tdp_core.proofs.RawReads.{length_within}
use Rattle.tdp_core.proofs.RowKeys.{row_key_fits}
use Rattle.plan_tests.specs.SampleTrees.{IsSample}
use Rattle.plan_tests.proofs.Held.{one_small, small_row_held}
use Rattle.plan_tests.proofs.SampleFacts.{item_is, children_are, sum_capped, sample_more, on_ok_by}
use Rattle.plan_tests.proofs.solving.add.Goals as goal

low : {R : Type 0} (t : RawView R) (v number : ℕ) → number ≡ raw_len t v → row_total t < 100 → number < 2 ^ 21
low t v number is few = omega (arith, length_within t.rows v, is, few)

pub of_row-rank-requires-clause-held : goal.of_row-rank-requires-clause-held
of_row-rank-requires-clause-held g c =
    let shapes = c.args.tree.now.shapes in
    let v = c.args.node in
    let number = c.len-number.result in
    let item : c.shape.result.now.item ≡ shape_item shapes v = ap (λ (s : NodeShape). s.item) c.shape.ensures in
    let below : shape_item shapes v < 16 = subst (λ ss. shape_item ss v < 16) (sym c.requires.sample.shapes) (omega (arith, item_is v c.requires.node, c.requires.node)) in
    let read = to_z-of_z w128 c.args.sum (fits_signed_from_abs w128 c.args.sum (omega (arith, c.requires.sum))) in
    subst (λ s. IsHeld g.R.Rank.KEYS g.R.Rank.key (row_key g.R.Rank.KEYS (s ∷ []) c.shape.result.now.item number)) (sym read)
    (small_row_held g.R.Rank.key g.met.R.Rank.holds g.met.R.Rank.rows_held c.requires.slots c.requires.limit
    (c.args.sum ∷ []) c.shape.result.now.item number (one_small c.args.sum c.requires.sum) (omega (arith, item, below))
    (low c.args.tree.now v number c.len-number.ensures c.requires.room))

pub add_row-requires-clause-fits : goal.add_row-requires-clause-fits
add_row-requires-clause-fits g c =
    let d = g.R.Rank.KEYS in
    let key = g.R.Rank.key in
    let shapes = c.args.tree.now.shapes in
    let v = c.args.node in
    let number = c.len-number.result in
    let item : c.shape.result.now.item ≡ shape_item shapes v = ap (λ (s : NodeShape). s.item) c.shape.ensures in
    let below : shape_item shapes v < 16 = subst (λ ss. shape_item ss v < 16) (sym c.requires.sample.shapes) (omega (arith, item_is v c.requires.node, c.requires.node)) in
    let fits : RowFits d (shape_item shapes v) (shape_cap shapes v) number (key c.of_row-rank.result) =
    subst (RowFits d (shape_item shapes v) (shape_cap shapes v) number) (sym (c.of_row-rank.ensures ∙ ap (λ s. row_key d (s ∷ []) c.shape.result.now.item number) (to_z-of_z w128 c.args.sum (fits_signed_from_abs w128 c.args.sum (omega (arith, c.requires.sum)))) ∙ ap (λ i. row_key d (c.args.sum ∷ []) i number) item))
    (row_key_fits d (c.args.sum ∷ []) (shape_item shapes v) number (shape_cap shapes v) below
    (λ i h. subst (λ ss. unsigned_abs (get_or (c.args.sum ∷ []) i (pos 0)) ≤ shape_cap ss v i) (sym c.requires.sample.shapes) (sum_capped v i c.args.sum c.requires.node c.requires.sum)))
    in
    (fits, c.requires.children ∙ sym (children_are v c.requires.node) ∙ ap (λ ss. shape_children ss v) (sym c.requires.sample.shapes))

pub returns-clause-sample : goal.returns-clause-sample
returns-clause-sample g c = on_ok_by (IsSample c.add_row.new.self) _ (λ is. subst IsSample (sym is) (sample_more c.args.tree.now c.args.node _ c.requires.sample c.requires.node c.len-number.ensures)) c.add_row.result c.add_row.ensures.ok
