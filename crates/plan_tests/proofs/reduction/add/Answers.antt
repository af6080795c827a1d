use Rattle.std.proofs.Common.{◌≡◌, ◌<◌, [], ap, sym, subst, ◌∙◌, arith}
use Rattle.rank_key.specs.Keys.{row_key}
use Rattle.tdp_core.specs.declared.parts.NodeShape.{NodeShape}
use Rattle.tdp_core.specs.RawView.{shape_item, shape_cap}
use Rattle.tdp_core.specs.WellFormed.{RowFits}
use Rattle.tdp_core.proofs.RowKeys.{row_key_fits}
use Rattle.plan_tests.specs.ChainTrees.{IsChain}
use Rattle.plan_tests.proofs.Held.{small_row_held}
use Rattle.plan_tests.proofs.SampleFacts.{on_ok_by}
use Rattle.plan_tests.proofs.reduction.add.Goals as goal

pub of_row-rank-requires-clause-held : goal.of_row-rank-requires-clause-held
of_row-rank-requires-clause-held g c =
    let shapes = c.args.tree.now.shapes in
    let v = c.args.node in
    let item : c.shape.result.now.item ≡ shape_item shapes v = ap (λ (s : NodeShape). s.item) c.shape.ensures in
    let below : shape_item shapes v < 16 = c.nodes-count.ensures.formed.shaped.items v (omega (arith, c.requires.chain.nodes, c.requires.node)) in
    small_row_held g.R.Rank.key g.met.R.Rank.holds g.met.R.Rank.rows_held c.requires.slots c.requires.limit
    [] c.shape.result.now.item c.args.number (λ i. omega arith) (omega (arith, item, below)) (omega (arith, c.requires.number))

pub add_row-requires-clause-fits : goal.add_row-requires-clause-fits
add_row-requires-clause-fits g c =
    let d = g.R.Rank.KEYS in
    let key = g.R.Rank.key in
    let shapes = c.args.tree.now.shapes in
    let v = c.args.node in
    let item : c.shape.result.now.item ≡ shape_item shapes v = ap (λ (s : NodeShape). s.item) c.shape.ensures in
    let below : shape_item shapes v < 16 = c.nodes-count.ensures.formed.shaped.items v (omega (arith, c.requires.chain.nodes, c.requires.node)) in
    let fits : RowFits d (shape_item shapes v) (shape_cap shapes v) c.args.number (key c.of_row-rank.result) =
    subst (RowFits d (shape_item shapes v) (shape_cap shapes v) c.args.number) (sym (c.of_row-rank.ensures ∙ ap (λ i. row_key d [] i c.args.number) item))
    (row_key_fits d [] (shape_item shapes v) c.args.number (shape_cap shapes v) below (λ i h. omega arith))
    in
    (fits, c.requires.children ∙ sym (c.requires.chain.children v c.requires.node))

pub returns-clause-chain : goal.returns-clause-chain
returns-clause-chain g c = on_ok_by (IsChain c.add_row.new.self.shapes) _ (λ is. subst (λ t. IsChain t.shapes) (sym is) c.requires.chain) c.add_row.result c.add_row.ensures.ok
