use Rattle.std.proofs.Common.{ℕ, List, [], ◌∷◌, ℤ, take, false, SFits, sym, ap, subst, ◌∙◌, arith, rules}
use mir.Syntax.{w128}
use Rattle.rank_key.specs.Keys.{IsHeld, row_key}
use Rattle.bound_query.specs.Weights.{part_of}
use Rattle.node_build.specs.Nodes.{item_of}
use Rattle.node_build.proofs.Fitting.{node_row_held}
use Rattle.node_build.proofs.Items.{item_below_16, row_below, table_there}
use Rattle.node_build.proofs.Ranks.{kept, one_part}
use Rattle.node_build.proofs.Shaped.{item_known}
use Rattle.node_build.proofs.shapes.rank_of.Goals as goal

pub table_of-requires : goal.table_of-requires
table_of-requires g c = item_known c.args.query.now.query c.args.join.now c.requires.ready.tree c.args.node c.requires.at.node

pub len-rows-requires : goal.len-rows-requires
len-rows-requires g c =
    let join = c.args.join.now in
    let known = item_known c.args.query.now.query join c.requires.ready.tree c.args.node c.requires.at.node in
    table_there c.args.query.now c.args.tables.now c.requires.ready.fits (item_of join c.args.node) c.table_of.result known c.table_of.ensures

pub part-requires-clause-item : goal.part-requires-clause-item
part-requires-clause-item g c = item_known c.args.query.now.query c.args.join.now c.requires.ready.tree c.args.node c.requires.at.node

pub of_row-requires-clause-slot : goal.of_row-requires-clause-slot
of_row-requires-clause-slot g c = item_below_16 c.args.query.now.query c.args.join.now c.requires.ready.tree c.args.node c.requires.at.node

pub of_row-requires-clause-held : goal.of_row-requires-clause-held
of_row-requires-clause-held g c =
    let query = c.args.query.now in
    let tables = c.args.tables.now in
    let join = c.args.join.now in
    let item = item_of join c.args.node in
    let known = item_known query.query join c.requires.ready.tree c.args.node c.requires.at.node in
    let low = row_below tables query.query.items item c.table_of.result c.len-rows.result c.args.row g.R.Rank.ROWS
    c.table_of.ensures c.len-rows.ensures.rows c.len-rows.ensures.limit c.requires.at.row_there g.met.R.Rank.rows_held in
    let held = node_row_held query tables g.R.Rank.LIMIT item c.args.row c.requires.ready.limit known g.R.Rank.KEYS g.R.Rank.key g.R.Rank.ITEMS g.R.Rank.ROWS
    g.met.R.Rank.holds (item_below_16 query.query join c.requires.ready.tree c.args.node c.requires.at.node) (omega (arith, known, c.requires.ready.slots)) low in
    let fits : SFits w128 c.part.result = search rules in
    let part = kept c.part.result fits ∙ c.part.ensures in
    let only = one_part (part_of tables query.query.items item c.args.row) query.query.order (record { terms = []; descending = false }) (sym c.if-keys-eq1.true ∙ c.keys.ensures.keys) in
    subst (λ (zs : List ℤ). IsHeld g.R.Rank.KEYS g.R.Rank.key (row_key g.R.Rank.KEYS zs item c.args.row)) (sym (ap (λ (z : ℤ). z ∷ []) part ∙ only)) held

pub returns-then-keys-eq1 : goal.returns-then-keys-eq1
returns-then-keys-eq1 g c =
    let query = c.args.query.now.query in
    let item = item_of c.args.join.now c.args.node in
    let fits : SFits w128 c.part.result = search rules in
    let part = kept c.part.result fits ∙ c.part.ensures in
    let only = one_part (part_of c.args.tables.now query.items item c.args.row) query.order (record { terms = []; descending = false }) (sym c.if-keys-eq1.true ∙ c.keys.ensures.keys) in
    c.of_row.ensures ∙ ap (λ (zs : List ℤ). row_key g.R.Rank.KEYS zs item c.args.row) (ap (λ (z : ℤ). z ∷ []) part ∙ only)

pub parts_of-parts-requires-clause-item : goal.parts_of-parts-requires-clause-item
parts_of-parts-requires-clause-item g c = item_known c.args.query.now.query c.args.join.now c.requires.ready.tree c.args.node c.requires.at.node

pub of_row-requires-2-clause-slot : goal.of_row-requires-2-clause-slot
of_row-requires-2-clause-slot g c = item_below_16 c.args.query.now.query c.args.join.now c.requires.ready.tree c.args.node c.requires.at.node

pub of_row-requires-2-clause-held : goal.of_row-requires-2-clause-held
of_row-requires-2-clause-held g c =
    let query = c.args.query.now in
    let tables = c.args.tables.now in
    let join = c.args.join.now in
    let item = item_of join c.args.node in
    let known = item_known query.query join c.requires.ready.tree c.args.node c.requires.at.node in
    let low = row_below tables query.query.items item c.table_of.result c.len-rows.result c.args.row g.R.Rank.ROWS
    c.table_of.ensures c.len-rows.ensures.rows c.len-rows.ensures.limit c.requires.at.row_there g.met.R.Rank.rows_held in
    let held = node_row_held query tables g.R.Rank.LIMIT item c.args.row c.requires.ready.limit known g.R.Rank.KEYS g.R.Rank.key g.R.Rank.ITEMS g.R.Rank.ROWS
    g.met.R.Rank.holds (item_below_16 query.query join c.requires.ready.tree c.args.node c.requires.at.node) (omega (arith, known, c.requires.ready.slots)) low in
    let parts = ap (λ n. take n c.parts_of-parts.result) c.keys-2.ensures.keys ∙ c.parts_of-parts.ensures in
    subst (λ (zs : List ℤ). IsHeld g.R.Rank.KEYS g.R.Rank.key (row_key g.R.Rank.KEYS zs item c.args.row)) (sym parts) held

pub returns : goal.returns
returns g c =
    let parts = ap (λ (n : ℕ). take n c.parts_of-parts.result) c.keys-2.ensures.keys ∙ c.parts_of-parts.ensures in
    c.of_row-2.ensures ∙ ap (λ (zs : List ℤ). row_key g.R.Rank.KEYS zs (item_of c.args.join.now c.args.node) c.args.row) parts
