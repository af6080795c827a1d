use Rattle.std.proofs.Common.{◌≡◌, ◌<◌, ◌-◌, ◌∙◌, sym, ap, subst, length, ℕ}
use Rattle.anyk_model.specs.Table.{field_at, table_at}
use Rattle.bound_query.specs.FilterViews.{constant_view, filter_view}
use Rattle.bound_query.specs.Filters.{HasConstants, HasEqual}
use Rattle.bound_query.specs.Items.{item_at}
use Rattle.bound_query.specs.WeighedQuery.{BoundQuery}
use Rattle.bound_query.specs.declared.filters.Constant.{Constant}
use Rattle.bound_query.proofs.RowTests.{constant_inside, first_inside, second_inside, stored_filter, passes_iff}
use Rattle.rankings.proofs.Members.{member_map}
use Rattle.bound_query.proofs.Witness.{all_of_members}
use Rattle.bound_query.proofs.query.Query.passes.Goals as goal

pub stands-requires-clause-left : goal.stands-requires-clause-left
stands-requires-clause-left c =
    let now = c.args.self.now in
    let tables = c.args.tables.now in
    let w = c.index.result.now in
    let known = stored_filter now tables c.requires.fits c.self.inside.filters.items (ap (λ (b : BoundQuery). b.filters) c.self.view_is) c.args.item w c.requires.item c.index.ensures in
    let t : c.table_of-table.result ≡ (item_at now.query.items c.args.item).table =
    c.table_of-table.ensures ∙ ap (λ (b : BoundQuery). (item_at b.query.items c.args.item).table) c.self.view_is in
    all_of_members (λ (v : ℕ × ℕ). v.0 < length (table_at tables c.table_of-table.result).names) w.pairs.items
    (λ v m. subst (λ (n : ℕ). v.0 < length (table_at tables n).names) (sym t) (first_inside now.query tables c.requires.fits.within c.args.item (filter_view w) known v m))

pub stands-requires-clause-right : goal.stands-requires-clause-right
stands-requires-clause-right c =
    let now = c.args.self.now in
    let tables = c.args.tables.now in
    let w = c.index.result.now in
    let known = stored_filter now tables c.requires.fits c.self.inside.filters.items (ap (λ (b : BoundQuery). b.filters) c.self.view_is) c.args.item w c.requires.item c.index.ensures in
    let t : c.table_of-table.result ≡ (item_at now.query.items c.args.item).table =
    c.table_of-table.ensures ∙ ap (λ (b : BoundQuery). (item_at b.query.items c.args.item).table) c.self.view_is in
    all_of_members (λ (v : ℕ × ℕ). v.1 < length (table_at tables c.table_of-table.result).names) w.pairs.items
    (λ v m. subst (λ (n : ℕ). v.1 < length (table_at tables n).names) (sym t) (second_inside now.query tables c.requires.fits.within c.args.item (filter_view w) known v m))

pub stands-requires-clause-places : goal.stands-requires-clause-places
stands-requires-clause-places c =
    let now = c.args.self.now in
    let tables = c.args.tables.now in
    let w = c.index.result.now in
    let known = stored_filter now tables c.requires.fits c.self.inside.filters.items (ap (λ (b : BoundQuery). b.filters) c.self.view_is) c.args.item w c.requires.item c.index.ensures in
    let t : c.table_of-table.result ≡ (item_at now.query.items c.args.item).table =
    c.table_of-table.ensures ∙ ap (λ (b : BoundQuery). (item_at b.query.items c.args.item).table) c.self.view_is in
    all_of_members (λ (y : Constant). y.place < length (table_at tables c.table_of-table.result).names) w.constants.items
    (λ y m. subst (λ (n : ℕ). y.place < length (table_at tables n).names) (sym t)
    (constant_inside now.query tables c.requires.fits.within c.args.item (filter_view w) known (constant_view y) (member_map constant_view y w.constants.items m)))

pub returns : goal.returns
returns c =
    let now = c.args.self.now in
    let tables = c.args.tables.now in
    let w = c.index.result.now in
    let f = filter_view w in
    let known = stored_filter now tables c.requires.fits c.self.inside.filters.items (ap (λ (b : BoundQuery). b.filters) c.self.view_is) c.args.item w c.requires.item c.index.ensures in
    let t : c.table_of-table.result ≡ (item_at now.query.items c.args.item).table =
    c.table_of-table.ensures ∙ ap (λ (b : BoundQuery). (item_at b.query.items c.args.item).table) c.self.view_is in
    let iff = passes_iff now.query tables c.args.item c.args.row f known in
    let P = λ (n : ℕ). HasEqual (field_at (table_at tables n) (c.args.row - 1)) f.pairs × HasConstants (field_at (table_at tables n) (c.args.row - 1)) f.constants in
    (λ h. iff.0 (subst P t (c.stands.ensures.0 h)), λ p. c.stands.ensures.1 (subst P (sym t) (iff.1 p)))
