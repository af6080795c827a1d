use Rattle.std.proofs.Common.{◌<◌, length, sym, subst, arith}
use Rattle.anyk_model.specs.Query.{Item, row_counts}
use Rattle.anyk_model.specs.Table.{table_at}
use Rattle.bound_query.specs.NamedPlaces.{HasTable}
use Rattle.bound_query.proofs.Lists.{all_at}
use Rattle.plan_build.proofs.Sizes.{row_count_at, sum_one_more}
use Rattle.std.proofs.lemmas.List.{length-map}
use Rattle.plan_build.proofs.plan.rows_of_tables.Goals as goal

pub len-requires : goal.len-requires
len-requires c =
    let items = c.args.query.now.query.items in
    let tables = c.args.tables.now in
    let i = c.loop-item.item in
    let low : i < length items = subst (λ n. i < n) c.items-item-end.ensures.items c.loop-item-test.true in
    subst (λ t. t < length tables) (sym c.table_of.ensures) (all_at (HasTable tables) items i _ c.requires.fits.within.items low)

pub loop-item-preserved : goal.loop-item-preserved
loop-item-preserved c =
    let items = c.args.query.now.query.items in
    let tables = c.args.tables.now in
    let i = c.loop-item.item in
    let before = c.loop-item.invariant in
    let inside = c.loop-item-test.true in
    let low : i < length items = omega (arith, inside, c.items-item-end.ensures.items) in
    let here = row_count_at items tables i low in
    let long = length-map items (λ (i : Item). length ((table_at tables i.table).rows)) in
    let more = sum_one_more (row_counts items tables) i (omega (arith, low, long)) in
    let table = rw c.table_of.ensures at c.len.ensures.rows in
    record {
      summed = omega (arith, before.summed, here, more, table);
      few = omega (arith, before.few, c.len.ensures.limit);
    }
