use Rattle.std.proofs.Common.{◌<◌, ◌∙◌, length, sym, ap, Option, ℕ}
use Rattle.bound_query.specs.StoredParts.{items_view}
use Rattle.query_bind.specs.Answers.{found_answer}
use Rattle.query_bind.specs.Names.{column_at, item_named, only}
use Rattle.query_bind.proofs.Looking.{item_column}
use Rattle.bound_query.specs.declared.bound.BoundItem.{BoundItem}
use Rattle.bound_query.proofs.Lists.{all_at}
use Rattle.query_bind.proofs.names.column_of_item.Goals as goal

pub place_of-requires : goal.place_of-requires
place_of-requires c = all_at (λ (i : BoundItem). i.table < length c.args.tables.now) c.args.items.now c.in-Some.item c.index-items-item.result c.requires.known c.in-Some.ensures.within

pub returns : goal.returns
returns c =
    let x = c.args.reference.now in
    let named = c.in-Some.ensures.first ∙ ap (item_named (items_view c.args.items.now)) c.bytes.ensures in
    ap (λ (p : Option ℕ). found_answer x.at (only (column_at c.in-Some.item p))) (sym c.in-Some-place_of.is)
    ∙ item_column c.args.tables.now x.column c.bytes-2.result.now c.args.alias.now c.args.items.now c.in-Some.item x.at c.index-items-item.result c.place_of.result
    c.in-Some.ensures.within c.bytes-2.ensures c.place_of.ensures named

pub returns-in_default-place_of : goal.returns-in_default-place_of
returns-in_default-place_of c =
    let x = c.args.reference.now in
    let named = c.in-Some.ensures.first ∙ ap (item_named (items_view c.args.items.now)) c.bytes.ensures in
    ap (λ (p : Option ℕ). found_answer x.at (only (column_at c.in-Some.item p))) (sym c.in_default-place_of.is)
    ∙ item_column c.args.tables.now x.column c.bytes-2.result.now c.args.alias.now c.args.items.now c.in-Some.item x.at c.index-items-item.result c.place_of.result
    c.in-Some.ensures.within c.bytes-2.ensures c.place_of.ensures named
