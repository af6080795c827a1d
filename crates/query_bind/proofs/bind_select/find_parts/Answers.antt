use Rattle.std.proofs.Common.{◌≡◌, ◌∙◌, List, ap, length, map, sym, subst, ℕ}
use Rattle.std.proofs.lemmas.List.{length-map}
use Rattle.anyk_model.specs.Query.{Equality, Item}
use Rattle.bound_query.specs.FilterViews.{filter_view}
use Rattle.bound_query.specs.StoredParts.{equality_view, item_view, items_view}
use Rattle.query_bind.specs.Filters.{HaveFilters}
use Rattle.query_bind.specs.Labels.{IsLabelling, least_in}
use Rattle.query_bind.specs.declared.classes.Member.{Member}
use Rattle.query_bind.proofs.AllFilters.{has_filters}
use Rattle.query_bind.proofs.AllVariables.{items_known}
use Rattle.query_bind.proofs.bind_select.find_parts.Goals.{After-as_slice-classes}
use Rattle.query_bind.proofs.bind_select.find_parts.Goals as goal

labels_of : (c : After-as_slice-classes) → IsLabelling c.args.selection.now.equalities (least_in c.as_slice-classes.result.now)
labels_of c =
    subst (λ (ms : List Member). IsLabelling c.args.selection.now.equalities (least_in ms)) (sym c.as_slice-classes.ensures.value)
    (subst (λ (es : List Equality). IsLabelling es (least_in c.in_ok-classes.classes.items)) c.equalities-equalities.ensures c.in_ok-classes.ensures)

pub find_structure-requires-clause-known : goal.find_structure-requires-clause-known
find_structure-requires-clause-known c = labels_of c

pub filters_of-requires-clause-known : goal.filters_of-requires-clause-known
filters_of-requires-clause-known c =
    items_known c.args.selection.now c.args.tables.now c.requires c.count-tables.ensures.sound c.bound_items-items.result.now
    c.bound_items-items.ensures.items c.bound_items-items.ensures.few

pub returns : goal.returns
returns c =
    let query = c.args.selection.now in
    let tables = c.args.tables.now in
    let label = least_in c.as_slice-classes.result.now in
    let items = c.bound_items-items.result.now in
    let eqs = c.equalities-equalities.result.now in
    let filters = map filter_view c.in_ok-filters.filters.items in
    let items_are : items_view items ≡ query.items = c.bound_items-items.ensures.items in
    let eqs_are : map equality_view eqs ≡ query.equalities = c.equalities-equalities.ensures in
    let count : length items ≡ length query.items = sym (length-map items item_view) ∙ ap length items_are in (
      c.in_ok-variables.ensures,
      has_filters query tables c.requires label filters (labels_of (goal.at.returns c).After-as_slice-classes)
          (subst (λ (n : ℕ). HaveFilters label query.equalities tables query.items n filters) count
          (subst (λ (l : List Item). HaveFilters label query.equalities tables l (length items) filters) items_are
          (subst (λ (es : List Equality). HaveFilters label es tables (items_view items) (length items) filters) eqs_are c.in_ok-filters.ensures))),
    )
