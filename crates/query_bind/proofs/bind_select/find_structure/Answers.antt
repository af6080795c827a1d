use Rattle.std.proofs.Common.{◌≡◌, ◌≤◌, ◌∙◌, sym, ap, subst, map, filter, length, arith, List, ℕ}
use Rattle.anyk_model.specs.Query.{Equality}
use Rattle.query_bind.specs.Labels.{IsLabelling, least_in}
use Rattle.bound_query.specs.StoredParts.{column_view, equality_view, items_view, lists_view}
use Rattle.query_bind.specs.Variables.{HavePlacesEach, is_variable}
use Rattle.query_bind.proofs.AllVariables.{few_variables, items_known, structure}
use Rattle.query_bind.proofs.bind_select.find_structure.Goals as goal

pub all_columns-requires-clause-known : goal.all_columns-requires-clause-known
all_columns-requires-clause-known c =
    items_known c.args.selection.now c.args.tables.now c.requires.within c.count-tables.ensures.sound c.bound_items-items.result.now
    c.bound_items-items.ensures.items c.bound_items-items.ensures.few

pub places_of_all-requires-clause-few : goal.places_of_all-requires-clause-few
places_of_all-requires-clause-few c =
    let items = c.bound_items-items.result.now in
    let eqs = c.equalities-equalities.result.now in
    let found : c.in_ok-least.least.items ≡ filter (λ p. is_variable c.args.classes.now eqs (column_view p)) c.in_ok-columns.columns.items =
    c.in_ok-least.ensures ∙ ap (filter (λ (p : ℕ × ℕ). is_variable c.args.classes.now eqs (column_view p))) c.as_slice.ensures.value in
    let few : length c.in_ok-least.least.items ≤ 1024 =
    few_variables c.args.selection.now c.args.tables.now c.requires.within c.count-tables.ensures.sound items
    c.bound_items-items.ensures.items c.bound_items-items.ensures.few
    c.in_ok-columns.columns.items c.in_ok-least.least.items c.in_ok-columns.ensures (λ p. is_variable c.args.classes.now eqs (column_view p)) found in
    omega (arith, few, ap length c.as_slice-2.ensures.value)

pub places_of_all-requires-clause-known : goal.places_of_all-requires-clause-known
places_of_all-requires-clause-known c =
    items_known c.args.selection.now c.args.tables.now c.requires.within c.count-tables.ensures.sound c.bound_items-items.result.now
    c.bound_items-items.ensures.items c.bound_items-items.ensures.few

pub returns : goal.returns
returns c =
    let items = c.bound_items-items.result.now in
    let eqs = c.equalities-equalities.result.now in
    let ms = c.args.classes.now in
    let tables = c.args.tables.now in
    let lists = lists_view c.in_ok-of_items.of_items.items in
    let eqs_are : map equality_view eqs ≡ c.args.selection.now.equalities = c.equalities-equalities.ensures in
    let found : c.in_ok-least.least.items ≡ filter (λ p. is_variable ms eqs (column_view p)) c.in_ok-columns.columns.items =
    c.in_ok-least.ensures ∙ ap (filter (λ (p : ℕ × ℕ). is_variable ms eqs (column_view p))) c.as_slice.ensures.value in
    let each : HavePlacesEach (least_in ms) (map column_view c.in_ok-least.least.items) tables (items_view items) (length items) lists =
    subst (λ (l : List (ℕ × ℕ)). HavePlacesEach (least_in ms) (map column_view l) tables (items_view items) (length items) lists) c.as_slice-2.ensures.value c.in_ok-of_items.ensures in
    structure c.args.selection.now tables c.requires.within c.count-tables.ensures.sound items
    c.bound_items-items.ensures.items c.bound_items-items.ensures.few
    ms eqs c.in_ok-columns.columns.items c.in_ok-least.least.items lists eqs_are
    (subst (λ (es : List Equality). IsLabelling es (least_in ms)) (sym eqs_are) c.requires.known) c.in_ok-columns.ensures found each
