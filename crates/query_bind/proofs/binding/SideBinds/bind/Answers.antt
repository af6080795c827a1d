use Rattle.std.proofs.Common.{◌∙◌, None, Option, sym, ap}
use Rattle.std.specs.Option.{option_or}
use Rattle.anyk_model.specs.Query.{of_column, of_constant}
use Rattle.bound_query.specs.StoredParts.{items_view}
use Rattle.query_bind.specs.Answers.{side_fault}
use Rattle.query_bind.specs.Binding.{bound_side}
use Rattle.query_bind.specs.declared.fault.BindFault.{BindFault}
use Rattle.query_bind.proofs.binding.SideBinds.bind.Goals as goal

pub returns-in_ok-column-in-Column : goal.returns-in_ok-column-in-Column
returns-in_ok-column-in-Column c =
    let tables = c.args.tables.now in
    let items = items_view c.args.items.now in (
      ap of_column c.in_ok-column-in-Column.ensures.0 ∙ ap (bound_side tables items) (sym c.in-Column.is),
      ap (side_fault tables items) c.in-Column.is ∙ ap (λ (o : Option BindFault). option_or o None) c.in_ok-column-in-Column.ensures.1,
    )

pub returns-in_ok-copy-in-Constant : goal.returns-in_ok-copy-in-Constant
returns-in_ok-copy-in-Constant c =
    let tables = c.args.tables.now in
    let items = items_view c.args.items.now in (
      ap of_constant (c.from_vec.ensures ∙ c.in_ok-copy-in-Constant.ensures.items ∙ c.bytes.ensures) ∙ ap (bound_side tables items) (sym c.in-Constant.is),
      ap (side_fault tables items) c.in-Constant.is,
    )
