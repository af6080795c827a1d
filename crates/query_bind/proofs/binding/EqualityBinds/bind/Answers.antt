use Rattle.std.proofs.Common.{◌∙◌, Option, ap, sym, subst}
use Rattle.std.specs.Option.{option_or}
use Rattle.std.proofs.lemmas.Result.{err_from_is_err_and}
use Rattle.bound_query.specs.StoredParts.{items_view}
use Rattle.query_bind.specs.Answers.{IsBindFault, side_fault}
use Rattle.query_bind.specs.Names.{ref_fault}
use Rattle.query_bind.specs.declared.fault.BindFault.{BindFault}
use Rattle.query_bind.proofs.Collect.{tells_before}
use Rattle.query_bind.proofs.binding.EqualityBinds.bind.Goals as goal

pub returns-in_err-left : goal.returns-in_err-left
returns-in_err-left c =
    let p = err_from_is_err_and c.from_residual.result c.from_residual.ensures.1 in
    let tables = c.args.tables.now in
    let items = items_view c.args.items.now in
    rw (p.1, p.2) (tells_before (ref_fault tables items c.args.self.now.left) (side_fault tables items c.args.self.now.right) c.in_err-left.field-0.0 c.in_err-left.ensures)

pub returns-in_err-right : goal.returns-in_err-right
returns-in_err-right c =
    let p = err_from_is_err_and c.from_residual-in_err-right.result c.from_residual-in_err-right.ensures.1 in
    let right = side_fault c.args.tables.now (items_view c.args.items.now) c.args.self.now.right in
    rw (p.1, p.2) (subst (λ (o : Option BindFault). IsBindFault (option_or o right) c.in_err-right.field-0.0) (sym c.in_ok-left.ensures.1) c.in_err-right.ensures)

pub returns : goal.returns
returns c =
    let left = c.in_ok-left.ensures.0 in
    let right = c.in_ok-right.ensures.0 in
    let others = side_fault c.args.tables.now (items_view c.args.items.now) c.args.self.now.right in
    (λ i. record { left = left i; right = right i }, ap (λ (o : Option BindFault). option_or o others) c.in_ok-left.ensures.1 ∙ c.in_ok-right.ensures.1)
