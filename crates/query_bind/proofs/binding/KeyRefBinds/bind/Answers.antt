use Rattle.std.proofs.Common.{◌∙◌, ap, subst, sym, map, List}
use Rattle.std.proofs.lemmas.Result.{err_from_is_err_and}
use Rattle.anyk_model.specs.Query.{Term}
use Rattle.query_select.specs.declared.select.Term.{Term as TermRef}
use Rattle.bound_query.specs.StoredParts.{items_view}
use Rattle.query_bind.specs.Answers.{IsBindFault, term_fault}
use Rattle.query_bind.specs.Binding.{bound_term}
use Rattle.query_bind.specs.Names.{first_of}
use Rattle.query_bind.proofs.binding.KeyRefBinds.bind.Goals as goal

pub returns-in_err-terms : goal.returns-in_err-terms
returns-in_err-terms c =
    let p = err_from_is_err_and c.from_residual.result c.from_residual.ensures.1 in
    let tables = c.args.tables.now in
    let items = items_view c.args.items.now in
    rw (p.1, p.2) (subst (λ (ts : List TermRef). IsBindFault (first_of (term_fault tables items) ts) c.in_err-terms.field-0.0) c.as_slice.ensures c.in_err-terms.ensures)

pub returns : goal.returns
returns c =
    let tables = c.args.tables.now in
    let items = items_view c.args.items.now in (
      ap (λ (ts : List Term). record { terms = ts; descending = c.args.self.now.descending }) (c.in_ok-terms.ensures.0 ∙ ap (map (bound_term tables items)) c.as_slice.ensures),
      ap (first_of (term_fault tables items)) (sym c.as_slice.ensures) ∙ c.in_ok-terms.ensures.1,
    )
