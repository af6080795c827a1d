use Rattle.std.proofs.Common.{◌∙◌, ℕ, filter, sym, ap}
use Rattle.std.proofs.lemmas.List.{take_all}
use Rattle.bound_query.specs.StoredParts.{column_view}
use Rattle.query_bind.specs.Variables.{is_variable}
use Rattle.query_bind.proofs.Search.{filter_hit, filter_miss}
use Rattle.query_bind.proofs.variables.find_variables.Goals as goal

pub loop-column-preserved-then-not-starts_variable : goal.loop-column-preserved-then-not-starts_variable
loop-column-preserved-then-not-starts_variable c =
    filter_miss (λ (p : ℕ × ℕ). is_variable c.args.classes.now c.args.equalities.now (column_view p)) c.args.columns.now c.loop-column.column-index (0, 0)
    c.loop-column-test.true (sym c.starts_variable.ensures ∙ c.if-not-starts_variable.true) c.loop-column.invariant

pub loop-column-preserved : goal.loop-column-preserved
loop-column-preserved c =
    filter_hit (λ (p : ℕ × ℕ). is_variable c.args.classes.now c.args.equalities.now (column_view p)) c.args.columns.now c.loop-column.column-index (0, 0)
    c.loop-column-test.true (sym c.starts_variable.ensures ∙ c.if-not-starts_variable.false) c.loop-column.invariant c.in_ok-push.ensures.items

pub returns : goal.returns
returns c =
    c.loop-column.invariant
    ∙ ap (filter (λ (p : ℕ × ℕ). is_variable c.args.classes.now c.args.equalities.now (column_view p)))
    (take_all c.loop-column.column-index c.args.columns.now c.loop-column-test.false)
