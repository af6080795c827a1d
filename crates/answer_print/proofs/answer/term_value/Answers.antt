use Rattle.std.proofs.Common.{◌≡◌, ◌<◌, ◌≤◌, ◌-◌, ◌∙◌, ℕ, ℤ, true, false, pos, ◌-ℤ◌, [], List, FitsSigned, SFits, Option, length, take, get_or, unwrap_or, ap, sym, arith, rules}
use mir.Syntax.{w128}
use mir.Val.{of_z, to_z}
use Rattle.std.proofs.lemmas.Int.{to_z-of_z}
use Rattle.anyk_model.specs.Table.{Table, field_at, table_at}
use Rattle.anyk_model.specs.Weight.{weight_of}
use Rattle.anyk_model.specs.Query.{IsCombination, Query, Term, row_counts, term_value, value_of}
use Rattle.bound_query.specs.NamedPlaces.{HasTable}
use Rattle.bound_query.specs.Items.{item_at}
use Rattle.bound_query.specs.StoredParts.{column_view, term_view}
use Rattle.bound_query.specs.Weights.{column_size, most_sum}
use Rattle.bound_query.specs.declared.bound.BoundTerm.{BoundTerm}
use Rattle.bound_query.proofs.Lists.{all_at}
use Rattle.answer_print.proofs.Places.{row_there}
use Rattle.answer_print.proofs.KeySums.{negated_fits, value_kept, value_negated}
use Rattle.answer_print.proofs.answer.term_value.Goals as goal

-- the number that is read is the weight of the field that the column names, and fits if it is negated
record IsRead (query : Query) (tables : List Table) (rows : List ℕ) (term : Term) (z : ℤ) : Type 0 where
  pub fits : FitsSigned w128 (pos 0 -ℤ z)
  pub negated : term.minus ≡ true → pos 0 -ℤ z ≡ term_value query tables rows term
  pub kept : term.minus ≡ false → z ≡ term_value query tables rows term

term_read : (query : Query) (tables : List Table) (rows : List ℕ) (t : BoundTerm) (table : ℕ) (read : Option ℤ) (kept : ℤ)
    → IsCombination (row_counts query.items tables) (take (length query.items) rows) → t.column.0 < length query.items → column_size tables query.items (term_view t).column ≤ most_sum
    → table ≡ (item_at query.items t.column.0).table → read ≡ weight_of (field_at (table_at tables table) (get_or rows t.column.0 0 - 1) t.column.1) → kept ≡ unwrap_or read (pos 0)
    → SFits w128 kept → IsRead query tables (take (length query.items) rows) (term_view t) (to_z w128 (of_z w128 kept))
term_read query tables rows t table read kept chosen inside small at is by fits =
    let row = row_there tables query.items rows t.column.0 chosen inside in
    let z = to_z w128 (of_z w128 kept) in
    let weight : z ≡ unwrap_or (weight_of (value_of query tables (take (length query.items) rows) (column_view t.column))) (pos 0) = to_z-of_z w128 kept fits ∙ by
    ∙ ap (λ (o : Option ℤ). unwrap_or o (pos 0)) (is ∙ (λ i. weight_of (field_at (table_at tables (at i)) (sym row.same i - 1) t.column.1))) in
    record {
      fits = negated_fits query tables (take (length query.items) rows) (term_view t) z small weight;
      negated = value_negated query tables (take (length query.items) rows) (term_view t) z weight;
      kept = value_kept query tables (take (length query.items) rows) (term_view t) z weight;
    }

pub bounds-rows-item : goal.bounds-rows-item
bounds-rows-item c =
    let row = row_there c.args.tables.now c.args.query.now.query.items c.args.rows.now c.args.term.now.column.0 c.requires.rows c.requires.inside.item in
    omega (arith, row.place)

pub weight-requires : goal.weight-requires
weight-requires c =
    let row = row_there c.args.tables.now c.args.query.now.query.items c.args.rows.now c.args.term.now.column.0 c.requires.rows c.requires.inside.item in
    let table = all_at (HasTable c.args.tables.now) c.args.query.now.query.items c.args.term.now.column.0 (record { table = 0; alias = [] }) c.requires.fits.within.items c.requires.inside.item in
    rw c.table_of-table.ensures (record { table = table; first = row.first; row = row.last; column = c.requires.inside.place })

pub overflow_sub-result : goal.overflow_sub-result
overflow_sub-result c =
    (term_read c.args.query.now.query c.args.tables.now c.args.rows.now c.args.term.now c.table_of-table.result c.weight.result c.unwrap_or-weight.result c.requires.rows c.requires.inside.item
    c.requires.small c.table_of-table.ensures c.weight.ensures c.unwrap_or-weight.ensures (search rules)).fits

pub returns-then-term : goal.returns-then-term
returns-then-term c =
    let read = term_read c.args.query.now.query c.args.tables.now c.args.rows.now c.args.term.now c.table_of-table.result c.weight.result c.unwrap_or-weight.result c.requires.rows
    c.requires.inside.item c.requires.small c.table_of-table.ensures c.weight.ensures c.unwrap_or-weight.ensures (search rules) in
    to_z-of_z w128 (pos 0 -ℤ to_z w128 (of_z w128 c.unwrap_or-weight.result)) read.fits ∙ read.negated c.if-term.true

pub returns-else-term : goal.returns-else-term
returns-else-term c =
    (term_read c.args.query.now.query c.args.tables.now c.args.rows.now c.args.term.now c.table_of-table.result c.weight.result c.unwrap_or-weight.result c.requires.rows c.requires.inside.item
    c.requires.small c.table_of-table.ensures c.weight.ensures c.unwrap_or-weight.ensures (search rules)).kept c.if-term.false
