use Rattle.std.proofs.Common.{◌≡◌, ◌+◌, ◌∙◌, ap, sym, subst, length, true, arith, ℕ, List}
use Rattle.anyk_model.specs.Table.{table_at}
use Rattle.anyk_model.specs.Query.{item_table}
use Rattle.std.proofs.lemmas.Bool.{false≢true}
use Rattle.std.proofs.lemmas.Result.{IfOk-from_err}
use Rattle.node_build.proofs.Passing.{ArePassingBelow, none_more, one_more, rows_all}
use Rattle.node_build.proofs.rows.passing_rows.Goals as goal

pub loop-row-preserved-then-not-passes : goal.loop-row-preserved-then-not-passes
loop-row-preserved-then-not-passes c = record {
  few = omega arith;
  rows = none_more c.args.query.now.query c.args.tables.now c.args.item c.loop-row.row c.loop-row.rows.items c.loop-row.invariant.rows
      (λ p. false≢true (sym c.if-not-passes.true ∙ c.passes.ensures.1 p));
}

pub loop-row-preserved : goal.loop-row-preserved
loop-row-preserved c =
    let passes : c.passes.result ≡ true = c.if-not-passes.false in
    record {
      few = omega arith;
      rows = subst (λ (l : List ℕ). ArePassingBelow c.args.query.now.query c.args.tables.now c.args.item (c.loop-row.row + 1) l) (sym c.in_ok-push.ensures.items)
          (one_more c.args.query.now.query c.args.tables.now c.args.item c.loop-row.row c.loop-row.rows.items (omega arith) c.loop-row.invariant.rows (c.passes.ensures.0 passes));
    }

pub returns : goal.returns
returns c = record {
  rows = let tables = c.args.tables.now in
      let query = c.args.query.now.query in
      let known : c.len-count.result ≡ length (item_table query tables c.args.item).rows =
      c.len-count.ensures.rows ∙ ap (λ (t : ℕ). length (table_at tables t).rows) c.table_of.ensures in
      let all : c.loop-row.row ≡ length (item_table query tables c.args.item).rows + 1 = omega (arith, known) in
      rows_all query tables c.args.item c.loop-row.row c.loop-row.rows.items all c.loop-row.invariant.rows;
  few = let known : c.len-count.result ≡ length (item_table c.args.query.now.query c.args.tables.now c.args.item).rows =
      c.len-count.ensures.rows ∙ ap (λ (t : ℕ). length (table_at c.args.tables.now t).rows) c.table_of.ensures in
      omega (arith, known);
  limit = omega (arith, c.len-count.ensures.limit);
}

pub returns-in_err-rows : goal.returns-in_err-rows
returns-in_err-rows c =
    let r = c.from_residual.result in
    let e = c.from_residual.ensures.0 in
    record { rows = IfOk-from_err r _ e; few = IfOk-from_err r _ e; limit = IfOk-from_err r _ e }

pub returns-in_err-push : goal.returns-in_err-push
returns-in_err-push c =
    let r = c.from_residual-in_err-push.result in
    let e = c.from_residual-in_err-push.ensures.0 in
    record { rows = IfOk-from_err r _ e; few = IfOk-from_err r _ e; limit = IfOk-from_err r _ e }

pub passes-requires : goal.passes-requires
passes-requires c = record {
  fits = c.requires.fits;
  item = c.requires.item;
  first = omega arith;
  row = let known : c.len-count.result ≡ length (item_table c.args.query.now.query c.args.tables.now c.args.item).rows =
      c.len-count.ensures.rows ∙ ap (λ (t : ℕ). length (table_at c.args.tables.now t).rows) c.table_of.ensures in
      omega (arith, known);
}
