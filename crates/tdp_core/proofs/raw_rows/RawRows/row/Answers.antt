use Rattle.std.proofs.Common.{map, length, slice_get, sym, ap, ◌∙◌, arith}
use Rattle.tdp_core.proofs.RawRowLists.{rows_are, rows_length}
use Rattle.tdp_core.proofs.raw_rows.RawRows.row.Goals as goal

pub get-requires : goal.get-requires
get-requires g c =
    let t = c.self.inside.columns in
    omega (arith, rows_length t.rows t.owns.items t.named.rows c.self.invariant, ap length c.self.view_is, c.requires)

pub returns : goal.returns
returns g c =
    let t = c.self.inside.columns in
    ap (λ l. slice_get (map (λ r. r.row) l) c.args.i) (sym c.self.view_is) ∙ ap (λ l. slice_get l c.args.i) (rows_are t.rows t.owns.items t.named.rows c.self.invariant) ∙ c.get.ensures
