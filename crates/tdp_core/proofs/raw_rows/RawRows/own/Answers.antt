use Rattle.std.proofs.Common.{◌<◌, map, length, get_or, sym, ap, ◌∙◌, arith}
use Rattle.std.proofs.lemmas.List.{get_or_default}
use Rattle.tdp_core.proofs.RawRowLists.{owns_are, rows_length}
use Rattle.tdp_core.proofs.raw_rows.RawRows.own.Goals as goal

pub index-requires : goal.index-requires
index-requires g c =
    let t = c.self.inside.columns in
    omega (arith, rows_length t.rows t.owns.items t.named.rows c.self.invariant, ap length c.self.view_is, c.requires, c.self.invariant.all_own, t.owns.ok.0)

pub returns : goal.returns
returns g c =
    let t = c.self.inside.columns in
    let within : c.args.i < length t.owns.items = omega (arith, rows_length t.rows t.owns.items t.named.rows c.self.invariant, ap length c.self.view_is, c.requires, c.self.invariant.all_own) in
    c.index.ensures ∙ get_or_default t.owns.items c.args.i c.index.result.now 0 within ∙ ap (λ l. get_or l c.args.i 0) (sym (owns_are t.rows t.owns.items t.named.rows c.self.invariant))
    ∙ ap (λ l. get_or (map (λ r. r.own) l) c.args.i 0) c.self.view_is
