use Rattle.std.proofs.Common.{◌<◌, [], List, ℕ, map, length, get_or, sym, ap, subst, ◌∙◌, arith}
use Rattle.tdp_core.proofs.RawRowLists.{names_are, rows_length}
use Rattle.tdp_core.proofs.raw_rows.RawRows.link.Goals as goal

pub get-requires-clause-row : goal.get-requires-clause-row
get-requires-clause-row g c =
    let t = c.self.inside.columns in
    omega (arith, rows_length t.rows t.owns.items t.named.rows c.self.invariant, ap length c.self.view_is, c.requires.row, c.self.invariant.all_named)

pub get-requires-clause-child : goal.get-requires-clause-child
get-requires-clause-child g c =
    let t = c.self.inside.columns in
    let names = ap (map (λ r. r.children)) (sym c.self.view_is) ∙ names_are t.rows t.owns.items t.named.rows c.self.invariant in
    subst (λ (l : List (List ℕ)). c.args.child < length (get_or l c.args.i [])) names c.requires.child

pub returns : goal.returns
returns g c =
    let t = c.self.inside.columns in
    let names = ap (map (λ r. r.children)) (sym c.self.view_is) ∙ names_are t.rows t.owns.items t.named.rows c.self.invariant in
    c.get.ensures ∙ ap (λ (l : List (List ℕ)). get_or (get_or l c.args.i []) c.args.child 0) (sym names)
