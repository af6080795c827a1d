use Rattle.std.proofs.Common.{◌≡◌, ◌++◌, ◌∷◌, [], length, sym, ap, subst, ◌∙◌, arith}
use Rattle.std.specs.List.{All}
use Rattle.tdp_core.proofs.RawRowLists.{all_wide, rows_length, rows_more, still_rows}
use Rattle.tdp_core.proofs.raw_rows.RawRows.push.Goals as goal

pub push_first_or_next-requires-clause-same : goal.push_first_or_next-requires-clause-same
push_first_or_next-requires-clause-same g c =
    let t = c.self.inside.columns in
    let n = length c.args.children.now in
    all_wide t.rows t.owns.items t.named.rows c.self.invariant n (subst (All (λ r. length r.children ≡ n)) (sym c.self.view_is) c.requires.same)

pub push_first_or_next-requires-clause-few : goal.push_first_or_next-requires-clause-few
push_first_or_next-requires-clause-few g c =
    let t = c.self.inside.columns in
    omega (arith, rows_length t.rows t.owns.items t.named.rows c.self.invariant, ap length c.self.view_is, c.requires.few, c.self.invariant.all_named)

pub returns-clause-ok : goal.returns-clause-ok
returns-clause-ok g c =
    let t = c.self.inside.columns in
    let x = c.args.children.now in
    let owns = c.push_reserved.ensures.items ∙ ap (λ l. l ++ c.args.own ∷ []) c.reserve.ensures.items in
    still_rows (t.rows ++ c.args.row ∷ []) c.push.new.self (t.owns.items ++ c.args.own ∷ []) c.push_reserved.new.self.items (t.named.rows ++ x ∷ []) c.push_first_or_next.new.self.rows
    c.in_default.ensures.ok owns c.in_ok-push_first_or_next.ensures.ok
    ∙ rows_more t.rows t.owns.items t.named.rows c.self.invariant c.args.row c.args.own x
    ∙ ap (λ l. l ++ record { row = c.args.row; own = c.args.own; children = x } ∷ []) c.self.view_is
