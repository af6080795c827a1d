use Rattle.std.proofs.Common.{◌∙◌, sym, ap, Option, List, ℕ}
use Rattle.bound_query.specs.StoredParts.{items_view}
use Rattle.query_bind.specs.Answers.{found_answer}
use Rattle.query_bind.specs.Names.{meaning_of, looked_up as named}
use Rattle.query_bind.proofs.Collect.{looked_up}
use Rattle.query_bind.proofs.binding.ColumnRefBinds.bind.Goals as goal

pub returns-in-None : goal.returns-in-None
returns-in-None c =
    let items = items_view c.args.items.now in
    let name = c.args.self.now.column in
    looked_up c.args.self.now.at (meaning_of c.args.tables.now items c.args.self.now) c.column_of_all.result
    (c.column_of_all.ensures ∙ ap (λ (alias : Option (List ℕ)). found_answer c.args.self.now.at (named c.args.tables.now items name alias)) (sym c.in-None.is))

pub returns-in-Some : goal.returns-in-Some
returns-in-Some c =
    let items = items_view c.args.items.now in
    let name = c.args.self.now.column in
    looked_up c.args.self.now.at (meaning_of c.args.tables.now items c.args.self.now) c.column_of_item.result
    (c.column_of_item.ensures ∙ ap (λ (alias : Option (List ℕ)). found_answer c.args.self.now.at (named c.args.tables.now items name alias)) (sym c.in-Some.is))
