use Rattle.std.proofs.Common.{◌≡◌, ◌+◌, ◌++◌, ◌∷◌, [], ℕ, List, OnOk, if◌then◌else◌, length, map, replicate, take, refl, subst}
use Rattle.std.specs.Fmt.{decimal, signed_decimal}
use Rattle.anyk_model.specs.Output.{optional_field, record_text}
use Rattle.anyk_model.specs.Query.{OrderKey, sum_of, value_of}
use Rattle.answer_print.specs.StyleView.{style_view}
use Rattle.union_all.proofs.Texts.{fits_of, four_parts, line_is, rows_of}
use Rattle.union_all.proofs.line.write_line_of.Goals as goal

pub push_values-requires-clause-fits : goal.push_values-requires-clause-fits
push_values-requires-clause-fits c =
    fits_of c.args.queries.now c.args.tagged.now.branch c.requires.branch c.index-queries-tagged.result c.index-queries-tagged.is c.args.tables.now c.requires.fits

pub push_values-requires-clause-rows : goal.push_values-requires-clause-rows
push_values-requires-clause-rows c =
    rows_of c.args.queries.now c.args.tagged.now.branch c.requires.branch c.index-queries-tagged.result c.index-queries-tagged.is c.args.tables.now c.args.tagged.now.rows c.requires.rows

pub push_shown-requires-clause-fits : goal.push_shown-requires-clause-fits
push_shown-requires-clause-fits c =
    fits_of c.args.queries.now c.args.tagged.now.branch c.requires.branch c.index-queries-tagged.result c.index-queries-tagged.is c.args.tables.now c.requires.fits

pub push_shown-requires-clause-rows : goal.push_shown-requires-clause-rows
push_shown-requires-clause-rows c =
    rows_of c.args.queries.now c.args.tagged.now.branch c.requires.branch c.index-queries-tagged.result c.index-queries-tagged.is c.args.tables.now c.args.tagged.now.rows c.requires.rows

pub returns : goal.returns
returns c =
    let bounds = c.args.queries.now in
    let tables = c.args.tables.now in
    let style = style_view c.args.style.now in
    let t = c.args.tagged.now in
    let q = c.index-queries-tagged.result in
    let at = c.index-queries-tagged.is in
    let are = rows_of bounds t.branch c.requires.branch q at tables t.rows c.requires.rows in
    let chosen = take (length q.query.items) t.rows in
    let cursor = optional_field style.cursor in
    let values = map (value_of q.query tables chosen) q.query.list in
    let numbers = (if style.ranks then map (λ (k : OrderKey). signed_decimal (sum_of q.query tables chosen k)) q.query.order else [])
    ++ (if style.rows then decimal (t.branch + 1) ∷ map decimal chosen else []) in
    let empty : List (List ℕ) = replicate c.lacking_items-lacking.result [] in
    let has = c.in_ok-push_empty.ensures ((cursor ++ values) ++ numbers) (c.in_ok-push_shown.ensures (cursor ++ values) (c.in_ok-push_values.ensures cursor (c.in_ok-push_optional.ensures [] c.begin.ensures))) in
    let told = line_is bounds tables style t.branch t.rows c.requires.branch q at are numbers (((cursor ++ values) ++ numbers) ++ empty) c.lacking_items-lacking.result refl c.lacking_items-lacking.ensures (four_parts cursor values numbers empty) in
    subst (λ (fs : List (List ℕ)). OnOk c.end.result (c.end.new.self.text ≡ record_text fs)) told (c.end.ensures (((cursor ++ values) ++ numbers) ++ empty) has)
