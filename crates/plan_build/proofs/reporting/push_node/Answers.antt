use Rattle.std.proofs.Common.{◌≡◌, ◌∙◌, ℕ, ap, slice_index, sym, take}
use Rattle.std.proofs.lemmas.List.{get_or-take}
use Rattle.bound_query.specs.Items.{item_at}
use Rattle.query_select.specs.Text.{name_text_of}
use Rattle.plan_build.proofs.reporting.push_node.Goals as goal

pub returns : goal.returns
returns c =
    let join = c.args.join.now in
    let items = c.args.query.now.query.items in
    let at : slice_index (take join.count join.atom) c.args.node ≡ slice_index join.atom c.args.node = get_or-take join.count join.atom c.args.node 0 c.requires.node in
    let name : c.deref.result.now ≡ name_text_of (item_at items (slice_index (take join.count join.atom) c.args.node)).alias =
    c.deref.ensures.value ∙ c.in_ok-name.ensures ∙ ap name_text_of c.alias.ensures ∙ ap (λ (k : ℕ). name_text_of (item_at items k).alias) (sym at) in
    rw (c.parent_number-parent.ensures c.args.node_rows.now, name) at c.push_line.ensures
