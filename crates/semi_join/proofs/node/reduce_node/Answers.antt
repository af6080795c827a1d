use Rattle.std.proofs.Common.{◌≡◌, ◌<◌, ◌≤◌, ◌+◌, ◌*◌, ℕ, List, [], map, length, sym, ap, subst, ◌∙◌, arith}
use Rattle.std.specs.List.{All}
use Rattle.tdp_core.specs.RowGroups.{places_by_number}
use Rattle.tdp_model.specs.KeyTuple.{KeyOf}
use Rattle.tdp_core.specs.declared.parts.NodeRow.{NodeRow}
use Rattle.tdp_core.specs.RawRows.{AreRawRows, raw_rows}
use Rattle.tdp_core.specs.RawView.{IsRawFormed, RawView, raw_len, rows_at, shape_children, with_rows}
use Rattle.semi_join.specs.declared.group_links.GroupLinks.{GroupLinks}
use Rattle.tdp_core.proofs.RawFacts.{all_wide}
use Rattle.tdp_core.proofs.RawRowLists as lists
use Rattle.semi_join.specs.Reduction.{AreLater, links_of, kept_rows, child_nodes, group_link, group_links, IsGrouping, IsSource}
use Rattle.semi_join.proofs.Kids.{children_count}
use Rattle.semi_join.proofs.PlacesByNumber.{numbered_grouping}
use Rattle.semi_join.proofs.Sources.{count, few_children, node_steps}
use Rattle.semi_join.proofs.node.reduce_node.Given.{Over}
use Rattle.semi_join.proofs.node.reduce_node.Goals.{After-deref}
use Rattle.semi_join.proofs.node.reduce_node.Goals as goal

module _ {R : Type 0} (d : ℕ) (key : R → KeyOf d 16) (raw now : RawView R) (node : ℕ) (later : List GroupLinks) (children list : List ℕ) (rows : List (NodeRow R)) (owns : List ℕ) (named : List (List ℕ)) where
  -- the rows that were taken, with what is known of their node
  source : IsRawFormed d key raw → node < length raw.shapes → AreLater raw node later → now ≡ with_rows raw node [] → list ≡ child_nodes now node → children ≡ list → AreRawRows rows owns named
      → raw_rows rows owns named ≡ rows_at raw node → IsSource raw node later children rows owns named
  source formed inside done rest of_now same whole taken =
      let of_node : children ≡ child_nodes raw node = same ∙ of_now ∙ ap (λ t. child_nodes t node) rest in
      let count : length children ≡ shape_children raw.shapes node = ap length of_node ∙ children_count raw formed.shaped node inside in
      let wide = subst (All (λ x. length x.children ≡ shape_children raw.shapes node)) (sym taken) (all_wide d key raw formed node inside) in
      record {
        node = inside;
        done = done;
        of_node = of_node;
        whole = whole;
        taken = taken;
        wide = subst (λ n. All (λ ks. length ks ≡ n) named) (sym count) (lists.all_wide rows owns named whole (shape_children raw.shapes node) wide);
      }

module _ (g : Over) where
  its_source : (c : After-deref g) → IsSource c.args.raw.now c.args.node c.args.later.now c.deref.result.now c.take_node-columns.result.rows c.take_node-columns.result.owns.items c.take_node-columns.result.named.rows
  its_source c =
      source g.R.Rank.KEYS g.R.Rank.key c.args.raw.now c.take_node-columns.new.self c.args.node c.args.later.now c.deref.result.now c.in_ok-children.children.items c.take_node-columns.result.rows c.take_node-columns.result.owns.items
      c.take_node-columns.result.named.rows c.nodes-nodes.ensures.formed c.requires.node c.requires.later c.take_node-columns.ensures.rest c.in_ok-children.ensures c.deref.ensures.value c.take_node-columns.ensures.whole c.take_node-columns.ensures.rows

  -- the steps of all rows
  counted : (c : After-deref g) (now : ℕ) → now ≤ c.args.steps.now + length c.take_node-columns.result.rows * (length c.deref.result.now + 1) → now ≤ c.args.steps.now + raw_len c.args.raw.now c.args.node * length c.args.raw.now.shapes
  counted c now h =
      let columns = c.take_node-columns.result in
      let few = few_children c.args.raw.now c.args.node c.args.later.now c.deref.result.now columns.rows columns.owns.items columns.named.rows (its_source c) in
      let all = count c.args.raw.now c.args.node c.args.later.now c.deref.result.now columns.rows columns.owns.items columns.named.rows (its_source c) in
      node_steps c.args.steps.now now (length columns.rows) (raw_len c.args.raw.now c.args.node) (length c.deref.result.now) (length c.args.raw.now.shapes) all few h

pub keep_rows-requires : goal.keep_rows-requires
keep_rows-requires g c = (c.args.raw.now, its_source g (goal.at.keep_rows-requires g c).After-deref)

pub returns-in_err-kept-clause-cost : goal.returns-in_err-kept-clause-cost
returns-in_err-kept-clause-cost g c = counted g (goal.at.returns-in_err-kept-clause-cost g c).After-deref c.keep_rows.new.steps c.keep_rows.ensures.cost

pub of_numbers-requires-clause-numbers : goal.of_numbers-requires-clause-numbers
of_numbers-requires-clause-numbers g c =
    let kept = c.in_ok-kept.ensures.kept c.args.raw.now (its_source g (goal.at.of_numbers-requires-clause-numbers g c).After-deref) in
    let below = subst (λ k. All (λ n. n < k) c.in_ok-kept.kept.numbers.items) (sym c.len.ensures) kept.numbering.below in
    subst (λ ns. All (λ n. n < c.len.result) ns) (sym c.deref-2.ensures.value) below

pub of_numbers-requires-clause-few : goal.of_numbers-requires-clause-few
of_numbers-requires-clause-few g c =
    let kept = c.in_ok-kept.ensures.kept c.args.raw.now (its_source g (goal.at.of_numbers-requires-clause-few g c).After-deref) in
    omega (arith, ap length c.deref-2.ensures.value, kept.few_numbers)

pub returns-in-Ok-clause-reduced : goal.returns-in-Ok-clause-reduced
returns-in-Ok-clause-reduced g c =
    let kept = c.in_ok-kept.ensures.kept c.args.raw.now (its_source g (goal.at.returns-in-Ok-clause-reduced g c).After-deref) in
    let raw = c.args.raw.now in
    let node = c.args.node in
    let later = map links_of c.args.later.now in
    let owns = map (group_link raw node) (kept_rows raw node later) in
    let links = links_of c.in_ok-kept.kept.links in
    let numbers = c.in_ok-kept.kept.numbers.items in
    let groups : c.in-Ok.groups ≡ places_by_number numbers (length links) = c.in-Ok.ensures ∙ ap (λ ns. places_by_number ns c.len.result) c.deref-2.ensures.value ∙ ap (places_by_number numbers) c.len.ensures in
    let grouping = subst (λ ks. IsGrouping owns ks (places_by_number numbers (length links))) kept.links_are (numbered_grouping owns links numbers kept.numbering) in
    record {
      shape = c.shape-shape.ensures;
      rows = kept.rows_are;
      to_child = kept.to_child;
      grouping = subst (IsGrouping owns (group_links raw node later)) (sym groups) grouping;
      best = c.new.ensures.items;
    }

pub returns-in-Ok-clause-links : goal.returns-in-Ok-clause-links
returns-in-Ok-clause-links g c = (c.in_ok-kept.ensures.kept c.args.raw.now (its_source g (goal.at.returns-in-Ok-clause-links g c).After-deref)).links_are

pub returns-in-Ok-clause-few : goal.returns-in-Ok-clause-few
returns-in-Ok-clause-few g c =
    let kept = c.in_ok-kept.ensures.kept c.args.raw.now (its_source g (goal.at.returns-in-Ok-clause-few g c).After-deref) in
    let numbering = kept.numbering in
    omega (arith, numbering.size, numbering.few, kept.few_numbers)

pub returns-in-Ok-clause-cost : goal.returns-in-Ok-clause-cost
returns-in-Ok-clause-cost g c = counted g (goal.at.returns-in-Ok-clause-cost g c).After-deref c.keep_rows.new.steps c.in_ok-kept.ensures.cost

pub returns-clause-cost : goal.returns-clause-cost
returns-clause-cost g c = counted g (goal.at.returns-clause-cost g c).After-deref c.keep_rows.new.steps c.in_ok-kept.ensures.cost
