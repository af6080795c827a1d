use Rattle.std.proofs.Common.{◌≡◌, ℕ, ◌<◌, ◌≤◌, refl, arith, length, sym, ap, subst, ◌∙◌}
use Rattle.std.proofs.lemmas.Result.{IfOk-from_err}
use Rattle.std.proofs.lemmas.List.{length-map}
use Rattle.tdp_core.specs.RawView.{row_total}
use Rattle.tdp_core.specs.TreeView.{node_view, tree_view, row_count}
use Rattle.plan_build.specs.declared.fault.PlanFault.TheVariants as fault
use Rattle.plan_build.specs.Faults.{TellsFlaw}
use Rattle.plan_build.proofs.Kept.{kept_in_all}
use Rattle.plan_build.proofs.Planned.{items_are, parents_are, planned}
use Rattle.plan_build.proofs.Refusals.{handed_on}
use Rattle.plan_build.proofs.Sizes.{steps_of_build, steps_of_plan, steps_of_reduction}
use Rattle.plan_build.proofs.plan.plan_over.Goals as goal

-- an item of a query that has few items
within_all : (a items count : ℕ) → a < items → count ≡ items → count ≤ 16 → a < 16
within_all a items count low same few = omega (arith, low, same, few)

pub nodes_of-requires-clause-tree : goal.nodes_of-requires-clause-tree
nodes_of-requires-clause-tree g c = c.requires.over

pub nodes_of-requires-clause-acyclic : goal.nodes_of-requires-clause-acyclic
nodes_of-requires-clause-acyclic g c = (c.args.join.now, c.requires.stored.stored, c.requires.stored.count)

pub rows_of_tables-requires : goal.rows_of_tables-requires
rows_of_tables-requires g c = record { fits = c.requires.ranks.fits }

pub returns-in_err-built : goal.returns-in_err-built
returns-in_err-built g c =
    record {
      plan = IfOk-from_err c.from_residual.result _ c.from_residual.ensures.0;
      refusal = handed_on (TellsFlaw c.args.query.now.query c.args.tables.now) c.from_residual.result c.in_err-built.field-0.0 c.from_residual.ensures.1 c.in_err-built.ensures.refusal;
      cost = steps_of_build _ _ _ _ c.requires.ranks.fits.some c.nodes_of.ensures.cost;
    }

pub returns-in_err-reduced : goal.returns-in_err-reduced
returns-in_err-reduced g c =
    let built = c.in_ok-built.ensures.nodes in
    let made = c.in_ok-built.ensures.cost in
    let nodes : length c.in_ok-built.built.tree.shapes ≡ length c.args.query.now.query.items = built.built.nodes ∙ c.requires.over.count in
    record {
      plan = IfOk-from_err c.from_residual-in_err-reduced.result _ c.from_residual-in_err-reduced.ensures.0;
      refusal = handed_on (TellsFlaw c.args.query.now.query c.args.tables.now) c.from_residual-in_err-reduced.result fault.NoMemory c.from_residual-in_err-reduced.ensures.1 tt;
      cost = steps_of_reduction _ _ _ _ _ _ (row_total c.in_ok-built.built.tree) c.requires.ranks.fits.some (omega (arith, built.all, built.fewer)) nodes made c.reduce.ensures.cost;
    }

pub returns-in_err-tree : goal.returns-in_err-tree
returns-in_err-tree g c =
    let built = c.in_ok-built.ensures.nodes in
    let made = c.in_ok-built.ensures.cost in
    let raw = c.in_ok-built.built.tree in
    let parts = tree_view c.in_ok-reduced.reduced.nodes.items in
    let reduced = c.in_ok-reduced.ensures.reduced in
    let nodes : length raw.shapes ≡ length c.args.query.now.query.items = built.built.nodes ∙ c.requires.over.count in
    let long : length parts ≡ length raw.shapes = sym (length-map parts (λ n. n.shape)) ∙ ap length reduced.shapes in
    let alike : length c.in_ok-reduced.reduced.nodes.items ≡ length c.args.query.now.query.items = sym (length-map c.in_ok-reduced.reduced.nodes.items node_view) ∙ long ∙ nodes in
    let kept = kept_in_all g.R.Rank.KEYS g.R.Rank.key raw parts reduced built.formed.each_node in
    record {
      plan = IfOk-from_err c.from_residual-in_err-tree.result _ c.from_residual-in_err-tree.ensures.0;
      refusal = handed_on (TellsFlaw c.args.query.now.query c.args.tables.now) c.from_residual-in_err-tree.result fault.NoMemory c.from_residual-in_err-tree.ensures.1 tt;
      cost = steps_of_plan _ _ _ _ _ _ _ (row_total raw) _ (row_count parts) c.requires.ranks.fits.some (omega (arith, built.all, built.fewer)) (rw long kept) nodes alike made c.in_ok-reduced.ensures.cost c.solve.ensures.cost;
    }

pub returns : goal.returns
returns g c =
    let query = c.args.query.now in
    let built = c.in_ok-built.ensures.nodes in
    let made = c.in_ok-built.ensures.cost in
    let nodes : length c.in_ok-built.built.tree.shapes ≡ length query.query.items = built.built.nodes ∙ c.requires.over.count in
    let raw = c.in_ok-built.built.tree in
    let parts = tree_view c.in_ok-reduced.reduced.nodes.items in
    let reduced = c.in_ok-reduced.ensures.reduced in
    let nodes : length raw.shapes ≡ length c.args.query.now.query.items = built.built.nodes ∙ c.requires.over.count in
    let long : length parts ≡ length raw.shapes = sym (length-map parts (λ n. n.shape)) ∙ ap length reduced.shapes in
    let alike : length c.in_ok-reduced.reduced.nodes.items ≡ length c.args.query.now.query.items = sym (length-map c.in_ok-reduced.reduced.nodes.items node_view) ∙ long ∙ nodes in
    let kept = kept_in_all g.R.Rank.KEYS g.R.Rank.key raw parts reduced built.formed.each_node in
    record {
      plan = record {
        whole = planned query c.args.tables.now c.args.join.now c.requires.stored.stored c.requires.stored.count c.args.over.now c.requires.over g.R.Rank.KEYS g.R.Rank.key c.requires.ranks.fits c.requires.ranks.keys
            (subst (λ n. n ≤ 16) nodes built.formed.shaped.few_nodes) c.requires.stored.ordered c.requires.stored.atoms
            c.in_ok-built.built.tree built.built built.formed.each_node built.tie_free _ _ c.in_ok-reduced.ensures.reduced c.in_ok-tree.ensures.solved c.nodes-nodes.ensures.formed
            c.in_ok-built.built.rows_of.items _ built.counts c.in_order-node_rows.ensures.counted c.in_order-node_rows.ensures.moved
            c.in_ok-built.built.used _ built.all built.within (omega (arith, c.rows_of_tables.ensures.rows));
        kept = refl;
        items = items_are c.args.query.now c.args.tables.now g.R.Rank.KEYS g.R.Rank.key c.args.over.now c.in_ok-built.built.tree c.in_ok-built.ensures.nodes.built
            _ _ c.in_ok-reduced.ensures.reduced c.in_ok-tree.ensures.solved;
        parents = parents_are c.args.query.now c.args.tables.now g.R.Rank.KEYS g.R.Rank.key c.args.over.now c.in_ok-built.built.tree c.in_ok-built.ensures.nodes.built
            _ _ c.in_ok-reduced.ensures.reduced c.in_ok-tree.ensures.solved;
      };
      refusal = tt;
      cost = steps_of_plan _ _ _ _ _ _ _ (row_total raw) _ (row_count parts) c.requires.ranks.fits.some (omega (arith, built.all, built.fewer)) (rw long kept) nodes alike made c.in_ok-reduced.ensures.cost c.solve.ensures.cost;
    }

pub in_order-node_rows-requires : goal.in_order-node_rows-requires
in_order-node_rows-requires g c =
    let built = c.in_ok-built.ensures.nodes in
    record {
      from = c.requires.over_ordered;
      from_atoms = λ v l.
          subst (λ a. a < 16) (built.built.items v l) (built.formed.shaped.items v (subst (λ n. v < n) (sym built.built.nodes) l));
      to_atoms = λ v l. within_all _ _ _ (c.requires.stored.atoms v l) c.requires.stored.count c.requires.stored.ordered.few;
      count = c.requires.stored.count ∙ sym c.requires.over.count;
      counted = ap length built.counts ∙ length-map c.in_ok-built.built.tree.rows length ∙ built.formed.each_node ∙ built.built.nodes;
    }
