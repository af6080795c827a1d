use Rattle.std.proofs.Common.{◌∙◌, List, ℕ, Vec, Global, length, map, refl, sym, ap, subst, inl, arith}
use Rattle.std.proofs.lemmas.Result.{IfOk-from_err}
use Rattle.node_build.specs.declared.built.BuildFault.TheVariants as fault
use Rattle.node_build.specs.Nodes.{TellsFault}
use Rattle.node_build.specs.Rows.{HaveRows, lists_of}
use Rattle.node_build.proofs.Costs.{cost_within, counts_sum, past_budget, rows_fewer, total_low}
use Rattle.node_build.proofs.Read.{built, counts_are, row_total_is, tie_free_lem}
use Rattle.node_build.proofs.Results.{handed_on}
use Rattle.node_build.proofs.building.build.Goals as goal

pub sum_of-used-requires : goal.sum_of-used-requires
sum_of-used-requires g c =
    let rows = c.in_ok-rows.rows.items in
    let total = counts_sum rows c.as_slice.result.now c.in_ok-rows_of.rows_of.items c.as_slice-2.result.now c.as_slice.ensures.value c.in_ok-rows_of.ensures c.as_slice-2.ensures.value in
    let low = total_low c.args.query.now.query c.args.tables.now c.args.join.now c.requires.tree (lists_of rows) c.in_ok-rows.ensures.rows in
    omega (arith, total, low)

pub returns-then-used-budget : goal.returns-then-used-budget
returns-then-used-budget g c = record {
  built = tt;
  tie_free = tt;
  rows_of = tt;
  used = tt;
  within = tt;
  fewer = tt;
  refusal = let rows = c.in_ok-rows.rows.items in
      let total = counts_sum rows c.as_slice.result.now c.in_ok-rows_of.rows_of.items c.as_slice-2.result.now c.as_slice.ensures.value c.in_ok-rows_of.ensures c.as_slice-2.ensures.value in
      past_budget c.args.query.now c.args.tables.now c.args.join.now (lists_of rows) c.in_ok-rows.ensures.rows c.args.budget
      (omega (arith, total, c.sum_of-used.ensures, c.if-used-budget.true));
  cost = omega arith;
}

pub filled_tree-requires-clause-ready : goal.filled_tree-requires-clause-ready
filled_tree-requires-clause-ready g c = record { fits = c.requires.fits; keys = c.requires.keys; slots = c.requires.slots; limit = c.requires.limit; tree = c.requires.tree }

pub filled_tree-requires-clause-rows : goal.filled_tree-requires-clause-rows
filled_tree-requires-clause-rows g c =
    let join = c.args.join.now in
    subst (λ (vs : List (Vec ℕ Global)). HaveRows c.args.query.now.query c.args.tables.now join join.count (lists_of vs)) (sym c.as_slice-3.ensures.value) c.in_ok-rows.ensures.rows

pub filled_tree-requires-clause-room : goal.filled_tree-requires-clause-room
filled_tree-requires-clause-room g c =
    let total = counts_sum c.as_slice-3.result.now c.as_slice.result.now c.in_ok-rows_of.rows_of.items c.as_slice-2.result.now
    (c.as_slice.ensures.value ∙ sym c.as_slice-3.ensures.value) c.in_ok-rows_of.ensures c.as_slice-2.ensures.value in
    omega (arith, total, c.sum_of-used.ensures, c.if-used-budget.false, c.requires.budget)

pub returns-in_err-tree : goal.returns-in_err-tree
returns-in_err-tree g c =
    let r = c.from_residual-in_err-tree.result in
    let e = c.from_residual-in_err-tree.ensures.0 in
    record {
      built = IfOk-from_err r _ e;
      tie_free = IfOk-from_err r _ e;
      rows_of = IfOk-from_err r _ e;
      used = IfOk-from_err r _ e;
      within = IfOk-from_err r _ e;
      fewer = IfOk-from_err r _ e;
      refusal = handed_on (TellsFault c.args.query.now c.args.tables.now c.args.join.now c.args.budget) r fault.NoMemory c.from_residual-in_err-tree.ensures.1 (inl refl);
      cost = let query = c.args.query.now.query in
          let tables = c.args.tables.now in
          let join = c.args.join.now in
          let of_nodes = subst (λ (vs : List (Vec ℕ Global)). HaveRows query tables join join.count (lists_of vs)) (sym c.as_slice-3.ensures.value) c.in_ok-rows.ensures.rows in
          cost_within query tables join c.requires.tree (lists_of c.as_slice-3.result.now) of_nodes c.args.steps.now c.filled_tree.new.steps c.in_err-tree.ensures.cost;
    }

pub returns-in_err-rows : goal.returns-in_err-rows
returns-in_err-rows g c =
    let r = c.from_residual.result in
    let e = c.from_residual.ensures.0 in
    record {
      built = IfOk-from_err r _ e;
      tie_free = IfOk-from_err r _ e;
      rows_of = IfOk-from_err r _ e;
      used = IfOk-from_err r _ e;
      within = IfOk-from_err r _ e;
      fewer = IfOk-from_err r _ e;
      refusal = handed_on (TellsFault c.args.query.now c.args.tables.now c.args.join.now c.args.budget) r fault.NoMemory c.from_residual.ensures.1 (inl refl);
      cost = omega arith;
    }

pub returns-in_err-rows_of : goal.returns-in_err-rows_of
returns-in_err-rows_of g c =
    let r = c.from_residual-in_err-rows_of.result in
    let e = c.from_residual-in_err-rows_of.ensures.0 in
    record {
      built = IfOk-from_err r _ e;
      tie_free = IfOk-from_err r _ e;
      rows_of = IfOk-from_err r _ e;
      used = IfOk-from_err r _ e;
      within = IfOk-from_err r _ e;
      fewer = IfOk-from_err r _ e;
      refusal = handed_on (TellsFault c.args.query.now c.args.tables.now c.args.join.now c.args.budget) r fault.NoMemory c.from_residual-in_err-rows_of.ensures.1 (inl refl);
      cost = omega arith;
    }

pub returns : goal.returns
returns g c =
    let query = c.args.query.now in
    let tables = c.args.tables.now in
    let join = c.args.join.now in
    let counts = c.in_ok-rows_of.rows_of.items in
    let rows = c.as_slice-3.result.now in
    let same = c.as_slice.ensures.value ∙ sym c.as_slice-3.ensures.value in
    let of_nodes : HaveRows query.query tables join join.count (lists_of rows) =
    subst (λ (vs : List (Vec ℕ Global)). HaveRows query.query tables join join.count (lists_of vs)) (sym c.as_slice-3.ensures.value) c.in_ok-rows.ensures.rows in
    let total = counts_sum rows c.as_slice.result.now counts c.as_slice-2.result.now same c.in_ok-rows_of.ensures c.as_slice-2.ensures.value in
    let few = rows_fewer query.query tables join c.requires.tree (lists_of rows) of_nodes in
    let made = c.in_ok-tree.ensures in
    let used = c.sum_of-used.ensures ∙ total in
    let sound = c.count-count.ensures.sound in
    let tree = c.in_ok-tree.tree in
    record {
      built = built query tables c.requires.fits sound join c.requires.tree g.R.Rank.KEYS g.R.Rank.key (lists_of rows) tree of_nodes made.shapes made.filled;
      tie_free = tie_free_lem query tables c.requires.fits sound join c.requires.tree g.R.Rank.KEYS g.R.Rank.key (lists_of rows) tree of_nodes made.shapes made.filled;
      rows_of = c.in_ok-rows_of.ensures ∙ ap (λ (vs : List (Vec ℕ Global)). map length (lists_of vs)) same
          ∙ counts_are query tables c.requires.fits sound join c.requires.tree g.R.Rank.KEYS g.R.Rank.key (lists_of rows) tree of_nodes made.shapes made.filled;
      used = used ∙ row_total_is query tables c.requires.fits sound join c.requires.tree g.R.Rank.KEYS g.R.Rank.key (lists_of rows) tree of_nodes made.shapes made.filled;
      within = c.if-used-budget.false;
      fewer = rw used few;
      refusal = tt;
      cost = cost_within query.query tables join c.requires.tree (lists_of rows) of_nodes c.args.steps.now c.filled_tree.new.steps made.cost;
    }
