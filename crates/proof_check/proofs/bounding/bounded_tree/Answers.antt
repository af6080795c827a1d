use Rattle.std.proofs.Common.{ℕ, List, inl, inr, refl}
use Rattle.anyk_model.specs.Table.{Table}
use Rattle.join_tree.specs.declared.tree.JoinTree.{JoinTree}
use Rattle.bound_query.specs.WeighedQuery.{BoundQuery}
use Rattle.node_build.specs.Nodes.{PassesBudget, TellsFault}
use Rattle.node_build.specs.declared.built.BuildFault.TheVariants as fault
use Rattle.node_build.proofs.ShapeOf.{join_tree_of}
use Rattle.proof_check.proofs.ProblemRows.{problem_rows, shape_known, too_many}
use Rattle.proof_check.proofs.bounding.bounded_tree.Goals as goal

passed : (bound : BoundQuery) (tables : List Table) (join : JoinTree) (budget told : ℕ)
    → TellsFault bound tables join budget (fault.TooManyRows told) → PassesBudget bound tables join budget
passed bound tables join budget told (inl none) = cc
passed bound tables join budget told (inr (same, past)) = past

pub build-requires-clause-tree : goal.build-requires-clause-tree
build-requires-clause-tree g c = join_tree_of c.args.query.now.query c.args.join.now c.requires.tree c.requires.count

pub build-requires-clause-limit : goal.build-requires-clause-limit
build-requires-clause-limit g c = c.requires.limit

pub with_bounds-requires-clause-keys : goal.with_bounds-requires-clause-keys
with_bounds-requires-clause-keys g c = c.requires.keys

pub with_bounds-requires-clause-rows : goal.with_bounds-requires-clause-rows
with_bounds-requires-clause-rows g c =
    problem_rows c.args.query.now c.args.tables.now c.args.join.now c.requires.tree c.requires.count g.R.Rank.KEYS g.R.Rank.key
    c.in-Ok.built.tree c.in-Ok.ensures.built c.requires.fits c.requires.keys

pub with_bounds-requires-clause-shape : goal.with_bounds-requires-clause-shape
with_bounds-requires-clause-shape g c =
    shape_known c.args.query.now c.args.tables.now c.args.join.now c.requires.tree c.requires.count g.R.Rank.KEYS g.R.Rank.key
    c.in-Ok.built.tree c.in-Ok.ensures.built c.nodes-nodes.ensures.formed.each_node c.nodes-nodes.ensures.formed.few_rows

pub returns-in-Ok : goal.returns-in-Ok
returns-in-Ok g c = record { bounded = c.with_bounds.ensures.bounded; fault = c.with_bounds.ensures.fault }

pub returns-in-Err-TooManyRows : goal.returns-in-Err-TooManyRows
returns-in-Err-TooManyRows g c = record {
  bounded = tt;
  fault =
      let past = passed c.args.query.now c.args.tables.now c.args.join.now 4194304 c.in-Err-TooManyRows.field-0-0
      (rw c.in-Err-TooManyRows.field-0-is at c.in-Err-TooManyRows.ensures.refusal) in
      (refl, too_many c.args.query.now c.args.tables.now c.args.join.now c.requires.tree c.requires.count past);
}

pub returns-in-Err-NoMemory : goal.returns-in-Err-NoMemory
returns-in-Err-NoMemory g c = record { bounded = tt; fault = tt }
