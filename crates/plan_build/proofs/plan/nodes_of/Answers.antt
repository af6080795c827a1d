use Rattle.std.proofs.Common.{◌≡◌, ℕ, List, inl, inr, refl}
use Rattle.anyk_model.specs.Table.{Table}
use Rattle.join_tree.specs.declared.tree.JoinTree.{JoinTree}
use Rattle.bound_query.specs.WeighedQuery.{BoundQuery}
use Rattle.node_build.specs.Nodes.{PassesBudget, TellsFault}
use Rattle.node_build.specs.declared.built.BuildFault.TheVariants as fault
use Rattle.plan_build.proofs.Planned.{too_many}
use Rattle.plan_build.proofs.plan.nodes_of.Goals as goal

passed : (bound : BoundQuery) (tables : List Table) (join : JoinTree) (budget told : ℕ) → TellsFault bound tables join budget (fault.TooManyRows told)
    → (told ≡ budget) × PassesBudget bound tables join budget
passed bound tables join budget told (inl none) = cc
passed bound tables join budget told (inr (same, past)) = (let e : told ≡ budget = cc in e, past)

pub returns-in-Ok : goal.returns-in-Ok
returns-in-Ok g c =
    let made = c.in-Ok.ensures in
    record {
      nodes = record {
        built = made.built;
        formed = c.nodes-nodes.ensures.formed;
        tie_free = made.tie_free;
        counts = made.rows_of;
        all = made.used;
        within = made.within;
        fewer = made.fewer;
      };
      refusal = tt;
      cost = c.build.ensures.cost;
    }

pub returns-in-Err-TooManyRows : goal.returns-in-Err-TooManyRows
returns-in-Err-TooManyRows g c =
    let past = passed c.args.query.now c.args.tables.now c.args.join.now 4194304 c.in-Err-TooManyRows.budget (rw c.in-Err-TooManyRows.field-0-is at c.in-Err-TooManyRows.ensures.refusal) in
    let other = c.requires.acyclic in
    record {
      nodes = tt;
      refusal = (past.0, too_many c.args.query.now c.args.tables.now other.0 other.1 other.2 c.args.join.now c.requires.tree 4194304 refl past.1);
      cost = c.build.ensures.cost;
    }

pub returns-in-Err-NoMemory : goal.returns-in-Err-NoMemory
returns-in-Err-NoMemory g c =
    record {
      nodes = tt;
      refusal = tt;
      cost = c.build.ensures.cost;
    }
