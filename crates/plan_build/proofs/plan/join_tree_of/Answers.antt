use Rattle.plan_build.proofs.plan.join_tree_of.Goals as goal

pub returns-in-Ok : goal.returns-in-Ok
returns-in-Ok c =
    let made = c.in-Ok.ensures in
    record {
      tree = record {
        stored = made.tree;
        ordered = made.ordered;
        atoms = made.items;
        count = made.count;
        joined = record { count = made.count; graph = made.tree.graph; of_query = made.tree.of_query; tree = made.tree.join_tree };
      };
      refusal = tt;
    }

pub returns-in-Err-NoMemory : goal.returns-in-Err-NoMemory
returns-in-Err-NoMemory c = record { tree = tt; refusal = λ tables. tt }
