use Rattle.std.proofs.Common.{◌∙◌, List, map, sym, ap}
use Rattle.anyk_model.specs.Query.{Query}
use Rattle.anyk_model.specs.Union.{left_of}
use Rattle.union_all.specs.Merge.{BranchView, rests_of}
use Rattle.union_all.proofs.Begun.{all_branches, same_queries}
use Rattle.union_all.proofs.merge.Merge.new.Goals as goal

pub invariant_of-result : goal.invariant_of-result
invariant_of-result g c =
    let begun = c.in_ok-begin.ensures.begun in
    all_branches c.args.tables.now c.args.queries.now c.begin.new.branches.items _ begun.bounds begun.lists c.requires.few c.requires.fits c.requires.left

pub returns : goal.returns
returns g c =
    let branches = c.begin.new.branches.items in
    let begun = c.in_ok-begin.ensures.begun in
    record {
      queries = same_queries c.args.queries.now c.begin.new.branches.items c.in_ok-begin.ensures.begun.bounds;
      rest =
          ap (left_of (map (λ (b : BranchView). b.bound.query) branches) c.args.tables.now)
          (begun.lists ∙ ap (λ (q : List Query). rests_of g.E.Ranked.rest q c.args.engines.items) (sym (same_queries c.args.queries.now branches begun.bounds)));
      engines = c.in_ok-begin.ensures.begun.called;
      cost = c.begin.ensures.cost;
    }
