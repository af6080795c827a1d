use Rattle.std.proofs.Common.{◌≡◌, ◌≤◌, map, take}
use Rattle.anyk_model.specs.UnionOutput.{most_items}
use Rattle.union_all.proofs.header.most_items.Given as goal

abbrev pub invariant-loop-query : goal.invariant-loop-query
invariant-loop-query l = (l.most ≡ most_items (map (λ q. q.query) (take l.query-index l.queries))) × (l.most ≤ 16)
