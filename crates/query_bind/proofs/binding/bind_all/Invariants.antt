use Rattle.std.proofs.Common.{map}
use Rattle.query_bind.specs.Answers.{HasBound}
use Rattle.bound_query.specs.StoredParts.{items_view}
use Rattle.query_bind.proofs.binding.bind_all.Given as goal

abbrev pub invariant-loop-part : goal.invariant-loop-part
invariant-loop-part g l = HasBound (g.T.Binds.meaning l.tables (items_view l.items)) (g.T.Binds.first_fault l.tables (items_view l.items)) l.parts l.part-index (map g.T.Binds.view l.all.items)
