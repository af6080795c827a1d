use Rattle.std.proofs.Common.{◌≡◌, drop, length, map, take}
use Rattle.anyk_model.specs.Query.{rank_of}
use Rattle.anyk_model.specs.Ranking.{is_before}
use Rattle.union_all.proofs.sums.has_less_sums.Given as goal

abbrev pub invariant-loop-key : goal.invariant-loop-key
invariant-loop-key l =
    let sums = map (rank_of l.one.query l.tables (take (length l.one.query.items) l.rows)) l.one.query.order in
    let others = map (rank_of l.other.query l.tables (take (length l.other.query.items) l.other_rows)) l.other.query.order in
    is_before sums others ≡ is_before (drop l.key sums) (drop l.key others)
