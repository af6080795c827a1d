use Rattle.std.proofs.Common.{◌≡◌, ◌<◌, length, sym, subst}
use Rattle.suffix_streams.specs.StreamsView.{StreamsView, entry_key}
use Rattle.suffix_streams.proofs.ViewPrefixes.{entry_solution}
use Rattle.suffix_streams.proofs.streams.Streams.rank_of.Goals as goal

pub returns-clause-rank : goal.returns-clause-rank
returns-clause-rank g c =
    let d = g.R.Rank.KEYS in
    let r = entry_solution d g.R.Rank.key c.self.inside.solutions.tree.now c.self.inside.solutions.entries.entries c.self.inside.solutions.nodes.items c.self.invariant.streams c.args.entry c.get.result.now
    (subst (λ (s : StreamsView g.row.R.Denot). c.args.entry < length s.entries) (sym c.self.view_is) c.requires) c.get.ensures.value in
    subst (λ (s : StreamsView g.row.R.Denot). g.R.Rank.key c.get.result.now.solution.rank ≡ entry_key d g.R.Rank.key s c.args.entry) c.self.view_is r.1
