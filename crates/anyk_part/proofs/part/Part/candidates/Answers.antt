use Rattle.std.proofs.Common.{subst}
use Rattle.std.specs.List.{All}
use Rattle.anyk_part.specs.Candidates.{HoldTheRest, HasLeastRank}
use Rattle.anyk_part.specs.Regions.{PartView}
use Rattle.anyk_part.proofs.CandidateFacts.{candidates_hold, candidates_ranked}
use Rattle.anyk_part.proofs.part.Part.candidates.Goals as goal

pub returns-clause-left : goal.returns-clause-left
returns-clause-left g c =
    subst (λ (s : PartView g.row.R.Denot). HoldTheRest g.R.Rank.KEYS g.R.Rank.key s.tree s.candidates) c.self.view_is
    (candidates_hold g.R.Rank.KEYS g.R.Rank.key c.self.inside.tree.now c.self.inside.frontier.links.entries c.self.inside.frontier.queue.entries c.self.inside.calls c.self.invariant.0)

pub returns-clause-ranks : goal.returns-clause-ranks
returns-clause-ranks g c =
    subst (λ (s : PartView g.row.R.Denot). All (HasLeastRank g.R.Rank.KEYS g.R.Rank.key s.tree) s.candidates) c.self.view_is
    (candidates_ranked g.R.Rank.KEYS g.R.Rank.key c.self.inside.tree.now c.self.inside.frontier.links.entries c.self.inside.frontier.queue.entries c.self.invariant.0.formed c.self.invariant.0.live c.self.invariant.0.each)
