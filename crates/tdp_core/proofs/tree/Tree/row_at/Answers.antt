use Rattle.std.proofs.Common.{length, ap, arith}
use Rattle.tdp_core.proofs.NodeViews.{row_read, rank_read, number_read}
use Rattle.tdp_core.proofs.tree.Tree.row_at.Goals as goal

pub get-requires : goal.get-requires
get-requires g c = omega (arith, c.requires.row, ap (λ n. length n.rows) c.parts.ensures.read)

pub returns-clause-row : goal.returns-clause-row
returns-clause-row g c = row_read c.args.self.now c.args.node c.parts.result.now c.parts.ensures.read c.args.row c.get.result c.get.ensures

pub returns-clause-rank : goal.returns-clause-rank
returns-clause-rank g c = rank_read c.args.self.now c.args.node c.parts.result.now c.parts.ensures.read c.args.row c.get.result c.get.ensures g.R.Rank.KEYS g.R.Rank.key

pub returns-clause-number : goal.returns-clause-number
returns-clause-number g c = number_read c.args.self.now c.args.node c.parts.result.now c.parts.ensures.read c.args.row c.get.result c.get.ensures
