use Rattle.std.proofs.Common.{◌<◌, length, sym, ap, subst, arith}
use Rattle.tdp_core.specs.Solutions.{IsLeastKey}
use Rattle.tdp_core.proofs.NodeViews.{best_read}
use Rattle.tdp_core.proofs.TreeFacts.{best_is_least}
use Rattle.tdp_core.proofs.tree.Tree.best.Goals as goal

pub index-requires : goal.index-requires
index-requires g c =
    let node = c.parts.result.now in
    omega (arith, c.requires.row, c.parts.ensures.formed.all_best c.args.node c.requires.node, ap (λ n. length n.best) c.parts.ensures.read, node.best.ok.0)

pub returns-clause-best : goal.returns-clause-best
returns-clause-best g c =
    let node = c.parts.result.now in
    let in_node : c.args.row < length node.best.items = omega (arith, c.requires.row, c.parts.ensures.formed.all_best c.args.node c.requires.node, ap (λ n. length n.best) c.parts.ensures.read) in
    best_read c.args.self.now c.args.node node c.parts.ensures.read c.args.row c.index.result.now in_node c.index.ensures g.R.Rank.KEYS g.R.Rank.key

pub returns-clause-least : goal.returns-clause-least
returns-clause-least g c =
    let t = c.args.self.now in
    let node = c.parts.result.now in
    let formed = c.parts.ensures.formed in
    let in_node : c.args.row < length node.best.items = omega (arith, c.requires.row, formed.all_best c.args.node c.requires.node, ap (λ n. length n.best) c.parts.ensures.read) in
    let best = best_read t c.args.node node c.parts.ensures.read c.args.row c.index.result.now in_node c.index.ensures g.R.Rank.KEYS g.R.Rank.key in
    subst (IsLeastKey t g.R.Rank.KEYS g.R.Rank.key c.args.node c.args.row) (sym best) (best_is_least g.R.Rank.KEYS g.R.Rank.key t formed c.args.node c.args.row c.requires.node c.requires.row)
