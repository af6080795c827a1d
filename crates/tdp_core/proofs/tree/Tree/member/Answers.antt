use Rattle.std.proofs.Common.{[], length, get_or, refl, sym, ap, ◌∙◌, arith}
use Rattle.tdp_core.proofs.NodeViews.{member_read}
use Rattle.tdp_core.proofs.tree.Tree.member.Goals as goal

pub group-requires : goal.group-requires
group-requires g c = omega (arith, c.requires.group, ap (λ n. length n.groups) c.parts.ensures.read)

pub bounds-group-place : goal.bounds-group-place
bounds-group-place g c = omega (arith, c.requires.place, ap length (c.group.ensures ∙ ap (λ n. get_or n.groups c.args.group []) (sym c.parts.ensures.read)))

pub returns-clause-member : goal.returns-clause-member
returns-clause-member g c =
    member_read c.args.self.now c.args.node c.parts.result.now c.parts.ensures.read c.args.group c.args.place _ c.group.result.now c.group.ensures refl
