use Rattle.std.proofs.Common.{◌∙◌, sym}
use Rattle.std.specs.declared.cmp.Ordering.TheVariants.{Less, Equal, Greater}
use Rattle.rank_key.proofs.WideOrder.{is_less, wide_less}
use Rattle.rank_key.proofs.wide_packed.WidePackedRankRank.less.Goals as goal

pub returns-in-Less-clause-order : goal.returns-in-Less-clause-order
returns-in-Less-clause-order g c =
    let a = c.args.a.now in let b = c.args.b.now in
    wide_less a.front.number b.front.number a.rest b.rest Less a.front.fits b.front.fits (sym c.in-Less.is ∙ c.compare.ensures)

pub returns-in-Equal-clause-order : goal.returns-in-Equal-clause-order
returns-in-Equal-clause-order g c =
    let a = c.args.a.now in let b = c.args.b.now in
    is_less a.rest b.rest
    ∙ wide_less a.front.number b.front.number a.rest b.rest Equal a.front.fits b.front.fits (sym c.in-Equal.is ∙ c.compare.ensures)

pub returns-in-Greater-clause-order : goal.returns-in-Greater-clause-order
returns-in-Greater-clause-order g c =
    let a = c.args.a.now in let b = c.args.b.now in
    wide_less a.front.number b.front.number a.rest b.rest Greater a.front.fits b.front.fits (sym c.in-Greater.is ∙ c.compare.ensures)
