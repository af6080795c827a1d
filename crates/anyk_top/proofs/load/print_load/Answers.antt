use Rattle.std.proofs.Common.{◌≡◌, Err, rules}
use Rattle.engine_choice.specs.Engines.{calls_of, tree_of}
use Rattle.outer_io.specs.declared.fault.PrintFault.TheVariants as fault
use Rattle.outer_io.proofs.Prints.{appends_nothing, unprinted}
use Rattle.plan_build.proofs.Rooted.{whole_of}
use Rattle.plan_build.proofs.ShapeIs.{rows_counted}
use Rattle.engine_choice.proofs.RunBounds.{called_by, started}
use Rattle.anyk_top.proofs.load.print_load.Goals as goal

pub engine_over-requires : goal.engine_over-requires
engine_over-requires g c = record { tie_free = (whole_of g.R.Rank.KEYS g.R.Rank.key c.args.asked.now.query.now c.args.asked.now.tables.now c.args.asked.now.best c.args.asked.now.plan.now c.requires.plan).tie_free }

pub returns-in_err-chosen : goal.returns-in_err-chosen
returns-in_err-chosen g c =
    let query = c.args.asked.now.query.now in
    let tables = c.args.asked.now.tables.now in
    let view = c.args.asked.now.plan.now in
    let plan = whole_of g.R.Rank.KEYS g.R.Rank.key query tables c.args.asked.now.best view c.requires.plan in
    let e : c.from_residual.result ≡ Err fault.NoMemory = search rules in
    record {
      printed = rw e (unprinted _ _);
      silent = rw e (appends_nothing _);
      bounded = λ before prepared shape has.
          started g.R.Rank.KEYS g.R.Rank.key query.query tables c.requires.fits.some shape view plan.nodes
          (rows_counted g.R.Rank.KEYS g.R.Rank.key query tables view plan shape has) before c.args.steps.now _ _ prepared c.in_err-chosen.ensures.cost;
    }

pub take_summary-text-requires-clause-rows : goal.take_summary-text-requires-clause-rows
take_summary-text-requires-clause-rows g c =
    (c.in_ok-chosen.ensures.asked c.args.asked.now.query.now c.args.asked.now.tables.now c.requires.plan).rows

pub returns-in_err-text : goal.returns-in_err-text
returns-in_err-text g c =
    let query = c.args.asked.now.query.now in
    let tables = c.args.asked.now.tables.now in
    let view = c.args.asked.now.plan.now in
    let left = (c.in_ok-chosen.ensures.asked query tables c.requires.plan).list in
    let plan = whole_of g.R.Rank.KEYS g.R.Rank.key query tables c.args.asked.now.best view c.requires.plan in
    let e : c.from_residual-in_err-text.result ≡ Err fault.NoMemory = search rules in
    record {
      printed = rw e (unprinted _ _);
      silent = rw e (appends_nothing _);
      bounded = λ before prepared shape has.
          called_by g.R.Rank.KEYS g.R.Rank.key query.query tables c.requires.fits.some shape view plan.nodes
          (rows_counted g.R.Rank.KEYS g.R.Rank.key query tables view plan shape has)
          (tree_of c.in_ok-chosen.chosen) (calls_of c.in_ok-chosen.chosen) c.in_ok-chosen.ensures.tree c.in_ok-chosen.ensures.calls
          before c.args.steps.now _ _ _ prepared c.in_ok-chosen.ensures.cost (rw left at c.take_summary-text.ensures.bounded);
    }

pub returns : goal.returns
returns g c =
    let query = c.args.asked.now.query.now in
    let tables = c.args.asked.now.tables.now in
    let view = c.args.asked.now.plan.now in
    let left = (c.in_ok-chosen.ensures.asked query tables c.requires.plan).list in
    let plan = whole_of g.R.Rank.KEYS g.R.Rank.key query tables c.args.asked.now.best view c.requires.plan in
    record {
      printed = rw (c.deref.ensures.value, c.in_ok-text.ensures.text, left) at c.print_once.ensures.printed;
      silent = c.print_once.ensures.silent;
      bounded = λ before prepared shape has.
          called_by g.R.Rank.KEYS g.R.Rank.key query.query tables c.requires.fits.some shape view plan.nodes
          (rows_counted g.R.Rank.KEYS g.R.Rank.key query tables view plan shape has)
          (tree_of c.in_ok-chosen.chosen) (calls_of c.in_ok-chosen.chosen) c.in_ok-chosen.ensures.tree c.in_ok-chosen.ensures.calls
          before c.args.steps.now _ _ _ prepared c.in_ok-chosen.ensures.cost (rw left at c.take_summary-text.ensures.bounded);
    }
