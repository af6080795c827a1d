use Rattle.std.proofs.Common.{◌≡◌, ◌≤◌, ◌+◌, ◌-◌, ◌*◌, ℕ, Err, arith, rules}
use Rattle.anyk_model.specs.BestList.{list_of}
use Rattle.engine_choice.specs.Engines.{calls_of, tree_of}
use Rattle.outer_io.specs.declared.fault.PrintFault.TheVariants as fault
use Rattle.outer_io.proofs.Prints.{unprinted}
use Rattle.bound_query.specs.Steps.{steps_for}
use Rattle.tdp_core.specs.Shares.{share_of, size_of}
use Rattle.output_model.specs.SessionCalls.{session_calls, session_reach}
use Rattle.output_model.specs.SessionPieces.{pieces_in}
use Rattle.answer_print.specs.StyleView.{style_view}
use Rattle.anyk_model.specs.Output.{cut}
use Rattle.plan_build.proofs.Rooted.{whole_of}
use Rattle.plan_build.proofs.ShapeIs.{rows_counted}
use Rattle.engine_choice.proofs.RunBounds.{called_by, started}
use Rattle.anyk_top.proofs.session.print_script.Goals as goal

pub engine_over-requires : goal.engine_over-requires
engine_over-requires g c = record { tie_free = (whole_of g.R.Rank.KEYS g.R.Rank.key c.args.asked.now.query.now c.args.asked.now.tables.now c.args.asked.now.best c.args.asked.now.plan.now c.requires.plan).tie_free }

-- no step was taken for a move of a cursor
no_moves : (now most moves : ℕ) → now ≤ most → now ≤ most + moves
no_moves now most moves h = omega (arith, h)

-- the moves of the cursors are apart from the calls
less_moves : (now most moves : ℕ) → now ≤ most + moves → now - moves ≤ most
less_moves now most moves h = omega (arith, h)

with_moves : (now most moves : ℕ) → now - moves ≤ most → now ≤ most + moves
with_moves now most moves h = omega (arith, h)

pub returns-in_err-chosen : goal.returns-in_err-chosen
returns-in_err-chosen g c =
    let bound = c.args.asked.now.query.now in
    let query = bound.query in
    let tables = c.args.asked.now.tables.now in
    let view = c.args.asked.now.plan.now in
    let plan = whole_of g.R.Rank.KEYS g.R.Rank.key bound tables c.args.asked.now.best view c.requires.plan in
    let reach : ℕ = session_reach query.limit (list_of query tables c.args.asked.now.best) c.args.script.now in
    let e : c.from_residual.result ≡ Err fault.NoMemory = search rules in
    record {
      printed = rw e (unprinted _ _);
      bounded = λ before prepared shape has.
          no_moves _ _ _ (started g.R.Rank.KEYS g.R.Rank.key query tables c.requires.fits.some shape view plan.nodes
          (rows_counted g.R.Rank.KEYS g.R.Rank.key bound tables view plan shape has) before c.args.steps.now c.engine_over.new.steps reach prepared c.in_err-chosen.ensures.cost);
      paced = λ before prepared shape has start part is_old is_new.
          no_moves _ _ _ (started g.R.Rank.KEYS g.R.Rank.key query tables c.requires.fits.some shape view plan.nodes
          (rows_counted g.R.Rank.KEYS g.R.Rank.key bound tables view plan shape has) before c.args.steps.now c.engine_over.new.steps _ prepared c.in_err-chosen.ensures.cost);
    }

pub print_session-requires-clause-rows : goal.print_session-requires-clause-rows
print_session-requires-clause-rows g c =
    (c.in_ok-chosen.ensures.asked c.args.asked.now.query.now c.args.asked.now.tables.now c.requires.plan).rows

pub returns : goal.returns
returns g c =
    let bound = c.args.asked.now.query.now in
    let query = bound.query in
    let tables = c.args.asked.now.tables.now in
    let view = c.args.asked.now.plan.now in
    let left = (c.in_ok-chosen.ensures.asked bound tables c.requires.plan).list in
    let plan = whole_of g.R.Rank.KEYS g.R.Rank.key bound tables c.args.asked.now.best view c.requires.plan in
    let list = list_of query tables c.args.asked.now.best in
    let reach : ℕ = session_reach query.limit list c.args.script.now in
    let moves : ℕ = 4 * session_calls query.limit list c.args.script.now in
    let tree = tree_of c.in_ok-chosen.chosen in
    let calls : ℕ = calls_of c.in_ok-chosen.chosen in
    let spent : c.print_session.new.steps ≤ c.engine_over.new.steps + steps_for (λ n. share_of (size_of tree) (calls + n)) reach + moves = rw left at c.print_session.ensures.bounded in
    record {
      printed = rw left at c.print_session.ensures.printed;
      bounded = λ before prepared shape has.
          with_moves _ _ _ (called_by g.R.Rank.KEYS g.R.Rank.key query tables c.requires.fits.some shape view plan.nodes
          (rows_counted g.R.Rank.KEYS g.R.Rank.key bound tables view plan shape has)
          tree calls c.in_ok-chosen.ensures.tree c.in_ok-chosen.ensures.calls
          before c.args.steps.now c.engine_over.new.steps (c.print_session.new.steps - moves) reach prepared c.in_ok-chosen.ensures.cost
          (less_moves _ _ _ spent));
      paced = λ before prepared shape has start part is_old is_new.
          let made : ℕ = pieces_in query tables (style_view c.args.style.now) (cut query.limit list) c.args.script.now part + 1 in
          let within : c.print_session.new.steps ≤ c.engine_over.new.steps + steps_for (λ n. share_of (size_of tree) (calls + n)) made + 4 * made =
          rw left at (c.print_session.ensures.prompt start part is_old is_new) in
          with_moves _ _ _ (called_by g.R.Rank.KEYS g.R.Rank.key query tables c.requires.fits.some shape view plan.nodes
          (rows_counted g.R.Rank.KEYS g.R.Rank.key bound tables view plan shape has)
          tree calls c.in_ok-chosen.ensures.tree c.in_ok-chosen.ensures.calls
          before c.args.steps.now c.engine_over.new.steps (c.print_session.new.steps - 4 * made) made prepared c.in_ok-chosen.ensures.cost
          (less_moves _ _ _ within));
    }
