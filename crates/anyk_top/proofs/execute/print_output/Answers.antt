use Rattle.std.proofs.Common.{◌≡◌, ℕ, None, Option, ap, arith, refl, subst}
use Rattle.anyk_model.specs.Output.{Style, cut, output_of}
use Rattle.answer_print.specs.StyleView.{style_view}
use Rattle.anyk_model.specs.BestList.{list_of}
use Rattle.plan_build.specs.Plan.{IsPlanOf, shape_of}
use Rattle.outer_io.proofs.Prints.{printed_some}
use Rattle.bound_query.specs.RunBounds.{IsPrepared, KeepsPace}
use Rattle.output_model.specs.Session.{session_text}
use Rattle.output_model.specs.Summary.{summary_text}
use Rattle.verdict.specs.SessionBound.{KeepsSessionPace}
use Rattle.command_input.specs.Planned.{IsUnnamed}
use Rattle.command_input.specs.Tasks.{command_of}
use Rattle.command_input.specs.declared.task.Task.{Task}
use Rattle.plan_build.proofs.ShapeIs.{plan_shape}
use Rattle.anyk_top.proofs.Prepared.{prepared_over}
use Rattle.plan_build.proofs.Rooted.{whole_of}
use Rattle.anyk_top.proofs.execute.print_output.Goals as goal

pub returns-in-Run : goal.returns-in-Run
returns-in-Run g c =
    let has = plan_shape g.R.Rank.KEYS g.R.Rank.key c.args.asked.now.query.now c.args.asked.now.tables.now c.args.asked.now.plan.now
    (whole_of g.R.Rank.KEYS g.R.Rank.key c.args.asked.now.query.now c.args.asked.now.tables.now c.args.asked.now.best c.args.asked.now.plan.now c.requires.plan) in
    let query = c.args.asked.now.query.now.query in
    let tables = c.args.asked.now.tables.now in
    let list = list_of query tables c.args.asked.now.best in
    let output = λ (style : Style). output_of query tables style (cut query.limit list) in
    let text = ap output c.style_in-style.ensures in
    let P = λ (style : Style). (before : ℕ) → IsPrepared query tables before c.args.steps.now
    → KeepsPace query tables list style (g.S.Sink.written c.args.out.now)
    (g.S.Sink.written c.print_run.new.out) before c.print_run.new.steps in
    let paced = subst P c.style_in-style.ensures c.print_run.ensures.paced in
    rw c.in-Run.is (λ proof. record {
      printed = printed_some _ _ _ (output (style_view c.style_in-style.result)) _ text c.print_run.ensures.printed;
      silent = tt;
      bounded = λ before prepared. c.print_run.ensures.bounded before prepared (shape_of c.args.asked.now.plan.now) has;
      paced = λ before prepared. paced before prepared (shape_of c.args.asked.now.plan.now) has;
    })

pub returns-in-Plan : goal.returns-in-Plan
returns-in-Plan g c =
    rw c.in-Plan.is (λ proof. record {
      printed = printed_some _ _ _ _ _ refl c.print_report.ensures.printed;
      silent = c.print_report.ensures.silent;
      bounded = λ before prepared.
          prepared_over c.args.asked.now.query.now.query c.args.asked.now.tables.now (shape_of c.args.asked.now.plan.now) before _ 0 prepared;
      paced = λ before prepared. tt;
    })

pub returns-in-Session : goal.returns-in-Session
returns-in-Session g c =
    let has = plan_shape g.R.Rank.KEYS g.R.Rank.key c.args.asked.now.query.now c.args.asked.now.tables.now c.args.asked.now.plan.now
    (whole_of g.R.Rank.KEYS g.R.Rank.key c.args.asked.now.query.now c.args.asked.now.tables.now c.args.asked.now.best c.args.asked.now.plan.now c.requires.plan) in
    let query = c.args.asked.now.query.now.query in
    let tables = c.args.asked.now.tables.now in
    let list = list_of query tables c.args.asked.now.best in
    let output = λ (style : Style). session_text query tables style (cut query.limit list) c.args.script.now in
    let text = ap output c.style_in-style-in-Session.ensures in
    let P = λ (style : Style). (before : ℕ) → IsPrepared query tables before c.args.steps.now
    → KeepsSessionPace query tables list style c.args.script.now (g.S.Sink.written c.args.out.now)
    (g.S.Sink.written c.print_script.new.out) before c.print_script.new.steps in
    let paced = subst P c.style_in-style-in-Session.ensures c.print_script.ensures.paced in
    rw c.in-Session.is (λ proof. record {
      printed = printed_some _ _ _ (output (style_view c.style_in-style-in-Session.result)) _ text c.print_script.ensures.printed;
      silent = tt;
      bounded = λ before prepared.
          let least = c.print_script.ensures.bounded before prepared (shape_of c.args.asked.now.plan.now) has in
          omega (arith, least);
      paced = λ before prepared start part is_old is_new.
          let least = paced before prepared (shape_of c.args.asked.now.plan.now) has start part is_old is_new in
          omega (arith, least);
    })

pub returns-in-Load : goal.returns-in-Load
returns-in-Load g c =
    let has = plan_shape g.R.Rank.KEYS g.R.Rank.key c.args.asked.now.query.now c.args.asked.now.tables.now c.args.asked.now.plan.now
    (whole_of g.R.Rank.KEYS g.R.Rank.key c.args.asked.now.query.now c.args.asked.now.tables.now c.args.asked.now.best c.args.asked.now.plan.now c.requires.plan) in
    let query = c.args.asked.now.query.now.query in
    let tables = c.args.asked.now.tables.now in
    let text = summary_text query tables (cut query.limit (list_of query tables c.args.asked.now.best)) in
    rw c.in-Load.is (λ proof. record {
      printed = printed_some _ _ _ text _ refl c.print_load.ensures.printed;
      silent = c.print_load.ensures.silent;
      bounded = λ before prepared. c.print_load.ensures.bounded before prepared (shape_of c.args.asked.now.plan.now) has;
      paced = λ before prepared. tt;
    })

pub returns-in-Prove : goal.returns-in-Prove
returns-in-Prove g c =
    let none : c.args.asked.now.best ≡ None = subst (λ (t : Task). IsUnnamed (command_of t) c.args.asked.now.best) c.in-Prove.is c.requires.unnamed in
    let is = subst (λ (best : Option ℕ). IsPlanOf g.R.Rank.KEYS g.R.Rank.key c.args.asked.now.query.now c.args.asked.now.tables.now best c.args.asked.now.plan.now) none
    c.requires.plan in
    rw c.in-Prove.is (λ proof. record {
      printed = c.print_certificate.ensures.printed c.args.asked.now.tables.now c.requires.fits is;
      silent = c.print_certificate.ensures.silent;
      bounded = λ before prepared. tt;
      paced = λ before prepared. tt;
    })

-- the plan is that of the join tree, since no item is named
pub print_certificate-requires : goal.print_certificate-requires
print_certificate-requires g c =
    let none : c.args.asked.now.best ≡ None = subst (λ (t : Task). IsUnnamed (command_of t) c.args.asked.now.best) c.in-Prove.is c.requires.unnamed in
    record {
      plan = (
        c.args.asked.now.tables.now,
        c.requires.fits,
        subst (λ (best : Option ℕ). IsPlanOf g.R.Rank.KEYS g.R.Rank.key c.args.asked.now.query.now c.args.asked.now.tables.now best c.args.asked.now.plan.now) none c.requires.plan,
      );
    }

pub print_report-requires : goal.print_report-requires
print_report-requires g c = record { plan = whole_of g.R.Rank.KEYS g.R.Rank.key c.args.asked.now.query.now c.args.asked.now.tables.now c.args.asked.now.best c.args.asked.now.plan.now c.requires.plan }

-- `verify` plans no query
pub unreachable-requires : goal.unreachable-requires
unreachable-requires g c = rw c.in-Verify.is at c.requires.planned
