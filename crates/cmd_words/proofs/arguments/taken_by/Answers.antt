use Rattle.std.proofs.Common.{◌≡◌, ◌∙◌, ap, sym}
use Rattle.cmd_words.specs.Arguments.{run_app, session_app, plan_app, prove_app, verify_app, load_app}
use Rattle.cmd_words.specs.CommandNames.{app_named}
use Rattle.cmd_words.specs.declared.name.FilesName.{FilesName}
use Rattle.cmd_words.specs.declared.name.FilesName.TheVariants.{Run, Session, Plan, Prove, Verify}
use Rattle.cmd_words.specs.declared.name.CommandName.{CommandName}
use Rattle.cmd_words.specs.declared.name.CommandName.TheVariants.{OverFiles}
use Rattle.cmd_words.proofs.arguments.taken_by.Goals as goal

of_files : (name : CommandName) (files which : FilesName) → name ≡ OverFiles files → files ≡ which → app_named (OverFiles which) ≡ app_named name
of_files name files which is same = ap (λ (f : FilesName). app_named (OverFiles f)) (sym same) ∙ ap app_named (sym is)

pub returns-in-OverFiles-Run : goal.returns-in-OverFiles-Run
unfolding run_app
returns-in-OverFiles-Run c = of_files c.args.name c.in-OverFiles-Run.field-0 Run c.in-OverFiles-Run.is (rw c.in-OverFiles-Run.is at c.in-OverFiles-Run.field-0-is)

pub returns-in-OverFiles-Session : goal.returns-in-OverFiles-Session
unfolding session_app
returns-in-OverFiles-Session c = of_files c.args.name c.in-OverFiles-Session.field-0 Session c.in-OverFiles-Session.is (rw c.in-OverFiles-Session.is at c.in-OverFiles-Session.field-0-is)

pub returns-in-OverFiles-Plan : goal.returns-in-OverFiles-Plan
unfolding plan_app
returns-in-OverFiles-Plan c = of_files c.args.name c.in-OverFiles-Plan.field-0 Plan c.in-OverFiles-Plan.is (rw c.in-OverFiles-Plan.is at c.in-OverFiles-Plan.field-0-is)

pub returns-in-OverFiles-Prove : goal.returns-in-OverFiles-Prove
unfolding prove_app
returns-in-OverFiles-Prove c = of_files c.args.name c.in-OverFiles-Prove.field-0 Prove c.in-OverFiles-Prove.is (rw c.in-OverFiles-Prove.is at c.in-OverFiles-Prove.field-0-is)

pub returns-in-OverFiles-Verify : goal.returns-in-OverFiles-Verify
unfolding verify_app
returns-in-OverFiles-Verify c = of_files c.args.name c.in-OverFiles-Verify.field-0 Verify c.in-OverFiles-Verify.is (rw c.in-OverFiles-Verify.is at c.in-OverFiles-Verify.field-0-is)

pub returns-in-Load : goal.returns-in-Load
unfolding load_app
returns-in-Load c = ap app_named (sym c.in-Load.is)
