use Rattle.std.proofs.Common.{◌≡◌, ◌++◌, List, ℕ, Err, rules, codes}
use Rattle.refusals.specs.Reason.{branch_of, branch_text, text_of}
use Rattle.refusals.specs.RefusalReasons.{reason_of}
use Rattle.refusals.specs.declared.refusal.Refusal.{Refusal}
use Rattle.refusals.proofs.Sending.{Sent-stopped, Sent-then}
use Rattle.refusals.proofs.line.write_line.Goals as goal

-- what follows `anyk: `, and what follows the branch
abbrev after_name : Refusal → List ℕ
after_name refusal = branch_text (branch_of (reason_of refusal)) ++ (text_of (reason_of refusal) ++ codes "\n")

abbrev after_branch : Refusal → List ℕ
after_branch refusal = text_of (reason_of refusal) ++ codes "\n"

pub returns-in_err-write_text : goal.returns-in_err-write_text
returns-in_err-write_text g c =
    let e : c.from_residual.result ≡ Err c.in_err-write_text.field-0.0 = search rules in
    rw e (Sent-stopped _ _ (codes "anyk: ") (after_name c.args.refusal) _ c.in_err-write_text.ensures)

pub returns-in_err-write_branch : goal.returns-in_err-write_branch
returns-in_err-write_branch g c =
    let e : c.from_residual-in_err-write_branch.result ≡ Err c.in_err-write_branch.field-0.0 = search rules in
    rw e
    (Sent-then _ _ _ (codes "anyk: ") (after_name c.args.refusal) _ c.in_ok-write_text.ensures.whole c.in_ok-write_text.ensures.later
    (Sent-stopped _ _ (branch_text (branch_of (reason_of c.args.refusal))) (after_branch c.args.refusal) _ (rw c.branch-refusal.ensures at c.in_err-write_branch.ensures)))

pub returns-in_err-write_reason : goal.returns-in_err-write_reason
returns-in_err-write_reason g c =
    let e : c.from_residual-in_err-write_reason.result ≡ Err c.in_err-write_reason.field-0.0 = search rules in
    let branch = rw c.branch-refusal.ensures at c.in_ok-write_branch.ensures in
    rw e
    (Sent-then _ _ _ (codes "anyk: ") (after_name c.args.refusal) _ c.in_ok-write_text.ensures.whole c.in_ok-write_text.ensures.later
    (Sent-then _ _ _ (branch_text (branch_of (reason_of c.args.refusal))) (after_branch c.args.refusal) _ branch.whole branch.later
    (Sent-stopped _ _ (text_of (reason_of c.args.refusal)) (codes "\n") _ c.in_err-write_reason.ensures)))

pub returns : goal.returns
returns g c =
    let branch = rw c.branch-refusal.ensures at c.in_ok-write_branch.ensures in
    Sent-then _ _ _ (codes "anyk: ") (after_name c.args.refusal) _ c.in_ok-write_text.ensures.whole c.in_ok-write_text.ensures.later
    (Sent-then _ _ _ (branch_text (branch_of (reason_of c.args.refusal))) (after_branch c.args.refusal) _ branch.whole branch.later
    (Sent-then _ _ _ (text_of (reason_of c.args.refusal)) (codes "\n") _ c.in_ok-write_reason.ensures.whole c.in_ok-write_reason.ensures.later c.write_text-2.ensures))
