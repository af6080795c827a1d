use Rattle.std.proofs.Common.{◌≡◌, ◌<◌, ◌∙◌, ℕ, length, ap, sym, subst, rules}
use Rattle.std.specs.List.{AllByRecursion}
use Rattle.plan_tests.proofs.reports.reports.Goals as goal

pub reports_text-requires-clause-known : goal.reports_text-requires-clause-known
reports_text-requires-clause-known g c =
    let two : length c.read_two.new.tables ≡ 2 = search rules in
    subst (λ (n : ℕ). AllByRecursion (λ t. t < n) c.args.which.now) (sym (ap length c.deref.ensures ∙ two)) c.requires.known
