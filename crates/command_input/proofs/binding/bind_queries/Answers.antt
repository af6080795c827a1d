use Rattle.std.proofs.Common.{◌≡◌, ◌∙◌, ◌+◌, length, Err, ap, subst, sym, arith}
use Rattle.refusals.specs.Reason.{Reason}
use Rattle.verdict.specs.Faults.{of_bind}
use Rattle.verdict.specs.Loading.{are_several, bound_from, told_branch}
use Rattle.verdict.specs.StageResults.{Pure}
use Rattle.verdict.specs.Stages.{Is}
use Rattle.command_input.proofs.binding.bind_queries.Goals as goal

pub returns-in-Ok : goal.returns-in-Ok
returns-in-Ok c = record { bound = c.in-Ok.ensures.bound; count = c.in-Ok.ensures.count; fits = c.in-Ok.ensures.fits }

pub returns : goal.returns
returns c =
    let selects = c.args.selects.now in
    let number : c.len.result ≡ length c.bind_each.new.queries.items = omega (arith, c.len.ensures, c.bind_each.new.queries.ok.0) in
    let branch = c.told_branch-branch.ensures ∙ ap (λ n. told_branch (are_several selects) (n + 1)) number in
    record {
      bound =
          λ names numbers.
          let P : Reason → Type 0 = λ a. Pure (Is (bound_from names c.args.tables.now (are_several selects) 1 selects)) (Err a) in
          subst P (sym (c.bind_refusal.ensures ∙ ap (λ b. of_bind b c.in-Err.fault) branch)) (c.in-Err.ensures.bound names numbers);
      count = tt;
      fits = tt;
    }

pub told_branch-branch-requires : goal.told_branch-branch-requires
told_branch-branch-requires c =
    let few = c.in-Err.ensures.few in
    let most = c.requires.limits.few in
    omega (arith, c.len.ensures, c.bind_each.new.queries.ok.0, few, most)
