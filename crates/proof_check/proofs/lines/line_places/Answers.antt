use Rattle.std.proofs.Common.{◌-◌, ◌≤◌, length, subst, arith}
use Rattle.std.specs.Option.{MatchOption}
use Rattle.proof_model.specs.Problem.{IsSolutionAt}
use Rattle.proof_model.specs.QueryProblem.{problem_in}
use Rattle.proof_check.specs.Places.{ArePlacesOf}
use Rattle.proof_check.proofs.LineFaults.{line_placed}
use Rattle.proof_check.proofs.lines.line_places.Goals as goal

pub returns : goal.returns
returns g c = λ query tables join has.
    let few : c.args.bound.now.node ≤ length c.args.raw.now.shapes = omega (arith, c.nodes.ensures.count, c.if-bound-nodes.false) in
    line_placed query tables join c.args.raw.now c.args.bound.now.node c.args.bound.now.rows.items c.solution_places.result
    c.if-bound-eq0.false few
    (subst (λ rows. MatchOption c.solution_places.result
    (IsSolutionAt (problem_in query tables join) (c.args.bound.now.node - 1) rows → ⊥)
    (ArePlacesOf query tables join c.args.raw.now (c.args.bound.now.node - 1) rows)) c.as_slice.ensures.value
    (c.solution_places.ensures query tables join has))
