use Rattle.std.proofs.Common.{ap}
use Rattle.std.proofs.lemmas.Result.{err_from_is_err_and}
use Rattle.anyk_model.specs.Query.{Column}
use Rattle.query_bind.proofs.binding.TermBinds.bind.Goals as goal

pub returns-in_err-column : goal.returns-in_err-column
returns-in_err-column c =
    let p = err_from_is_err_and c.from_residual.result c.from_residual.ensures.1 in
    rw (p.1, p.2) c.in_err-column.ensures

pub returns : goal.returns
returns c = (ap (λ (k : Column). record { minus = c.args.self.now.minus; column = k }) c.in_ok-column.ensures.0, c.in_ok-column.ensures.1)
