use Rattle.proof_model.proofs.SumsFit.{sums_fit_lem}
use Rattle.proof_model.proofs.sums_fit.Goals as goal

pub returns : goal.returns
returns c = λ bound tables atoms parents d fits few hung less part parts.
    sums_fit_lem bound tables atoms parents fits few hung part parts d less
