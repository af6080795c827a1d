use Rattle.proof_check.proofs.SolutionWitnesses.{rows_count, rows_key, solution_witness, witness_solution}
use Rattle.proof_check.proofs.laws.solutions_are_witnesses.Goals as goal

pub returns : goal.returns
returns c = λ query tables atoms parents within hung rows. (
  (
    solution_witness query tables atoms parents within hung rows,
    witness_solution query tables atoms parents within hung rows,
  ),
  λ w. rows_key query tables atoms parents within hung rows (rows_count query tables atoms parents within hung rows w),
)
