-- An input, as contracts see it, from its parts.
use Rattle.proof_model.specs.ProofView.{proof_view}
use Rattle.command_input.specs.Input.{InputView}
use Rattle.command_input.specs.declared.binding.Input.TheInside.{Inside}

abbrev pub input_view : Inside → InputView
input_view input =
    record {
      queries = input.queries.items;
      tables = input.tables;
      best = input.best;
      steps = input.script.items;
      proof = proof_view input.proof;
    }
