use Rattle.std.proofs.Common.{◌≡◌, ◌∙◌, None, false, map, ap, refl}
use Rattle.cmd_words.specs.NamedPairs.{named_pair}
use Rattle.make_input.specs.Input.{query_file, table_files}
use Rattle.verdict.specs.Words.{Named, InputFiles, nothing}
use Rattle.command_input.proofs.generated_input.asked_of_made.Goals as goal

pub returns : goal.returns
returns c = record {
  asked =
      let names : map named_pair c.as_slice.result.now ≡ table_files = ap (map named_pair) c.as_slice.ensures.value ∙ c.args.made.now.names in
      let of : Named → InputFiles = λ named. record { query = query_file; several = false; aside = nothing; named = named; best_of = None } in
      ap of names;
  one = refl;
}
