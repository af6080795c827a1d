use Rattle.std.proofs.Common.{◌∙◌}
use Rattle.std.specs.String.{string_bytes}
use Rattle.std.proofs.lemmas.Result.{IfOk-weaker}
use Rattle.cmd_words.proofs.Taken.{said_to_first}
use Rattle.cmd_words.proofs.reading.read_words.Goals as goal

pub returns-in-Some : goal.returns-in-Some
returns-in-Some c = record {
  words =
      IfOk-weaker c.read_named.result _ _ (λ command h.
      said_to_first string_bytes c.args.words.now c.first-item.result c.as_str.result.now c.in-Some.name c.in-len1-up.len_at_least c.first-item.is c.as_str.ensures.value c.in-Some.ensures ∙ h) c.read_named.ensures.words;
  usage =
      λ h.
      said_to_first string_bytes c.args.words.now c.first-item.result c.as_str.result.now c.in-Some.name c.in-len1-up.len_at_least c.first-item.is c.as_str.ensures.value c.in-Some.ensures ∙ c.read_named.ensures.usage h;
  ranges = c.read_named.ensures.ranges;
}
