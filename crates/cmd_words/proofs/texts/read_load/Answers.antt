use Rattle.std.proofs.Common.{◌∙◌, codes}
use Rattle.std.proofs.lemmas.Result.{IfOk-weaker}
use Rattle.clap.specs.Matches.{found_of}
use Rattle.clap.proofs.WalkLemmas.{first_value-rows}
use Rattle.cmd_words.proofs.Taken.{same_options}
use Rattle.cmd_words.proofs.texts.read_load.Goals as goal

pub returns : goal.returns
returns c = record {
  words =
      let found = found_of c.args.matches.now in
      IfOk-weaker c.read_load_options.result _ _ (λ said h. same_options _ _ _ _ _ _
      (c.get_str.ensures ∙ first_value-rows found (codes "engine"))
      (c.get_str-2.ensures ∙ first_value-rows found (codes "number"))
      (c.get_str-3.ensures ∙ first_value-rows found (codes "rows")) ∙ h) c.read_load_options.ensures.words;
  usage =
      let found = found_of c.args.matches.now in
      λ h. same_options _ _ _ _ _ _
      (c.get_str.ensures ∙ first_value-rows found (codes "engine"))
      (c.get_str-2.ensures ∙ first_value-rows found (codes "number"))
      (c.get_str-3.ensures ∙ first_value-rows found (codes "rows")) ∙ c.read_load_options.ensures.usage h;
  ranges = c.read_load_options.ensures.ranges;
}
