use Rattle.std.proofs.Common.{◌∙◌, codes}
use Rattle.clap.specs.Matches.{found_of}
use Rattle.clap.proofs.WalkLemmas.{first_value-rows, raw_values-rows}
use Rattle.cmd_words.proofs.Taken.{same_texts}
use Rattle.cmd_words.proofs.texts.texts_of.Goals as goal

pub returns : goal.returns
returns c =
    let found = found_of c.args.matches.now in
    same_texts _ _ _ _ _ _ _ _ _ _ _ _ _ _ _ _
    (c.get_str.ensures ∙ first_value-rows found (codes "engine"))
    (c.get_str-2.ensures ∙ first_value-rows found (codes "ranks"))
    (c.get_str-3.ensures ∙ first_value-rows found (codes "rows"))
    (c.get_str-4.ensures ∙ first_value-rows found (codes "script"))
    (c.get_str-5.ensures ∙ first_value-rows found (codes "proof"))
    (c.get_str-6.ensures ∙ first_value-rows found (codes "best-of"))
    (c.get_str-7.ensures ∙ first_value-rows found (codes "query"))
    (c.get_strs.ensures ∙ raw_values-rows found (codes "tables"))
