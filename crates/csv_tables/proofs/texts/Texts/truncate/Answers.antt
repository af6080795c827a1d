use Rattle.std.proofs.Common.{◌∙◌, ap, take}
use Rattle.csv_tables.proofs.texts.Texts.truncate.Goals as goal

pub returns : goal.returns
returns c = c.truncate.ensures.keys ∙ ap (take c.args.len) c.self.view_is
