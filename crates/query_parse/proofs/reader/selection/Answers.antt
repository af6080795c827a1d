use Rattle.query_parse.proofs.Stepping.{column_steps}
use Rattle.query_parse.proofs.reader.selection.Goals as goal

pub several-requires : goal.several-requires
several-requires c = column_steps
