use Rattle.query_parse.proofs.Stepping.{condition_steps}
use Rattle.query_parse.proofs.reader.FromItems.read_joined.Goals as goal

pub several-requires : goal.several-requires
several-requires c = condition_steps
