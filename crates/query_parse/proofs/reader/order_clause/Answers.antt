use Rattle.query_parse.proofs.Stepping.{key_steps}
use Rattle.query_parse.proofs.reader.order_clause.Goals as goal

pub several-requires : goal.several-requires
several-requires c = key_steps
