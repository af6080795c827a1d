use Rattle.query_parse.proofs.Stepping.{term_steps}
use Rattle.query_parse.proofs.reader.KeyRefClauseReader.read.Goals as goal

pub several-requires : goal.several-requires
several-requires c = term_steps
