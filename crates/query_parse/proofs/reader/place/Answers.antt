use Rattle.query_parse.proofs.Fronts.{first_place}
use Rattle.query_parse.proofs.reader.place.Goals as goal

pub returns-in-len1-up : goal.returns-in-len1-up
returns-in-len1-up c = first_place c.args.end c.args.tokens.now _ c.in-len1-up.len_at_least
