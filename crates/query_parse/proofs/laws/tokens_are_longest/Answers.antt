use Rattle.query_parse.proofs.LongestTokens.{tokens_iff}
use Rattle.query_parse.proofs.laws.tokens_are_longest.Goals as goal

pub returns : goal.returns
returns c = tokens_iff
