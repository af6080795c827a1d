use Rattle.query_parse.proofs.LongestTokens.{scans_longest, stray_iff}
use Rattle.query_parse.proofs.laws.scans_are_longest.Goals as goal

pub returns-clause-longest : goal.returns-clause-longest
returns-clause-longest c = scans_longest

pub returns-clause-stray : goal.returns-clause-stray
returns-clause-stray c = stray_iff
