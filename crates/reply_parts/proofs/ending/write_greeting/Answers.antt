use Rattle.reply_parts.proofs.Ends.{greeted_first}
use Rattle.reply_parts.proofs.ending.write_greeting.Goals as goal

pub returns-clause-first : goal.returns-clause-first
returns-clause-first g c = greeted_first c.write_all.result _ _ c.write_all.ensures.all
