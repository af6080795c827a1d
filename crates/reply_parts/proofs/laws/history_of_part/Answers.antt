use Rattle.reply_parts.proofs.PartTexts.{history-in_head, history-in_part}
use Rattle.reply_parts.proofs.laws.history_of_part.Goals as goal

pub returns-clause-in_part : goal.returns-clause-in_part
returns-clause-in_part c = history-in_part

pub returns-clause-in_head : goal.returns-clause-in_head
returns-clause-in_head c = history-in_head
