use Rattle.reply_parts.proofs.PartTexts.{history-parts, told-parts}
use Rattle.reply_parts.proofs.laws.history_of_parts.Goals as goal

pub returns-clause-history : goal.returns-clause-history
returns-clause-history c = history-parts

pub returns-clause-told : goal.returns-clause-told
returns-clause-told c = told-parts
