use Rattle.table_store.proofs.Eights.{digits_are}
use Rattle.table_store.proofs.number.are_digits.Goals as goal

pub returns : goal.returns
returns c bytes eight is = digits_are bytes c.args.word eight is
