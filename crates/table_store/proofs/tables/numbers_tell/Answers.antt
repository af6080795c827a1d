use Rattle.table_store.proofs.Numbers.{numbers_tell_lem}
use Rattle.table_store.proofs.tables.numbers_tell.Goals as goal

pub returns : goal.returns
returns c = numbers_tell_lem
