use Rattle.table_image.proofs.ChainedTables.{chained_table}
use Rattle.table_image.proofs.chains.chained_tables_tell_the_same.Goals as goal

pub returns : goal.returns
returns c = λ a t whole chained. chained_table a t whole chained
