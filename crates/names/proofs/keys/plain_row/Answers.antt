-- The table's name of a block has its key.
use Rattle.names.proofs.Table.{rows_keyed}
use Rattle.names.proofs.keys.plain_row.Goals as goal

pub returns : goal.returns
returns c = rows_keyed c.args.i _ c.args.block c.requires
