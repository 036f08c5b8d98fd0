use Rattle.blocks.proofs.Laws.{ohm-same}
use Rattle.blocks.proofs.inner.ohm.ohm_row.Goals as goal

pub overflow_add-r : goal.overflow_add-r
overflow_add-r c = record { fits = (ohm-same c.args.net.now.laid c.column_count.ensures c.ohm_line-o.ensures).0 }

pub put_ohm-requires : goal.put_ohm-requires
put_ohm-requires c = rw (ohm-same c.args.net.now.laid c.column_count.ensures c.ohm_line-o.ensures).1 c.requires.room

pub returns : goal.returns
returns c = rw (ohm-same c.args.net.now.laid c.column_count.ensures c.ohm_line-o.ensures).1 at c.put_ohm.ensures
