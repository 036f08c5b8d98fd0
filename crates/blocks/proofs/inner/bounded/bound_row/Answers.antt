use Rattle.complementarity.proofs.Laws.{ready}
use Rattle.blocks.proofs.inner.bounded.bound_row.Goals as goal

pub put_row-requires : goal.put_row-requires
put_row-requires c =
    let q = ready c.args.p.now.given c.column_count-v.ensures c.args.d c.bound_line-line.ensures in
    record { within = q.within; z_bound = q.small; line_bound = rw q.same c.requires.room }

pub returns : goal.returns
returns c = let q = ready c.args.p.now.given c.column_count-v.ensures c.args.d c.bound_line-line.ensures in rw q.same at c.put_row.ensures
