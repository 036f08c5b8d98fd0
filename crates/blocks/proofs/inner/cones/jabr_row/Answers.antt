use Rattle.complementarity.proofs.Laws.{cone-ready}
use Rattle.blocks.proofs.inner.cones.jabr_row.Goals as goal

pub put_lines-requires : goal.put_lines-requires
put_lines-requires c =
    let q = cone-ready c.args.p.now.given c.column_count-v.ensures c.args.d c.jabr-c.ensures in
    record { by_index = q.within; z_bound = q.small; d_bound = rw q.same c.requires.room }

pub returns : goal.returns
returns c = let q = cone-ready c.args.p.now.given c.column_count-v.ensures c.args.d c.jabr-c.ensures in rw q.same at c.put_lines.ensures
