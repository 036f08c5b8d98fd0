use Rattle.complementarity.proofs.Laws.{ready}
use Rattle.blocks.proofs.inner.segments.segment_row.Goals as goal

pub segment-line-requires : goal.segment-line-requires
segment-line-requires c = record { g_lt_k = c.requires.g_lt_k; segments_value = c.requires.before_value }

pub put_row-requires : goal.put_row-requires
put_row-requires c =
    let q = ready c.args.p.now.given c.column_count-v.ensures c.args.d c.segment-line.ensures in
    record { within = q.within; z_bound = q.small; line_bound = rw q.same c.requires.room }

pub returns : goal.returns
returns c = let q = ready c.args.p.now.given c.column_count-v.ensures c.args.d c.segment-line.ensures in rw q.same at c.put_row.ensures
