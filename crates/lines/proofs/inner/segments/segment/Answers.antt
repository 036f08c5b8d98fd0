-- `lines::inner::segments::segment` meets its contract. Its record, row and cost column are by the segments and cost columns before it, which are as many as the layout has at most. Assumes nothing.
use Rattle.std.proofs.Common.{ℕ, ◌+◌, ◌≡◌, ap, arith}
use Rattle.rows.specs.Rows.{b}
use Rattle.records.specs.Network.{segment_record}
use Rattle.records.proofs.Segments.{segment_record_lem}
use Rattle.lines.proofs.Lines.{segments_in, curves_in, segment-stands}
use Rattle.lines.proofs.inner.segments.segment.Goals as goal

pub overflow_add-position : goal.overflow_add-position
overflow_add-position c =
    let laid = c.args.net.now.laid in
    let q = laid.range in
    let p = c.requires in
    omega (arith, segments_in _ _ laid _ _ _ p.g_lt_k.0 p.g_lt_k.1 p.segments_value.0)

pub segment-r-requires : goal.segment-r-requires
segment-r-requires c = let p = c.requires in segments_in _ _ c.args.net.now.laid _ _ _ p.g_lt_k.0 p.g_lt_k.1 p.segments_value.0

pub cost_column-col-requires-clause-rank_bound : goal.cost_column-col-requires-clause-rank_bound
cost_column-col-requires-clause-rank_bound c = let p = c.requires in curves_in _ _ c.args.net.now.laid _ _ p.g_lt_k.0 p.segments_value.1

pub returns : goal.returns
unfolding b
returns c =
    let a = c.args in
    let net = a.net.now in
    let l = net.layout in
    let p = c.requires in
    let r = c.segment-r.ensures in
    let before = ap (λ (x : ℕ). l.n + l.m + l.k + x) p.segments_value.0 in
    let at : c.segment-r.result.r ≡ segment_record l.n l.m l.k net.bytes.now a.g a.t
    = omega (arith, r.place, segment_record_lem l.n l.m l.k net.bytes.now a.g a.t before) in
    rw (c.line.ensures, c.spot.ensures, c.spot-2.ensures, c.pg_column.ensures, c.slope-v.ensures, c.segment_side.ensures, r.bytes, at)
    (segment-stands _ _ net.laid _ _ _ _ p.g_lt_k.0 p.g_lt_k.1
    (rw p.segments_value.0 at c.segment_row-row.ensures)
    (rw p.segments_value.1 at c.cost_column-col.ensures))
