use Rattle.std.proofs.Common.{◌+◌, ◌≡◌, arith}
use Rattle.numbering.specs.declared.RowName.TheVariants.{Segment}
use Rattle.numbering.proofs.Numbers.{layout_row_lem}
use Rattle.cells.proofs.Puts.{no-turn, turn}
use Rattle.record_columns.specs.Writers.{slopes}
use Rattle.record_columns.proofs.inner.generators.put_slopes.Goals as goal

pub loop-t-init : goal.loop-t-init
loop-t-init c = record { bound = omega arith; written = no-turn _ }

pub overflow_cast-row-in-loop-t : goal.overflow_cast-row-in-loop-t
overflow_cast-row-in-loop-t c =
    let net = c.args.net.now in
    let r = net.laid.range in
    omega (arith, c.segment_row-row.ensures, layout_row_lem net.layout (Segment c.args.seg 0), c.requires, r.n-range, r.m-range, r.k-range, r.s-range)

pub loop-t-preserved : goal.loop-t-preserved
unfolding slopes
loop-t-preserved c =
    let N = c.args.net.now.layout in
    let r : c.segment.result.r ≡ N.n + N.m + N.k + c.args.seg + c.loop-t.t = omega (arith, c.segment.ensures.place) in
    let cell = rw (c.slope-v.ensures, r, c.segment.ensures.bytes, c.segment_row-row.ensures) at c.put_nonzero.ensures.puts in
    record { bound = omega (arith, c.loop-t.invariant.bound, c.put_nonzero.ensures.upper_bound); written = turn _ c.loop-t.t c.loop-t.invariant.written cell }
