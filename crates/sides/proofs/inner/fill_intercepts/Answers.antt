-- `sides::inner::fill_intercepts` meets its contract. Assumes nothing.
use Rattle.cells.proofs.Fills.{filled_none, filled_more}
use Rattle.sides.proofs.inner.fill_intercepts.Goals as goal

pub loop-i-init : goal.loop-i-init
loop-i-init c = filled_none _

pub loop-i-preserved : goal.loop-i-preserved
loop-i-preserved c = let r = c.record.ensures in filled_more _ c.loop-i.invariant (rw (r.place, r.bytes) at c.segment_side.ensures)
