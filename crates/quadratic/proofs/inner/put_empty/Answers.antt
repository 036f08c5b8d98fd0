use Rattle.cells.proofs.Puts.{none, no-column, column}
use Rattle.quadratic.proofs.inner.put_empty.Goals as goal

pub loop-i-init : goal.loop-i-init
loop-i-init c = no-column _

pub loop-i-preserved : goal.loop-i-preserved
loop-i-preserved c = column _ c.loop-i.i c.loop-i.invariant none c.end_column.ensures
