-- `bus_columns::inner::gathering::gather` meets its contract. Assumes nothing.
use Rattle.std.proofs.Common.{arith}
use Rattle.numbering.specs.Network.{grid}
use Rattle.cells.proofs.Fills.{filled-nothing, filled-turn}
use Rattle.bus_columns.proofs.Gathered.{fours-length}
use Rattle.bus_columns.proofs.inner.gathering.gather.Goals as goal

pub loop-e-init : goal.loop-e-init
loop-e-init c = filled-nothing _

pub loop-e-preserved : goal.loop-e-preserved
loop-e-preserved c = filled-turn _ c.loop-e.invariant (omega (arith, fours-length (grid c.args.net.now) c.loop-e.e)) c.put_four.ensures
