-- `bus_columns::inner::gathering::gather` meets its contract. Assumes nothing.
use Rattle.lists.specs.UpTo.{each}
use Rattle.numbering.specs.Network.{grid}
use Rattle.cells.specs.Filled.{Filled}
use Rattle.bus_columns.specs.Gathered.{four_of}
use Rattle.bus_columns.proofs.inner.gathering.gather.Given as goal

abbrev pub invariant-loop-e : goal.invariant-loop-e
invariant-loop-e l = Filled (each l.e (four_of (grid l.net))) l.initial.vals l.at l.vals
