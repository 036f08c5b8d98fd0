-- `bus_columns::inner::column::put_cones` meets its contract. Assumes nothing.
use Rattle.std.proofs.Common.{get_or}
use Rattle.lists.specs.UpTo.{each}
use Rattle.cells.specs.Puts.{PutsCells}
use Rattle.numbering.specs.Network.{grid}
use Rattle.bus_columns.specs.Ends.{cone_end}
use Rattle.bus_columns.proofs.inner.column.put_cones.Given as goal

abbrev pub invariant-loop-x : goal.invariant-loop-x
invariant-loop-x l = PutsCells (each l.x-index (λ t. cone_end (grid l.net) (get_or l.ends t 0))) l.initial.cells l.cells
