-- `bus_columns::inner::column::put_ohms` meets its contract. Assumes nothing.
use Rattle.std.proofs.Common.{get_or}
use Rattle.lists.specs.UpTo.{each}
use Rattle.cells.specs.Puts.{PutsCells}
use Rattle.numbering.specs.Network.{grid}
use Rattle.bus_columns.specs.Ends.{ohm_end}
use Rattle.bus_columns.proofs.inner.column.put_ohms.Given as goal

abbrev pub invariant-loop-x : goal.invariant-loop-x
invariant-loop-x l = PutsCells (each l.x-index (λ t. ohm_end (grid l.from.net) l.q (get_or l.ends t 0))) l.initial.cells l.cells
