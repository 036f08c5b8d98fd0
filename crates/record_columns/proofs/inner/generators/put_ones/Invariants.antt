use Rattle.std.proofs.Common.{◌≤◌, ◌+◌}
use Rattle.lists.specs.UpTo.{each}
use Rattle.cells.specs.Puts.{PutsCells}
use Rattle.record_columns.specs.Writers.{ones}
use Rattle.record_columns.proofs.inner.generators.put_ones.Given as goal

abbrev pub invariant-loop-t : goal.invariant-loop-t
invariant-loop-t l =
    record { bound : l.cells.at ≤ l.initial.cells.at + l.t; written : PutsCells (each l.t (ones l.row)) l.initial.cells l.cells }
