use Rattle.std.proofs.Common.{◌≤◌, ◌+◌, ◌*◌}
use Rattle.lists.specs.UpTo.{listed}
use Rattle.numbering.specs.Network.{grid}
use Rattle.matrix.specs.Columns.{wi_cells}
use Rattle.cells.specs.Puts.{PutsColumns}
use Rattle.record_columns.proofs.inner.branches.put_wis.Given as goal

abbrev pub invariant-loop-e : goal.invariant-loop-e
invariant-loop-e l =
    record {
      col_bound : l.col ≤ 900000;
      bound : l.cells.at ≤ l.initial.cells.at + 7 * l.e;
      written : PutsColumns (listed l.e (wi_cells (grid l.net))) l.col l.initial.starts l.initial.cells l.starts l.cells;
    }
