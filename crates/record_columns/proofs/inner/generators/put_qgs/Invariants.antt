use Rattle.std.proofs.Common.{◌≤◌, ◌+◌, ◌*◌}
use Rattle.lists.specs.UpTo.{listed}
use Rattle.numbering.specs.Network.{grid}
use Rattle.matrix.specs.Columns.{qg_cells}
use Rattle.cells.specs.Puts.{PutsColumns}
use Rattle.record_columns.proofs.inner.generators.put_qgs.Given as goal

abbrev pub invariant-loop-g : goal.invariant-loop-g
invariant-loop-g l =
    record {
      col_bound : l.col ≤ 900000;
      bound : l.cells.at ≤ l.initial.cells.at + 3 * l.g;
      written : PutsColumns (listed l.g (qg_cells (grid l.net))) l.col l.initial.starts l.initial.cells l.starts l.cells;
    }
