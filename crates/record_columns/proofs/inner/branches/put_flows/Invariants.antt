use Rattle.std.proofs.Common.{◌≤◌, ◌+◌, ◌*◌, ◌≡◌}
use Rattle.lists.specs.UpTo.{listed, count}
use Rattle.numbering.specs.Network.{grid}
use Rattle.matrix.specs.Columns.{flow_cells}
use Rattle.cells.specs.Puts.{PutsColumns}
use Rattle.record_columns.proofs.inner.branches.put_flows.Given as goal

abbrev pub invariant-loop-e : goal.invariant-loop-e
invariant-loop-e l =
    record {
      ranked : l.rank ≡ count l.e (grid l.net).limited;
      few : l.rank ≤ l.e;
      bound : l.cells.at ≤ l.initial.cells.at + 3 * l.e;
      written : PutsColumns (listed l.e (flow_cells (grid l.net) l.q)) l.col l.initial.starts l.initial.cells l.starts l.cells;
    }
