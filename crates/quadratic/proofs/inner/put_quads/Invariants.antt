use Rattle.std.proofs.Common.{◌≤◌, ◌+◌}
use Rattle.lists.specs.UpTo.{listed}
use Rattle.cells.specs.Puts.{PutsColumns}
use Rattle.quadratic.specs.Quadratic.{quad_cells}
use Rattle.quadratic.proofs.inner.put_quads.Given as goal

abbrev pub invariant-loop-g : goal.invariant-loop-g
invariant-loop-g l =
    record {
      bound : l.cells.at ≤ l.initial.cells.at + l.g;
      written : PutsColumns (listed l.g (quad_cells l.net.layout l.net.bytes.now)) l.pg l.initial.starts l.initial.cells l.starts l.cells;
    }
