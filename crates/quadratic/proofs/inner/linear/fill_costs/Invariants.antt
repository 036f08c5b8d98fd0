-- `quadratic::inner::linear::fill_costs` meets its contract: each turn writes one more cost. Assumes nothing.
use Rattle.std.proofs.Common.{◌≤◌, ◌+◌, length}
use Rattle.lists.specs.UpTo.{listed}
use Rattle.cells.specs.Filled.{Filled}
use Rattle.quadratic.specs.Linear.{linear_cost}
use Rattle.quadratic.proofs.inner.linear.fill_costs.Given as goal

abbrev pub invariant-loop-g : goal.invariant-loop-g
invariant-loop-g l =
    record {
      room : l.pg + l.net.layout.k ≤ length l.initial.out;
      filled : Filled (listed l.g (linear_cost l.net.layout l.net.bytes.now)) l.initial.out l.pg l.out;
    }
