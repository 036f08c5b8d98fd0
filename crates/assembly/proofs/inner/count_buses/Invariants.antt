use Rattle.std.proofs.Common.{◌≤◌, ◌*◌, ◌≡◌, length}
use Rattle.lists.specs.UpTo.{sum}
use Rattle.numbering.specs.Network.{grid}
use Rattle.bus_columns.specs.Counts.{own_cells}
use Rattle.assembly.proofs.inner.count_buses.Given as goal

abbrev pub invariant-loop-i : goal.invariant-loop-i
invariant-loop-i l =
    record {
      bound : l.count ≤ 4 * l.i;
      counted : l.count ≡ sum l.i (λ j. length (own_cells (grid l.net) j));
    }
