use Rattle.std.proofs.Common.{◌+◌, ◌≤◌, ◌*◌, ◌≡◌, length}
use Rattle.lists.specs.UpTo.{sum}
use Rattle.numbering.specs.Network.{grid}
use Rattle.bus_columns.specs.Counts.{from_cells, to_cells}
use Rattle.assembly.proofs.inner.count_ends.Given as goal

abbrev pub invariant-loop-e : goal.invariant-loop-e
invariant-loop-e l =
    let G = grid l.net in
    record {
      bound : l.count ≤ 8 * l.e;
      counted : l.count ≡ sum l.e (λ j. length (from_cells G j) + length (to_cells G j));
    }
