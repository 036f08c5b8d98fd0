use Rattle.std.proofs.Common.{◌+◌, refl, arith, length}
use Rattle.lists.specs.UpTo.{up_to}
use Rattle.lists.proofs.Sums.{sum-next}
use Rattle.numbering.specs.Network.{grid}
use Rattle.bus_columns.specs.Counts.{from_cells, to_cells}
use Rattle.assembly.proofs.inner.count_ends.Goals as goal

pub loop-e-init : goal.loop-e-init
unfolding up_to
loop-e-init c = record { bound = omega arith; counted = refl }

pub loop-e-preserved : goal.loop-e-preserved
loop-e-preserved c =
    let a = c.args in
    let G = grid a.net.now in
    let o = c.loop-e in
    let s = sum-next o.e (λ j. length (from_cells G j) + length (to_cells G j)) in
    record { bound = omega arith; counted = omega (arith, o.invariant.counted, c.count_from.ensures.value, c.count_to.ensures.value, s) }
