use Rattle.std.proofs.Common.{refl, arith, length}
use Rattle.lists.specs.UpTo.{up_to}
use Rattle.lists.proofs.Sums.{sum-next}
use Rattle.numbering.specs.Network.{grid}
use Rattle.bus_columns.specs.Counts.{own_cells}
use Rattle.assembly.proofs.inner.count_buses.Goals as goal

pub loop-i-init : goal.loop-i-init
unfolding up_to
loop-i-init c = record { bound = omega arith; counted = refl }

pub loop-i-preserved : goal.loop-i-preserved
loop-i-preserved c =
    let G = grid c.args.net.now in
    let o = c.loop-i in
    record {
      bound = omega arith;
      counted = omega (arith, o.invariant.counted, c.count_own-count.ensures.value, sum-next o.i (λ j. length (own_cells G j)));
    }
