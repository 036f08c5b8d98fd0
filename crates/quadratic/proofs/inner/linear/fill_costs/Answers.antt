-- `quadratic::inner::linear::fill_costs` meets its contract: each turn writes one more cost. Assumes nothing.
use Rattle.std.proofs.Common.{refl, arith}
use Rattle.numbering.proofs.Laid.{pg_fits}
use Rattle.cells.proofs.Fills.{filled_none, filled_more}
use Rattle.quadratic.specs.Linear.{linear_cost}
use Rattle.quadratic.proofs.inner.linear.fill_costs.Goals as goal

pub loop-g-init : goal.loop-g-init
loop-g-init c = record { room = omega (arith, pg_fits c.args.net.now.layout); filled = filled_none _ }

pub loop-g-preserved : goal.loop-g-preserved
unfolding linear_cost
loop-g-preserved c =
    let o = c.loop-g.invariant in
    record { room = o.room; filled = filled_more _ o.filled (rw (c.cl.ensures, c.generator.ensures.place, c.generator.ensures.bytes) refl) }
