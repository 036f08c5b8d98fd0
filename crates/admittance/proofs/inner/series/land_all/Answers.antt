-- `admittance::inner::series::land_all` meets its contract. The stores so far are those of the entries passed. Assumes nothing.
use Rattle.std.proofs.Common.{◌≡◌, arith, length}
use Rattle.admittance.specs.Places.{landed_at}
use Rattle.admittance.proofs.Stored.{turn-none, turn_more}
use Rattle.admittance.proofs.inner.series.land_all.Goals as goal

pub loop-e-init : goal.loop-e-init
loop-e-init c = turn-none (landed_at c.args.x.now c.args.z.now c.args.nvar) c.args.es c.args.column.now

pub loop-e-preserved : goal.loop-e-preserved
loop-e-preserved c =
    let a = c.args in
    let n : length a.es ≡ 10 = c.well_formed.1.1.0.1.0.1 in
    turn_more (landed_at a.x.now a.z.now a.nvar) a.es _ _ a.column.now (omega arith) c.loop-e.invariant c.land.ensures
