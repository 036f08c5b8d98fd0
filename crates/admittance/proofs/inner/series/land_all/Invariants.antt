-- `admittance::inner::series::land_all` meets its contract. The stores so far are those of the entries passed. Assumes nothing.
use Rattle.std.proofs.Common.{◌≡◌, take}
use Rattle.admittance.specs.Stores.{stored_all}
use Rattle.admittance.specs.Places.{landed_all}
use Rattle.admittance.proofs.inner.series.land_all.Given as goal

abbrev pub invariant-loop-e : goal.invariant-loop-e
invariant-loop-e l = l.column ≡ stored_all (landed_all l.x l.z l.nvar (take l.e-index l.fn.es)) l.initial.column
