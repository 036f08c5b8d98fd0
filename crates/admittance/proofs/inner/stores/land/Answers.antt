-- `admittance::inner::stores::land` meets its contract. Assumes nothing.
use Rattle.admittance.specs.Stores.{stored_all}
use Rattle.admittance.proofs.inner.stores.land.Goals as goal

pub returns : goal.returns
unfolding stored_all
returns c = cc
