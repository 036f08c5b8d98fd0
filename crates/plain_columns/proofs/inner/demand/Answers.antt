-- `plain_columns::inner::demand` meets its contract. Assumes nothing.
use Rattle.admittance.specs.Stores.{stored_all}
use Rattle.plain_columns.proofs.inner.demand.Goals as goal

pub returns : goal.returns
unfolding stored_all
returns c = cc
