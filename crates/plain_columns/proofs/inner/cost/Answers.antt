-- `plain_columns::inner::cost` meets its contract. Assumes nothing.
use Rattle.admittance.specs.Stores.{stored_all}
use Rattle.plain_columns.proofs.inner.cost.Goals as goal

pub returns : goal.returns
unfolding stored_all
returns c = cc
