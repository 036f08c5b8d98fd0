-- `admittance::inner::series::susceptance` meets its contract. Assumes nothing.
use Rattle.std.proofs.Common.{refl}
use Rattle.admittance.specs.Places.{series_entries}
use Rattle.admittance.proofs.inner.series.susceptance.Goals as goal

pub returns : goal.returns
unfolding series_entries
returns c = refl
