-- `bus_columns::inner::counts::count_to` meets its contract: the two of the cone are always there. Assumes nothing.
use Rattle.std.proofs.Common.{arith}
use Rattle.numbering.specs.Network.{grid}
use Rattle.bus_columns.proofs.Counts.{to-rows}
use Rattle.bus_columns.proofs.inner.counts.count_to.Goals as goal

pub returns-clause-value : goal.returns-clause-value
returns-clause-value c = omega (arith, to-rows (grid c.args.net.now) c.args.e, c.count_two.ensures.value)
