-- The balance row, then the bounds' rows as put_bounds says.
use Rattle.cells.proofs.Puts.{then}
use Rattle.record_columns.specs.Writers.{head}
use Rattle.record_columns.proofs.inner.generators.put_head.Goals as goal

pub returns-clause-puts : goal.returns-clause-puts
unfolding head
returns-clause-puts c = then c.put.ensures.puts (rw c.generator_capability_active.ensures at c.put_bounds.ensures.puts)
