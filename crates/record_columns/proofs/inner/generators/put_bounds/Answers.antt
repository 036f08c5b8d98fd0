-- The two cells follow one another where the bounds are active, and else nothing is written.
use Rattle.cells.proofs.Puts.{none, then}
use Rattle.record_columns.specs.Writers.{pair}
use Rattle.record_columns.proofs.inner.generators.put_bounds.Goals as goal

pub returns-then-on-clause-puts : goal.returns-then-on-clause-puts
unfolding pair
returns-then-on-clause-puts c = rw c.if-on.true (then c.put.ensures.puts c.put-then-on.ensures.puts)

pub returns-else-on-clause-puts : goal.returns-else-on-clause-puts
returns-else-on-clause-puts c = rw c.if-on.false none
