use Rattle.cells.proofs.Puts.{none}
use Rattle.cells.proofs.Cells.put_if.Goals as goal

pub returns-else-hit-clause-puts : goal.returns-else-hit-clause-puts
returns-else-hit-clause-puts c = rw c.if-hit.false none
