use Rattle.matrix.specs.Columns.{nonzero_cell}
use Rattle.cells.proofs.Cells.put_nonzero.Goals as goal

pub returns-clause-puts : goal.returns-clause-puts
unfolding nonzero_cell
returns-clause-puts c = c.put_if.ensures.puts
