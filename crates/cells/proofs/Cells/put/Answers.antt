use Rattle.std.proofs.Common.{refl}
use Rattle.lists.specs.Compressed.{write_cells}
use Rattle.matrix.specs.Columns.{one_cell}
use Rattle.cells.proofs.Cells.put.Goals as goal

pub returns-clause-puts : goal.returns-clause-puts
unfolding write_cells one_cell
returns-clause-puts c = record { lent = record { rows = refl; vals = refl }; wrote = record { is = cc } }
