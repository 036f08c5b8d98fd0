use Rattle.std.proofs.Common.{arith}
use Rattle.numbering.specs.Network.{grid}
use Rattle.numbering.specs.declared.ColumnName.TheVariants.{Pg, Qg}
use Rattle.numbering.proofs.Numbers.{layout-column}
use Rattle.matrix.specs.Columns.{pg_cells}
use Rattle.lists.proofs.Listed.{listed-length}
use Rattle.cells.proofs.Puts.{columns-then}
use Rattle.assembly.specs.Parts.{generator_columns}
use Rattle.assembly.proofs.inner.fill_generators.Goals as goal

pub returns-clause-columns : goal.returns-clause-columns
unfolding generator_columns
returns-clause-columns c =
    let net = c.args.net.now in
    let l = net.layout in
    columns-then c.put_pgs.ensures.columns (omega (arith, listed-length (pg_cells (grid net)) l.k, layout-column l (Pg 0), layout-column l (Qg 0))) c.put_qgs.ensures.columns
