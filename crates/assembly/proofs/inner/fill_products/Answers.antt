use Rattle.std.proofs.Common.{arith}
use Rattle.numbering.specs.Network.{grid}
use Rattle.numbering.specs.declared.ColumnName.TheVariants.{Wr, Wi}
use Rattle.numbering.proofs.Numbers.{layout-column}
use Rattle.matrix.specs.Columns.{wr_cells}
use Rattle.lists.proofs.Listed.{listed-length}
use Rattle.cells.proofs.Puts.{columns-then}
use Rattle.assembly.specs.Parts.{product_columns}
use Rattle.assembly.proofs.inner.fill_products.Goals as goal

pub returns-clause-columns : goal.returns-clause-columns
unfolding product_columns
returns-clause-columns c =
    let net = c.args.net.now in
    let l = net.layout in
    columns-then c.put_wrs.ensures.columns (omega (arith, listed-length (wr_cells (grid net)) l.m, layout-column l (Wr 0), layout-column l (Wi 0))) c.put_wis.ensures.columns
