use Rattle.std.proofs.Common.{refl, ◌∙◌}
use Rattle.numbering.specs.declared.RowName.TheVariants.{Jabr}
use Rattle.numbering.proofs.Laid.{laid-row}
use Rattle.matrix.specs.Columns.{wr_cells}
use Rattle.cells.proofs.Puts.{then}
use Rattle.record_columns.specs.Writers.{wr_angles}
use Rattle.record_columns.proofs.Written.{wr_are}
use Rattle.record_columns.proofs.inner.branches.put_wr.Goals as goal

pub returns-clause-puts : goal.returns-clause-puts
unfolding wr_cells wr_angles
returns-clause-puts c =
    let net = c.args.net.now in
    let e = c.args.e in
    let r = c.branch-net.ensures in
    let p = wr_are net.layout net.bytes.now e c.wr_products.ensures (rw (r.place, r.bytes) at c.series-t.ensures) in
    let cone = c.jabr_row.ensures ∙ laid-row net.layout net.bytes.now net.laid (Jabr e 1) refl in
    then (then (rw p at c.put_products.ensures.puts) c.put_wr_angles.ensures.puts) (rw cone at c.put.ensures.puts)
