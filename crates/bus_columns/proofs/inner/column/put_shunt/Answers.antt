-- `bus_columns::inner::column::put_shunt` meets its contract: both balance rows are written at their numbers. Assumes nothing.
use Rattle.std.proofs.Common.{refl, ◌∙◌}
use Rattle.cells.proofs.Puts.{then}
use Rattle.numbering.specs.declared.RowName.TheVariants.{Pbal, Qbal}
use Rattle.numbering.proofs.Laid.{laid-row}
use Rattle.matrix.specs.Columns.{shunt_cells}
use Rattle.bus_columns.proofs.inner.column.put_shunt.Goals as goal

pub returns : goal.returns
unfolding shunt_cells
returns c =
    let i = c.args.i in
    let b = c.bus-r.ensures in
    let row = laid-row _ _ c.args.net.now.laid in
    let p = rw (c.pbal_row-p.ensures ∙ row (Pbal i) refl, rw (b.place, b.bytes) at c.gs.ensures) at c.put_nonzero.ensures.puts in
    let q = rw (c.qbal_row-q.ensures ∙ row (Qbal i) refl, rw (b.place, b.bytes) at c.bs.ensures) at c.put_nonzero-2.ensures.puts in
    then p q
