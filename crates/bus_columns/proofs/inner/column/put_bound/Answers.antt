-- `bus_columns::inner::column::put_bound` meets its contract: where the bound is active, both rows are written at their numbers. Assumes nothing.
use Rattle.std.proofs.Common.{refl, sym, ◌∙◌}
use Rattle.cells.proofs.Puts.{then, none}
use Rattle.numbering.specs.declared.RowName.TheVariants.{Wub, Wlb}
use Rattle.numbering.proofs.Laid.{laid-row}
use Rattle.matrix.specs.Columns.{bound_cells}
use Rattle.bus_columns.proofs.inner.column.put_bound.Goals as goal

pub returns-then-voltage_bound_active : goal.returns-then-voltage_bound_active
unfolding bound_cells
returns-then-voltage_bound_active c =
    let i = c.args.i in
    let b = c.bus.ensures in
    let row = laid-row _ _ c.args.net.now.laid in
    let upper = rw (c.wub_row-upper.ensures ∙ row (Wub i) refl) at c.put.ensures.puts in
    let lower = rw (c.wlb_row-lower.ensures ∙ row (Wlb i) refl) at c.put-then-voltage_bound_active.ensures.puts in
    let at = rw (b.place, b.bytes) at c.voltage_bound_active.ensures in
    rw (sym at ∙ c.if-voltage_bound_active.true) (then upper lower)

pub returns-else-voltage_bound_active : goal.returns-else-voltage_bound_active
unfolding bound_cells
returns-else-voltage_bound_active c =
    let b = c.bus.ensures in
    let at = rw (b.place, b.bytes) at c.voltage_bound_active.ensures in
    rw (sym at ∙ c.if-voltage_bound_active.false) none
