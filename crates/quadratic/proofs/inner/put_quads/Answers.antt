use Rattle.std.proofs.Common.{◌+◌, ◌≡◌, arith}
use Rattle.numbering.specs.Layout.{layout_column}
use Rattle.numbering.specs.declared.ColumnName.TheVariants.{Pg}
use Rattle.numbering.proofs.Numbers.{layout-column, layout-nvar, numbers-few}
use Rattle.quadratic.specs.Quadratic.{quad_cells}
use Rattle.cells.proofs.Puts.{no-column, column}
use Rattle.quadratic.proofs.inner.put_quads.Goals as goal

pub loop-g-init : goal.loop-g-init
loop-g-init c = record { bound = omega arith; written = no-column _ }

pub overflow_cast-pg-in-loop-g : goal.overflow_cast-pg-in-loop-g
overflow_cast-pg-in-loop-g c =
    let net = c.args.net.now in
    omega (arith, numbers-few net.layout net.laid.range, layout-column net.layout (Pg 0), layout-nvar net.layout)

pub loop-g-preserved : goal.loop-g-preserved
unfolding quad_cells
loop-g-preserved c =
    let l = c.args.net.now.layout in
    let g = c.loop-g.g in
    let o = c.loop-g.invariant in
    let w = c.pg_column-pg in
    let r : w.result + g ≡ layout_column l (Pg g) = omega (arith, w.ensures, layout-column l (Pg 0), layout-column l (Pg g)) in
    let cell = rw (c.quad_value-v.ensures, r) at c.put_nonzero.ensures.puts in
    record { bound = omega (arith, o.bound, c.put_nonzero.ensures.upper_bound); written = column _ g o.written cell c.end_column.ensures }
