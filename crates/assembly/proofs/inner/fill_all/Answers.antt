use Rattle.std.proofs.Common.{◌≡◌, ◌+◌, length, arith, append_assoc, ⊎_elim}
use Rattle.lists.specs.UpTo.{listed}
use Rattle.numbering.specs.Layout.{layout_column}
use Rattle.lists.proofs.Compressed.{joined-listed}
use Rattle.numbering.specs.Network.{grid}
use Rattle.numbering.specs.declared.ColumnName.TheVariants.{Pg, W, Wr}
use Rattle.numbering.proofs.Numbers.{layout-column, layout-nvar}
use Rattle.matrix.specs.Columns.{w_cells}
use Rattle.lists.proofs.Listed.{listed-length}
use Rattle.cells.proofs.Puts.{columns-then, columns-at, vals-length}
use Rattle.bus_columns.proofs.Counts.{own-most}
use Rattle.assembly.proofs.PartsOfA.{generators_length, branches-many, matrix-parts, matrix-count, ahead_covered}
use Rattle.assembly.proofs.Ahead.{puts_then}
use Rattle.assembly.proofs.inner.fill_all.Goals as goal

pub fill_buses-requires : goal.fill_buses-requires
fill_buses-requires c =
    let net = c.args.net.now in
    let l = net.layout in
    let b = net.bytes.now in
    let h = c.requires in
    let g = c.fill_generators.ensures in
    let long = vals-length g.columns in
    record {
      at_bound = (
        omega (arith, h.at_value, g.upper_bound, net.laid.range.k-range, net.laid.range.s-range),
        omega (arith, layout-column l (W l.n), layout-nvar l, h.l_in_bounds, c.store.auto.s, c.fill_generators.auto.starts),
      );
      m_in_bounds = ⊎_elim (λ r. omega (arith, h.at_value, r, own-most l b net.laid, g.upper_bound, long))
          (λ r. omega (arith, h.at_value, r, matrix-count l b net.laid, ahead_covered l b net.laid, columns-at g.columns, long)) h.roomy;
    }

pub returns : goal.returns
returns c =
    let net = c.args.net.now in
    let l = net.layout in
    let b = net.bytes.now in
    let w₀ = layout-column l (W 0) in
    let g = c.fill_generators.ensures in
    let w = c.fill_buses.ensures in
    let r = c.fill_branches.ensures in
    let here : layout_column l (Wr 0) ≡ layout_column l (W 0) + length (listed l.n (w_cells (grid net))) =
    omega (arith, listed-length (w_cells (grid net)) l.n, w₀, layout-column l (Wr 0)) in
    let behind = puts_then w.lent w.ahead here (branches-many l b) (rw (w.ahead.next, joined-listed) (omega (arith, ahead_covered l b net.laid))) r.columns in
    let all = columns-then (rw (layout-column l (Pg 0), c.store.ensures) at g.columns) (omega (arith, generators_length l b, w₀)) behind in
    record { columns = rw (matrix-parts l b net.laid, append_assoc) all; upper_bound = omega (arith, c.requires.at_value, g.upper_bound, w.upper_bound, r.upper_bound) }
