use Rattle.std.proofs.Common.{◌+◌, ◌*◌, ◌≡◌, sym, arith, length-take, length-drop}
use Rattle.lists.specs.UpTo.{each}
use Rattle.lists.proofs.Compressed.{joined-listed}
use Rattle.numbering.specs.Network.{grid}
use Rattle.numbering.specs.declared.ColumnName.TheVariants.{W}
use Rattle.numbering.proofs.Numbers.{layout-column}
use Rattle.matrix.specs.Columns.{w_cells}
use Rattle.lists.proofs.Listed.{listed-length}
use Rattle.bus_columns.specs.Gathered.{four_of}
use Rattle.bus_columns.proofs.Counts.{columns-most}
use Rattle.bus_columns.proofs.Gathered.{fours-length}
use Rattle.assembly.proofs.Ahead.{part_ahead}
use Rattle.assembly.proofs.inner.fill_buses.Goals as goal

pub slice_bounds-put_buses-start : goal.slice_bounds-put_buses-start
slice_bounds-put_buses-start c = let l = c.args.net.now.layout in omega (arith, c.w_column.ensures, c.w_column-2.ensures, layout-column l (W 0), layout-column l (W l.n))

pub slice_bounds-put_buses-count : goal.slice_bounds-put_buses-count
slice_bounds-put_buses-count c = let l = c.args.net.now.layout in omega (arith, c.w_column.ensures, c.w_column-2.ensures, layout-column l (W 0), layout-column l (W l.n))

pub put_buses-requires : goal.put_buses-requires
put_buses-requires c =
    let net = c.args.net.now in
    let l = net.layout in
    let h = c.requires in
    let n = c.count_buses.ensures.value in
    record {
      list_len = simp (length-take, length-drop) (omega (arith, h.at_bound.1, c.w_column.ensures, c.w_column-2.ensures, layout-column l (W 0), layout-column l (W l.n)));
      at_bound = omega (arith, h.at_bound.0);
      bytes_bound = omega (arith, columns-most l net.bytes.now net.laid, n);
      m_in_bounds = omega (arith, h.m_in_bounds, n);
    }

pub returns : goal.returns
returns c =
    let net = c.args.net.now in
    let l = net.layout in
    let h = c.requires.at_bound.1 in
    let G = grid net in
    let first = c.w_column.result in
    let w = c.w_column.ensures in
    let p = c.w_column-2.ensures in
    let o = c.put_buses in
    let e : c.w_column-2.result + 1 + 2 * l.m ≡ first + 1 + l.n + 2 * l.m = omega (arith, w, p, layout-column l (W 0), layout-column l (W l.n)) in
    let cells = rw (sym (joined-listed l.n (w_cells G))) at o.ensures.wrote_cells in
    let ahead =
    part_ahead {c = first} {n = l.n} {used = 2 * l.m} o.new.list (each l.m (four_of G)) (omega (arith, e, p, h)) (listed-length (w_cells G) l.n) cells (omega arith)
    (omega (arith, fours-length G l.m, c.count_buses.ensures.value)) o.ensures.list_after (omega (arith, o.auto.list, e)) in
    record { lent = o.ensures.lent; ahead = rw (← w, e) ahead; upper_bound = o.ensures.upper_bound }
