use Rattle.std.proofs.Common.{List, [], arith, length-append}
use Rattle.lists.specs.UpTo.{listed}
use Rattle.lists.specs.Entries.{Cell}
use Rattle.numbering.specs.Layout.{layout_column}
use Rattle.numbering.specs.declared.ColumnName.TheVariants.{Pg}
use Rattle.numbering.proofs.Numbers.{layout-column, layout-nvar, numbers-few}
use Rattle.lists.proofs.Listed.{listed-length}
use Rattle.cells.proofs.Puts.{columns-then}
use Rattle.quadratic.specs.Quadratic.{quad_cells}
use Rattle.quadratic.proofs.Quad.{quad_parts}
use Rattle.quadratic.proofs.inner.put_all.Goals as goal

-- a column without cells
abbrev empty_column : List Cell
empty_column = []

pub overflow_sub-others : goal.overflow_sub-others
overflow_sub-others c = let l = c.args.net.now.layout in omega (arith, layout-column l (Pg l.k), layout-nvar l)

pub put_empty-requires : goal.put_empty-requires
put_empty-requires c =
    let net = c.args.net.now in
    let l = net.layout in
    (omega (arith, numbers-few l net.laid.range, layout-column l (Pg 0), layout-nvar l), omega (arith, c.requires))

pub put_empty-requires-2 : goal.put_empty-requires-2
put_empty-requires-2 c =
    let net = c.args.net.now in
    let l = net.layout in
    (omega (arith, numbers-few l net.laid.range, c.column_count.ensures, c.pg_column-behind.ensures, layout-column l (Pg l.k), layout-nvar l), omega arith)

pub returns : goal.returns
returns c =
    let net = c.args.net.now in
    let l = net.layout in
    let before = listed-length (λ c. empty_column) (layout_column l (Pg 0)) in
    let quad = listed-length (quad_cells l net.bytes.now) l.k in
    let both = length-append (listed (layout_column l (Pg 0)) (λ c. empty_column)) (listed l.k (quad_cells l net.bytes.now)) in
    let empty = rw (c.pg_column-pg.ensures, c.store.ensures) at c.put_empty.ensures in
    let others = rw (c.column_count.ensures, c.pg_column-behind.ensures) at c.put_empty-2.ensures in
    rw (quad_parts l net.bytes.now net.laid)
    (columns-then (columns-then empty (omega arith) c.put_quads.ensures.columns)
    (omega (arith, layout-column l (Pg 0), layout-column l (Pg l.k))) others)
