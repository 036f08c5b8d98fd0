use Rattle.std.proofs.Common.{◌∙◌, ◌++◌, arith, length-append}
use Rattle.lists.specs.UpTo.{listed}
use Rattle.numbering.specs.Network.{grid}
use Rattle.numbering.specs.declared.ColumnName.TheVariants.{Pf, Pt, Qf, Qt}
use Rattle.numbering.proofs.Numbers.{layout-column}
use Rattle.rows.specs.declared.OhmRow.TheVariants.{Pf as pf, Qf as qf, Pt as pt, Qt as qt}
use Rattle.matrix.specs.Columns.{flow_cells}
use Rattle.lists.proofs.Listed.{listed-length}
use Rattle.cells.proofs.Puts.{columns-then}
use Rattle.assembly.specs.Parts.{flow_columns}
use Rattle.assembly.proofs.PartsOfA.{few-flows}
use Rattle.assembly.proofs.inner.fill_flows.Goals as goal

pub put_flows-requires : goal.put_flows-requires
put_flows-requires c =
    let net = c.args.net.now in
    (omega (arith, c.requires), omega (arith, c.pf_column.ensures, few-flows net.laid.range pf))

pub put_flows-requires-2 : goal.put_flows-requires-2
put_flows-requires-2 c =
    let net = c.args.net.now in
    (omega (arith, c.requires, net.laid.range.m-range, c.put_flows.ensures.upper_bound), omega (arith, c.pt_column.ensures, few-flows net.laid.range pt))

pub put_flows-requires-3 : goal.put_flows-requires-3
put_flows-requires-3 c =
    let net = c.args.net.now in
    (omega (arith, c.requires, net.laid.range.m-range, c.put_flows.ensures.upper_bound, c.put_flows-2.ensures.upper_bound), omega (arith, c.qf_column.ensures, few-flows net.laid.range qf))

pub put_flows-requires-4 : goal.put_flows-requires-4
put_flows-requires-4 c =
    let net = c.args.net.now in
    let third = c.put_flows-3.ensures.upper_bound in
    let few = few-flows net.laid.range qt in
    (omega (arith, c.requires, net.laid.range.m-range, c.put_flows.ensures.upper_bound, c.put_flows-2.ensures.upper_bound, third), omega (arith, c.qt_column.ensures, few))

pub returns-clause-columns : goal.returns-clause-columns
unfolding flow_columns
returns-clause-columns c =
    let l = c.args.net.now.layout in
    let f = flow_cells (grid c.args.net.now) in
    let l1 = listed-length (f pf) l.m in
    let l2 = listed-length (f pt) l.m in
    let l3 = listed-length (f qf) l.m in
    let p1 = length-append (listed l.m (f pf)) (listed l.m (f pt)) in
    let p2 = length-append (listed l.m (f pf) ++ listed l.m (f pt)) (listed l.m (f qf)) in
    let d1 = layout-column l (Pf 0) in
    let d2 = c.pt_column.ensures ∙ layout-column l (Pt 0) in
    let d3 = c.qf_column.ensures ∙ layout-column l (Qf 0) in
    let d4 = c.qt_column.ensures ∙ layout-column l (Qt 0) in
    let two = columns-then (rw c.pf_column.ensures at c.put_flows.ensures.columns) (omega (arith, l1, d1, d2)) c.put_flows-2.ensures.columns in
    let three = columns-then two (omega (arith, l1, l2, p1, d1, d3)) c.put_flows-3.ensures.columns in
    columns-then three (omega (arith, l1, l2, l3, p1, p2, d1, d4)) c.put_flows-4.ensures.columns
