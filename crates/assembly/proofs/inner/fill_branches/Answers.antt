use Rattle.std.proofs.Common.{arith, length-append}
use Rattle.numbering.specs.Network.{grid}
use Rattle.numbering.specs.declared.ColumnName.TheVariants.{Wr, Pf, CostOf}
use Rattle.numbering.proofs.Numbers.{layout-column}
use Rattle.cells.proofs.Puts.{columns-then}
use Rattle.assembly.specs.Parts.{product_columns, flow_columns, branch_columns}
use Rattle.assembly.proofs.PartsOfA.{products-length, flows-length}
use Rattle.assembly.proofs.inner.fill_branches.Goals as goal

pub returns-clause-columns : goal.returns-clause-columns
unfolding branch_columns
returns-clause-columns c =
    let net = c.args.net.now in
    let l = net.layout in
    let G = grid net in
    let lp = products-length l net.bytes.now in
    let lf = flows-length l net.bytes.now in
    let both = length-append (product_columns G) (flow_columns G) in
    let wr = layout-column l (Wr 0) in
    let two = columns-then c.fill_products.ensures.columns (omega (arith, lp, wr, layout-column l (Pf 0))) c.fill_flows.ensures.columns in
    columns-then two (omega (arith, lp, lf, wr, layout-column l (CostOf 0), both)) c.put_costs.ensures.columns
