-- `quadratic::inner::linear::fill_q` meets its contract: zeros, and over them the costs and the ones. Assumes nothing.
use Rattle.std.proofs.Common.{arith}
use Rattle.numbering.specs.declared.ColumnName.TheVariants.{CostOf}
use Rattle.numbering.proofs.Numbers.{layout-column, layout-nvar}
use Rattle.cells.proofs.Fills.{kept-length}
use Rattle.cells.proofs.Runs.{one-run, ◌then_runs◌}
use Rattle.quadratic.proofs.Linear.{linear_runs}
use Rattle.quadratic.proofs.inner.linear.fill_q.Goals as goal

pub fill_all-requires-2 : goal.fill_all-requires-2
fill_all-requires-2 c =
    let l = c.args.net.now.layout in
    omega (arith, c.requires, kept-length c.fill_all.ensures, kept-length c.fill_costs.ensures, layout-column l (CostOf 0), layout-nvar l)

pub returns : goal.returns
returns c =
    let l = c.args.net.now.layout in
    linear_runs l c.args.net.now.bytes.now c.args.net.now.laid _ c.requires (rw c.column_count-all.ensures at c.fill_all.ensures)
    (one-run c.fill_costs.ensures then_runs one-run (rw c.cost_column-cost.ensures at c.fill_all-2.ensures))
