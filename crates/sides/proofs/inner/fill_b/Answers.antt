-- `sides::inner::fill_b` meets its contract: it writes every block's run, and these are b. Assumes nothing.
use Rattle.sides.specs.Sides.{zero_run, segment_run}
use Rattle.cells.proofs.Runs.{one-run, ◌then_runs◌}
use Rattle.sides.proofs.RightSide.{right_runs}
use Rattle.sides.proofs.inner.fill_b.Goals as goal

pub returns : goal.returns
unfolding zero_run segment_run
returns c =
    let l = c.args.net.now.layout in
    let q = c.segments.ensures in
    right_runs l c.args.net.now.bytes.now c.args.net.now.laid _ c.requires
    (c.fill_buses.ensures then_runs c.fill_ohms.ensures then_runs c.fill_capabilities.ensures
    then_runs one-run (rw (c.segment_row-cost.ensures, q.first, q.count, q.bytes) at c.fill_intercepts.ensures) then_runs one-run (rw c.jabr_row-jabr.ensures at c.fill_all.ensures)
    then_runs c.fill_branches.ensures)
