-- `sides::inner::fill_ohms` meets its contract: a run of zeros for each block, which ends among all rows. Assumes nothing.
use Rattle.sides.specs.Sides.{zero_run}
use Rattle.cells.proofs.Runs.{one-run, ◌then_runs◌}
use Rattle.sides.proofs.inner.fill_ohms.Goals as goal

pub returns : goal.returns
unfolding zero_run
returns c =
    rw (← c.ohm_pf_row-pf.ensures, ← c.ohm_qf_row-qf.ensures, ← c.ohm_pt_row-pt.ensures, ← c.ohm_qt_row-qt.ensures)
    (one-run c.fill_all.ensures then_runs one-run c.fill_all-2.ensures then_runs one-run c.fill_all-3.ensures then_runs one-run c.fill_all-4.ensures)
