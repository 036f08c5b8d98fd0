-- `lines::inner::ohm::ohm_line` meets its contract: the three values are the row's coefficients, at the row's columns. Assumes nothing.
use Rattle.std.proofs.Common.{◌∙◌}
use Rattle.ring.specs.Ops.{rounded}
use Rattle.rows.specs.Branch.{branch_at}
use Rattle.numbering.specs.Network.{grid}
use Rattle.branch.proofs.Coefficients.{wr_of, wi_of}
use Rattle.lines.proofs.Ohms.{ohm-stands}
use Rattle.lines.proofs.inner.ohm.ohm_line.Goals as goal

pub returns : goal.returns
returns c =
    let B = branch_at rounded (grid c.args.net.now) c.args.e in
    let k = c.args.q in
    let r = c.branch-r.ensures in
    let t = rw (r.place, r.bytes) at c.series-t.ensures in
    let x = rw (r.place, r.bytes) at c.w_at.ensures in
    let y = c.wr_value.ensures ∙ wr_of B k t in
    let z = c.wi_value.ensures ∙ wi_of B k t in
    rw (c.w_column.ensures, c.wr_column.ensures, c.wi_column.ensures, c.end_bus.ensures.value, c.ohm_row.ensures, c.flow_column.ensures, x, y, z)
    (ohm-stands _ _ c.args.net.now.laid k _ c.requires)
