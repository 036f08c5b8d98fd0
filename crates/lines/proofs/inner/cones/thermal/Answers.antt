-- `lines::inner::cones::thermal` meets its contract. So many limited branches are before it as the layout's row asks for. Assumes nothing.
use Rattle.std.proofs.Common.{arith}
use Rattle.lines.proofs.Lines.{limits_in, from-stands, to-stands}
use Rattle.lines.proofs.inner.cones.thermal.Goals as goal

pub thermal_cone-requires : goal.thermal_cone-requires
thermal_cone-requires c =
    let laid = c.args.net.now.laid in
    (limits_in _ _ laid _ _ c.requires.0 c.requires.2, omega arith)

pub thermal_cone-requires-in-To : goal.thermal_cone-requires-in-To
thermal_cone-requires-in-To c =
    let laid = c.args.net.now.laid in
    (limits_in _ _ laid _ _ c.requires.0 c.requires.2, omega arith)

pub returns-in-From : goal.returns-in-From
returns-in-From c =
    let q = c.requires in
    rw (c.in-From.is, c.thermal_cone.ensures, c.rating-rate.ensures.value, c.pf_column.ensures, c.qf_column.ensures)
    (from-stands _ _ c.args.net.now.laid _ _ q.0 q.1 q.2)

pub returns-in-To : goal.returns-in-To
returns-in-To c =
    let q = c.requires in
    rw (c.in-To.is, c.thermal_cone-in-To.ensures, c.rating-rate.ensures.value_2, c.pt_column.ensures, c.qt_column.ensures)
    (to-stands _ _ c.args.net.now.laid _ _ q.0 q.1 q.2)
