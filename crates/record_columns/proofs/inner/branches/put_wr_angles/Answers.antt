use Rattle.std.proofs.Common.{refl, sym, ◌∙◌}
use Rattle.numbering.specs.declared.RowName.TheVariants.{Angub, Anglb}
use Rattle.numbering.proofs.Laid.{laid-row}
use Rattle.cells.proofs.Puts.{none, then}
use Rattle.record_columns.specs.Writers.{wr_angles}
use Rattle.record_columns.proofs.inner.branches.put_wr_angles.Goals as goal

pub returns-then-conic_angle_bound_active-clause-puts : goal.returns-then-conic_angle_bound_active-clause-puts
unfolding wr_angles
returns-then-conic_angle_bound_active-clause-puts c =
    let net = c.args.net.now in
    let e = c.args.e in
    let row = laid-row net.layout net.bytes.now net.laid in
    let r = c.branch-r.ensures in
    let upper = rw (c.angub_row.ensures ∙ row (Angub e) refl, c.tan_angmax.ensures, r.place, r.bytes) at c.put_nonzero.ensures.puts in
    let lower = rw (c.anglb_row.ensures ∙ row (Anglb e) refl, c.tan_angmin.ensures, r.place, r.bytes) at c.put_nonzero-then-conic_angle_bound_active.ensures.puts in
    let active = rw (r.place, r.bytes) at c.conic_angle_bound_active.ensures in
    rw (sym active ∙ c.if-conic_angle_bound_active.true) (then upper lower)

pub returns-else-conic_angle_bound_active-clause-puts : goal.returns-else-conic_angle_bound_active-clause-puts
unfolding wr_angles
returns-else-conic_angle_bound_active-clause-puts c =
    let r = c.branch-r.ensures in
    rw (sym (rw (r.place, r.bytes) at c.conic_angle_bound_active.ensures) ∙ c.if-conic_angle_bound_active.false) none
