-- What put_bounds says, at the branch's flag and the numbers of its angle rows.
use Rattle.std.proofs.Common.{refl, ◌∙◌}
use Rattle.numbering.specs.declared.RowName.TheVariants.{Angub, Anglb}
use Rattle.numbering.proofs.Laid.{laid-row}
use Rattle.record_columns.specs.Writers.{pair, wi_angles}
use Rattle.record_columns.proofs.inner.branches.put_wi_angles.Goals as goal

pub returns-clause-puts : goal.returns-clause-puts
unfolding pair wi_angles
returns-clause-puts c =
    let net = c.args.net.now in
    let e = c.args.e in
    let row = laid-row net.layout net.bytes.now net.laid in
    let r = c.branch-net.ensures in
    let on = rw (r.place, r.bytes) at c.conic_angle_bound_active-on.ensures in
    rw (on, c.angub_row.ensures ∙ row (Angub e) refl, c.anglb_row.ensures ∙ row (Anglb e) refl) at c.put_bounds.ensures.puts
