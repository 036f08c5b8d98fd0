use Rattle.std.proofs.Common.{refl, ◌∙◌}
use Rattle.numbering.specs.declared.RowName.TheVariants.{OhmPf, OhmQf, OhmPt, OhmQt}
use Rattle.numbering.proofs.Laid.{laid-row}
use Rattle.cells.proofs.Puts.{then}
use Rattle.record_columns.specs.Writers.{product_cells}
use Rattle.record_columns.proofs.inner.branches.put_products.Goals as goal

pub returns-clause-puts : goal.returns-clause-puts
unfolding product_cells
returns-clause-puts c =
    let net = c.args.net.now in
    let e = c.args.e in
    let row = laid-row net.layout net.bytes.now net.laid in
    let pf = rw (c.ohm_pf_row.ensures ∙ row (OhmPf e) refl) at c.put_nonzero.ensures.puts in
    let qf = rw (c.ohm_qf_row.ensures ∙ row (OhmQf e) refl) at c.put_nonzero-2.ensures.puts in
    let pt = rw (c.ohm_pt_row.ensures ∙ row (OhmPt e) refl) at c.put_nonzero-3.ensures.puts in
    let qt = rw (c.ohm_qt_row.ensures ∙ row (OhmQt e) refl) at c.put_nonzero-4.ensures.puts in
    then (then (then pf qf) pt) qt
