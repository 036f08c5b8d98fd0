-- `branch::inner::places::ohm_row` meets its contract: each arm is the number of its row. Assumes nothing.
use Rattle.std.proofs.Common.{refl, ◌∙◌}
use Rattle.numbering.specs.declared.RowName.TheVariants.{OhmPf, OhmQf, OhmPt, OhmQt}
use Rattle.numbering.proofs.Laid.{laid-row}
use Rattle.branch.proofs.inner.places.ohm_row.Goals as goal

pub returns-in-Pf : goal.returns-in-Pf
returns-in-Pf c = rw c.in-Pf.is (c.ohm_pf_row.ensures ∙ laid-row _ _ c.args.net.now.laid (OhmPf c.args.e) refl)

pub returns-in-Qf : goal.returns-in-Qf
returns-in-Qf c = rw c.in-Qf.is (c.ohm_qf_row.ensures ∙ laid-row _ _ c.args.net.now.laid (OhmQf c.args.e) refl)

pub returns-in-Pt : goal.returns-in-Pt
returns-in-Pt c = rw c.in-Pt.is (c.ohm_pt_row.ensures ∙ laid-row _ _ c.args.net.now.laid (OhmPt c.args.e) refl)

pub returns-in-Qt : goal.returns-in-Qt
returns-in-Qt c = rw c.in-Qt.is (c.ohm_qt_row.ensures ∙ laid-row _ _ c.args.net.now.laid (OhmQt c.args.e) refl)
