-- `branch::inner::places::flow_column` meets its contract: each arm is the number of its flow's column. Assumes nothing.
use Rattle.std.proofs.Common.{refl, ◌∙◌}
use Rattle.numbering.specs.declared.ColumnName.TheVariants.{Pf, Qf, Pt, Qt}
use Rattle.numbering.proofs.Laid.{laid-column}
use Rattle.branch.proofs.inner.places.flow_column.Goals as goal

pub returns-in-Pf : goal.returns-in-Pf
returns-in-Pf c = rw c.in-Pf.is (c.pf_column.ensures ∙ laid-column _ _ c.args.net.now.laid (Pf c.args.e) refl)

pub returns-in-Qf : goal.returns-in-Qf
returns-in-Qf c = rw c.in-Qf.is (c.qf_column.ensures ∙ laid-column _ _ c.args.net.now.laid (Qf c.args.e) refl)

pub returns-in-Pt : goal.returns-in-Pt
returns-in-Pt c = rw c.in-Pt.is (c.pt_column.ensures ∙ laid-column _ _ c.args.net.now.laid (Pt c.args.e) refl)

pub returns-in-Qt : goal.returns-in-Qt
returns-in-Qt c = rw c.in-Qt.is (c.qt_column.ensures ∙ laid-column _ _ c.args.net.now.laid (Qt c.args.e) refl)
