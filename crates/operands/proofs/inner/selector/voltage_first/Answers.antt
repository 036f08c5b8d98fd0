-- The column that the layout names is the network's.
use Rattle.std.proofs.Common.{◌∙◌, refl}
use Rattle.numbering.specs.declared.ColumnName.TheVariants.{W, Wr, Wi}
use Rattle.numbering.proofs.Laid.{laid-column}
use Rattle.operands.proofs.inner.selector.voltage_first.Goals as goal

pub returns-in-Squared : goal.returns-in-Squared
returns-in-Squared c = rw c.in-Squared.is (c.w_column.ensures ∙ laid-column _ _ c.args.net.now.laid (W 0) refl)

pub returns-in-ProductReal : goal.returns-in-ProductReal
returns-in-ProductReal c = rw c.in-ProductReal.is (c.wr_column.ensures ∙ laid-column _ _ c.args.net.now.laid (Wr 0) refl)

pub returns-in-ProductImag : goal.returns-in-ProductImag
returns-in-ProductImag c = rw c.in-ProductImag.is (c.wi_column.ensures ∙ laid-column _ _ c.args.net.now.laid (Wi 0) refl)
