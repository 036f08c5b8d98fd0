-- The columns and the rows of the network.
use Rattle.numbering.proofs.Laid.{laid-nvar, laid-ncon}
use Rattle.columns.proofs.inner.column.dim.Goals as goal

pub returns : goal.returns
returns c = let h = c.args.net.now.laid in cc (laid-nvar _ _ h, laid-ncon _ _ h)
