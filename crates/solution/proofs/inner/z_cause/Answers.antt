-- `solution::inner::z_cause` meets its contract. Assumes nothing.
use Rattle.solution.specs.Lengths.{z_cause}
use Rattle.numbering.proofs.Laid.{laid-ncon}
use Rattle.solution.proofs.inner.z_cause.Goals as goal

pub returns : goal.returns
unfolding z_cause
returns c = cc (laid-ncon _ _ c.args.net.now.laid)
