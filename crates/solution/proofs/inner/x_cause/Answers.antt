-- `solution::inner::x_cause` meets its contract. Assumes nothing.
use Rattle.solution.specs.Lengths.{x_cause}
use Rattle.numbering.proofs.Laid.{laid-nvar}
use Rattle.solution.proofs.inner.x_cause.Goals as goal

pub returns : goal.returns
unfolding x_cause
returns c = cc (laid-nvar _ _ c.args.net.now.laid)
