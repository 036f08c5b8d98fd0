use Rattle.sparse.specs.Checks.{bounded}
use Rattle.std.proofs.Common.{refl}
use Rattle.sparse.proofs.inner.bounded.Goals as goal

pub returns : goal.returns
unfolding bounded
returns c = refl
