use Rattle.std.proofs.Common.{refl}
use Rattle.lists.specs.Out.{write}
use Rattle.lists.proofs.Triplets.put.Goals as goal

pub returns : goal.returns
unfolding write
returns c = record { rows = refl; cols = refl; vals = refl; wrote = record { is = cc } }
