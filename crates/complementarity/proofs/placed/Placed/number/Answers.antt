-- `complementarity::placed::Placed::number` meets its contract. Assumes nothing.
use Rattle.std.proofs.Common.{arith}
use Rattle.complementarity.proofs.placed.Placed.number.Goals as goal

pub overflow_add-result : goal.overflow_add-result
overflow_add-result c = let h = c.args.self.held.held c.args.l in rw c.at.ensures (omega (arith, h))
