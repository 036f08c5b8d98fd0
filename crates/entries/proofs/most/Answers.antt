-- `entries::most` meets its contract. Assumes nothing.
use Rattle.std.proofs.Common.{arith}
use Rattle.entries.proofs.most.Goals as goal

pub overflow_mul-result : goal.overflow_mul-result
overflow_mul-result c = omega arith
