-- `reading::inner::fill::negate_both` meets its contract: the two halves are those of `both_halves`. Assumes nothing.
use Rattle.std.proofs.Common.{arith}
use Rattle.reading.proofs.Halves.{both_halves}
use Rattle.reading.proofs.inner.fill.negate_both.Goals as goal

pub returns : goal.returns
returns c =
    let a = c.args in
    both_halves a.n a.active a.reactive a.z.now a.prices.now (omega arith) (omega arith) (omega arith) _ _ c.negate.ensures c.negate-2.ensures
