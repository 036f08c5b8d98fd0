-- `sides::inner::fill_intercepts` meets its contract. Assumes nothing.
use Rattle.std.specs.Float.Ieee.{neg}
use Rattle.std.proofs.Common.{◌+◌}
use Rattle.lists.specs.UpTo.{listed}
use Rattle.records.specs.Fields.{intercept_of}
use Rattle.cells.specs.Filled.{Filled}
use Rattle.sides.proofs.inner.fill_intercepts.Given as goal

abbrev pub invariant-loop-i : goal.invariant-loop-i
invariant-loop-i i =
    let q = i.segments in
    Filled (listed i.i (λ r. neg (intercept_of q.bytes.now (q.first + r)))) i.initial.out i.at i.out
