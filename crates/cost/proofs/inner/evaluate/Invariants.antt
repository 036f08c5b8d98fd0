-- `cost::inner::evaluate` meets its contract. Assumes nothing.
use Rattle.std.proofs.Common.{◌+◌, ◌≡◌}
use Rattle.records.specs.Fields.{slope_of, intercept_of}
use Rattle.cost.specs.Cost.{highest}
use Rattle.cost.proofs.inner.evaluate.Given as goal

abbrev pub invariant-loop-t : goal.invariant-loop-t
invariant-loop-t i =
    let q = i.segments in
    i.best ≡ highest (λ t. slope_of q.bytes.now (q.first + t)) (λ t. intercept_of q.bytes.now (q.first + t)) i.t i.x
