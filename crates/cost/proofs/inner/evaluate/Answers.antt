-- `cost::inner::evaluate` meets its contract. Assumes nothing.
use Rattle.std.proofs.Common.{◌+◌, sym, ◌∙◌}
use Rattle.records.specs.Fields.{slope_of, intercept_of}
use Rattle.cost.proofs.Costs.{lowest, highest-none, highest-more}
use Rattle.cost.proofs.inner.evaluate.Goals as goal

pub loop-t-init : goal.loop-t-init
loop-t-init c = lowest ∙ sym (highest-none _ _ _)

pub loop-t-preserved : goal.loop-t-preserved
loop-t-preserved c =
    let a = c.args in
    let q = a.segments in
    let r = c.record-r.ensures in
    rw (c.max-best.ensures, c.line.ensures, c.slope.ensures, c.intercept.ensures, r.place, r.bytes, c.loop-t.invariant)
    (sym (highest-more (λ t. slope_of q.bytes.now (q.first + t)) (λ t. intercept_of q.bytes.now (q.first + t)) a.x c.loop-t.t))
