use Rattle.std.proofs.Common.{arith}
use Rattle.weighing.proofs.Buffers.{adds_none, adds-joined}
use Rattle.weighing.proofs.Gathered.{span_none, span-joined}
use Rattle.weighing.proofs.Buffer.gather.Goals as goal

pub loop-r-init : goal.loop-r-init
loop-r-init c = (omega arith, omega arith, omega arith, λ e. omega arith, rw (span_none c.args.rhs.now.values.now c.args.base c.args.first) (adds_none _ _))

pub loop-r-preserved : goal.loop-r-preserved
loop-r-preserved c =
    let a = c.args in
    let o = c.loop-r in (
      omega arith,
      omega arith,
      omega arith,
      λ e. omega arith,
      rw (span-joined a.rhs.now.values.now a.base a.first o.r c.min-past.result (omega arith) (omega arith))
          (adds-joined o.invariant.4 c.scan.ensures.1 (omega arith) (omega arith)),
    )
