use Rattle.std.proofs.Common.{◌+◌, refl, arith}
use Rattle.weighing.proofs.Gathered.{kept, passed-by, added-joined, span_none, span-joined, span-one}
use Rattle.weighing.proofs.Buffer.scan.Goals as goal
use Rattle.weighing.proofs.Buffer.scan.Goals.{then-v, else-v}

pub loop-r-init : goal.loop-r-init
loop-r-init c = (omega arith, refl, refl, rw (span_none c.args.rhs.now c.args.base c.args.first) (passed-by _ _ _ _))

pub loop-r-preserved : goal.loop-r-preserved
loop-r-preserved c =
    let a = c.args in
    let o = c.loop-r in
    let i = o.invariant in
    rw (span-joined a.rhs.now a.base a.first o.r (o.r + 1) (omega arith) (omega arith), span-one a.rhs.now a.base o.r)
    (elim c.if-v.branch [
      | then-v w ↦ rw (w.self-is, w.n-is) (omega arith, i.1, i.2, added-joined {b = o.r + 1} i.3 (rw w.if-v.true (kept _ _ _ _ _ (omega arith) (omega arith))) (omega arith) (omega arith))
      | else-v w ↦ rw (w.self-is, w.n-is) (omega arith, i.1, i.2, added-joined {b = o.r + 1} i.3 (rw w.if-v.false (passed-by _ _ _ _)) (omega arith) (omega arith))
    ])
