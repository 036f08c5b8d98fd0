-- `residual::residuals::subtract_column` meets its contract. Assumes nothing.
use Rattle.std.proofs.Common.{◌≡◌, refl, arith, length, get_or, length-set}
use Rattle.std.specs.Float.{nan}
use Rattle.lists.specs.Entries.{entry}
use Rattle.lists.proofs.Steps.{over_none, over-next}
use Rattle.sparse.specs.Sparse.{entries}
use Rattle.sparse.proofs.Fits.{entered}
use Rattle.residual.specs.Residual.{subtract_at, subtract_column}
use Rattle.residual.proofs.ByColumns.{spots}
use Rattle.residual.proofs.residuals.subtract_column.Goals as goal

pub loop-j-init : goal.loop-j-init
loop-j-init c = (omega arith, refl, refl, refl, over_none _ _ _)

pub bounds-cols-j : goal.bounds-cols-j
bounds-cols-j c = let f = entered _ _ _ _ c.requires.0 in omega (arith, f.same-cols, f.same-values)

pub bounds-out-at : goal.bounds-out-at
bounds-out-at c =
    let p = c.requires in
    let o = c.loop-j in
    let q = spots (entered _ _ _ _ p.0) _ _ o.j p.1 (omega arith) in
    omega (arith, q.0, q.1, o.invariant.2, o.invariant.3, p.2)

pub bounds-values-j : goal.bounds-values-j
bounds-values-j c = let f = entered _ _ _ _ c.requires.0 in omega (arith, f.same-cols, f.same-values)

pub bounds-answer-from : goal.bounds-answer-from
bounds-answer-from c =
    let p = c.requires in
    let o = c.loop-j in
    let q = spots (entered _ _ _ _ p.0) _ _ o.j p.1 (omega arith) in
    omega (arith, q.0, q.1, o.invariant.2, c.args.answer.now.full)

pub bounds-out-at-in-loop-j : goal.bounds-out-at-in-loop-j
bounds-out-at-in-loop-j c =
    let p = c.requires in
    let o = c.loop-j in
    let q = spots (entered _ _ _ _ p.0) _ _ o.j p.1 (omega arith) in
    omega (arith, q.0, q.1, o.invariant.2, o.invariant.3, p.2)

pub loop-j-preserved : goal.loop-j-preserved
unfolding subtract_at
loop-j-preserved c =
    let x = c.args.answer.now in
    let e = c.args.entries.now in
    let o = c.loop-j.invariant in (
      omega arith,
      o.1,
      o.2,
      simp length-set (omega arith),
      over-next (λ e. subtract_at x.dim x.values.now e c.args.c) (λ k. entry (get_or e.rows.now k 0) (get_or e.cols.now k 0) (get_or e.values.now k nan)) _ _ _ _ o.4
          (rw (o.2)),
    )

pub returns : goal.returns
unfolding subtract_column entries
returns c =
    let e : c.loop-j.j ≡ length c.args.entries.now.rows.now = omega arith in
    rw e at c.loop-j.invariant.4
