-- The stores so far are those of the rows passed.
use Rattle.std.proofs.Common.{◌+◌, ◌≡◌, [], ◌∷◌, ap, ◌∙◌, length, get_or, arith}
use Rattle.std.specs.Float.{nan}
use Rattle.admittance.specs.Stores.{put, stored_all}
use Rattle.admittance.proofs.Stored.{count_none, count-more, stored-length}
use Rattle.columns.proofs.inner.limit.six.Goals as goal

pub loop-q-init : goal.loop-q-init
loop-q-init c =
    let a = c.args in
    count_none (λ j. put (a.nvar + (a.base + j)) (get_or a.z.now (a.base + j) nan) ∷ []) a.column.now

pub loop-q-preserved : goal.loop-q-preserved
unfolding stored_all
loop-q-preserved c =
    let p = c.loop-q in
    let a = c.args in
    count-more (λ j. put (a.nvar + (a.base + j)) (get_or a.z.now (a.base + j) nan) ∷ []) p.q a.column.now p.invariant
    (rw (← c.value.ensures) c.store.ensures)

pub shape_of-column : goal.shape_of-column
shape_of-column c = ap length c.loop-q.invariant ∙ stored-length _ _

pub returns : goal.returns
returns c =
    let e : c.loop-q.q ≡ 6 = omega arith in
    rw e at c.loop-q.invariant
