-- `bus_columns::inner::gathering::put_four` meets its contract: the four stores are the four coefficients, one after the other. Assumes nothing.
use Rattle.std.proofs.Common.{suc, ◌+◌, ◌≡◌, arith}
use Rattle.bus_columns.specs.Gathered.{four_of}
use Rattle.bus_columns.proofs.inner.gathering.put_four.Goals as goal

pub returns : goal.returns
unfolding four_of
returns c =
    let a = c.args.at in
    let b = c.branch-r.ensures in
    let e1 : a + 1 ≡ suc a = omega arith in
    let e2 : a + 2 ≡ suc (suc a) = omega arith in
    let e3 : a + 3 ≡ suc (suc (suc a)) = omega arith in
    let pf = rw (b.place, b.bytes) at c.w_at-pf.ensures in
    let qf = rw (b.place, b.bytes) at c.w_at-qf.ensures in
    let pt = rw (b.place, b.bytes) at c.w_at-pt.ensures in
    let qt = rw (b.place, b.bytes) at c.w_at-qt.ensures in
    record { is = cc (pf, qf, pt, qt) }
