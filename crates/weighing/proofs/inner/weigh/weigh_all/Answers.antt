use Rattle.std.proofs.Common.{◌+◌, ◌*◌, ◌-◌, ◌≡◌, refl, arith}
use Rattle.weighing.proofs.Rows.{spread_fewer, spread-from, passed-alone, more-columns, weighed-from}
use Rattle.weighing.proofs.inner.weigh.weigh_all.Goals as goal

pub pass_two-requires-clause-spread : goal.pass_two-requires-clause-spread
pass_two-requires-clause-spread c = rw c.loop-pair.invariant.long (spread-from c.requires.spread (2 * c.loop-pair.pair) 2 (omega arith))

pub loop-pair-preserved : goal.loop-pair-preserved
loop-pair-preserved c =
    let a = c.args in
    let d = 2 * c.loop-pair.pair in
    let e : 2 * (c.loop-pair.pair + 1) ≡ d + 2 = omega arith in
    rw e
    (more-columns a.grid.now.at a.grid.now.dense a.grid.now.across d (spread_fewer c.requires.spread (d + 2) (omega arith))
    (weighed-from _ _ _ d _ _ _ refl) c.loop-pair.invariant c.pass_two.ensures)

pub returns-then-x-eq1 : goal.returns-then-x-eq1
returns-then-x-eq1 c =
    let a = c.args in
    let d = 2 * c.loop-pair.pair in
    let e : d + 1 ≡ a.x.now.columns = omega arith in
    let last : a.x.now.columns - 1 ≡ d = omega arith in
    rw e at
    (more-columns a.grid.now.at a.grid.now.dense a.grid.now.across d (spread_fewer c.requires.spread (d + 1) (omega arith))
    (weighed-from _ _ _ d _ _ _ refl) c.loop-pair.invariant (passed-alone _ a.grid.now.dense _ _ (rw last at c.pass_one.ensures)))
