-- The point lies past the records passed, by the rest, and before where the last has its own.
use Rattle.std.proofs.Common.{arith}
use Rattle.numbering.proofs.Tallies.{tally_none, tally_more}
use Rattle.numbering.proofs.inner.tally.locate.Goals as goal

pub loop-i-init : goal.loop-i-init
loop-i-init c =
    let a = c.args in
    omega (arith, tally_none a.t a.run.bytes.now a.run.first)

pub returns-then-rest-here : goal.returns-then-rest-here
returns-then-rest-here c =
    let here = rw (c.record.ensures.bytes, c.record.ensures.place) at c.points-here.ensures.value in
    record { below = omega arith; inside = omega (arith, here); number = c.loop-i.invariant }

pub loop-i-preserved : goal.loop-i-preserved
loop-i-preserved c =
    let a = c.args in
    let here = rw (c.record.ensures.bytes, c.record.ensures.place) at c.points-here.ensures.value in
    omega (arith, here, tally_more a.t a.run.bytes.now a.run.first c.loop-i.i)
