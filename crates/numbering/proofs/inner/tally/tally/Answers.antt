-- The sum so far is the tally of the records passed.
use Rattle.std.proofs.Common.{◌≡◌, sym, arith}
use Rattle.numbering.proofs.Tallies.{tally_none, tally_more}
use Rattle.numbering.proofs.inner.tally.tally.Goals as goal

pub loop-i-init : goal.loop-i-init
loop-i-init c = (omega arith, sym (tally_none c.args.t c.args.run.bytes.now c.args.run.first))

pub loop-i-preserved : goal.loop-i-preserved
loop-i-preserved c =
    let a = c.args in
    let here = rw (c.record.ensures.bytes, c.record.ensures.place) at c.points-sum.ensures.value in
    (omega (arith, c.points-sum.ensures.upper_bound), omega (arith, here, tally_more a.t a.run.bytes.now a.run.first c.loop-i.i))

pub returns : goal.returns
returns c =
    let e : c.loop-i.i ≡ c.args.run.count = omega arith in
    rw (← e) c.loop-i.invariant.1
