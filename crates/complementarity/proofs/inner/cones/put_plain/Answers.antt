-- `complementarity::inner::cones::put_plain` meets its contract. Assumes nothing.
use Rattle.std.proofs.Common.{◌≡◌, arith}
use Rattle.lists.proofs.Puts.{no-turn, turn, room}
use Rattle.complementarity.specs.Writes.{plain_at, plain_cone}
use Rattle.complementarity.proofs.inner.cones.put_plain.Goals as goal

pub loop-j-init : goal.loop-j-init
loop-j-init c = no-turn _

pub put_line-requires : goal.put_line-requires
unfolding plain_cone
put_line-requires c = rw (c.number.ensures, c.at.ensures) (room (plain_at c.args.k.nvar c.args.k.cone) _ _ c.loop-j.invariant c.loop-j-test.true c.requires)

pub loop-j-preserved : goal.loop-j-preserved
loop-j-preserved c = turn _ _ c.loop-j.invariant (rw (c.number.ensures, c.at.ensures) at c.put_line.ensures)

pub returns : goal.returns
unfolding plain_cone
returns c = let e : c.loop-j.j ≡ c.args.k.d = omega arith in rw e at c.loop-j.invariant
