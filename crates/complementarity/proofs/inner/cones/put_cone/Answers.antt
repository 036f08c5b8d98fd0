-- `complementarity::inner::cones::put_cone` meets its contract. Assumes nothing.
use Rattle.std.proofs.Common.{◌≡◌, arith}
use Rattle.lists.proofs.Puts.{no-turn, turn, room}
use Rattle.complementarity.specs.Writes.{cone_of}
use Rattle.complementarity.proofs.inner.cones.put_cone.Goals as goal

pub loop-j-init : goal.loop-j-init
loop-j-init c = no-turn _

pub cone_row-requires : goal.cone_row-requires
unfolding cone_of
cone_row-requires c = room _ _ _ c.loop-j.invariant c.loop-j-test.true c.requires

pub loop-j-preserved : goal.loop-j-preserved
loop-j-preserved c = turn _ _ c.loop-j.invariant c.cone_row.ensures

pub returns : goal.returns
unfolding cone_of
returns c = let e : c.loop-j.j ≡ c.args.k.d = omega arith in rw e at c.loop-j.invariant
