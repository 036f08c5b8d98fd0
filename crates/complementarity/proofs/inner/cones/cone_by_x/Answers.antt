-- `complementarity::inner::cones::cone_by_x` meets its contract. Assumes nothing.
use Rattle.lists.proofs.Puts.{no-turn, turn, room}
use Rattle.complementarity.proofs.inner.cones.cone_by_x.Goals as goal

pub loop-l-init : goal.loop-l-init
loop-l-init c = no-turn _

pub put_by_x-requires : goal.put_by_x-requires
put_by_x-requires c = room _ _ _ c.loop-l.invariant c.loop-l-test.true c.requires

pub loop-l-preserved : goal.loop-l-preserved
loop-l-preserved c = turn _ _ c.loop-l.invariant c.put_by_x.ensures
