use Rattle.std.proofs.Common.{◌≡◌, arith}
use Rattle.lists.proofs.Puts.{no-turn, turn, room}
use Rattle.blocks.proofs.inner.bounded.bound_rows.Goals as goal

pub loop-i-init : goal.loop-i-init
loop-i-init c = no-turn _

pub bound_row-requires : goal.bound_row-requires
bound_row-requires c =
    let t = rw c.count_of-n.ensures at c.loop-i-test.true in
    record { i_bound = t; room = room _ _ _ c.loop-i.invariant t c.requires.room }

pub loop-i-preserved : goal.loop-i-preserved
loop-i-preserved c = turn _ _ c.loop-i.invariant c.bound_row.ensures

pub returns : goal.returns
returns c = let e : c.loop-i.i ≡ c.count_of-n.result = omega arith in rw (← c.count_of-n.ensures) (rw e at c.loop-i.invariant)
