-- Each turn writes the rows of one kind behind those of the kinds before it.
use Rattle.std.proofs.Common.{◌≡◌, length, arith}
use Rattle.lists.proofs.Puts.{no-turn, turn, room}
use Rattle.blocks.proofs.inner.bounded.kinds_rows.Goals as goal

pub loop-kind-init : goal.loop-kind-init
loop-kind-init c = no-turn _

pub bound_rows-requires : goal.bound_rows-requires
bound_rows-requires c = record { room = room _ _ _ c.loop-kind.invariant c.loop-kind-test.true c.requires }

pub loop-kind-preserved : goal.loop-kind-preserved
loop-kind-preserved c = turn _ _ c.loop-kind.invariant c.bound_rows.ensures

pub returns : goal.returns
returns c = let e : c.loop-kind.kind-index ≡ length c.args.kinds.now = omega arith in rw e at c.loop-kind.invariant
