-- The point lies past the blocks passed, by the rest, and before where all blocks end.
use Rattle.std.proofs.Common.{arith}
use Rattle.numbering.proofs.Entered.{start_none, start-more}
use Rattle.numbering.proofs.inner.blocks.block_of.Goals as goal

pub loop-item-init : goal.loop-item-init
loop-item-init c = omega (arith, start_none c.args.sizes.now)

pub returns-then-rest-size-clause-in_block : goal.returns-then-rest-size-clause-in_block
returns-then-rest-size-clause-in_block c = record { inside = c.if-rest-size.true; number = c.loop-item.invariant }

pub loop-item-preserved : goal.loop-item-preserved
loop-item-preserved c = omega (arith, start-more c.args.sizes.now c.loop-item.item)
