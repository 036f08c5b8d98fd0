use Rattle.lists.proofs.Puts.{no-turn, turn, room}
use Rattle.blocks.proofs.inner.ohm.ohm_rows.Goals as goal

pub loop-e-init : goal.loop-e-init
loop-e-init c = no-turn _

pub ohm_row-requires : goal.ohm_row-requires
ohm_row-requires c = record { e_lt_m = c.loop-e-test.true; room = room _ _ _ c.loop-e.invariant c.loop-e-test.true c.requires.room }

pub loop-e-preserved : goal.loop-e-preserved
loop-e-preserved c = turn _ _ c.loop-e.invariant c.ohm_row.ensures
