-- `bus_columns::inner::column::put_cones` meets its contract. Assumes nothing.
use Rattle.std.proofs.Common.{arith, get_or, length}
use Rattle.cells.proofs.Puts.{no-turn, turn, room}
use Rattle.numbering.specs.Network.{grid}
use Rattle.bus_columns.specs.Ends.{cone_end}
use Rattle.bus_columns.proofs.inner.column.put_cones.Goals as goal

pub loop-x-init : goal.loop-x-init
loop-x-init c = no-turn _

pub put_cone-requires : goal.put_cone-requires
put_cone-requires c =
    let a = c.args in
    record { room = room (λ t. cone_end (grid a.net.now) (get_or a.ends.now t 0)) c.loop-x.x-index (length a.ends.now) c.loop-x.invariant (omega arith) c.requires.room }

pub loop-x-preserved : goal.loop-x-preserved
loop-x-preserved c = turn _ _ c.loop-x.invariant c.put_cone.ensures
