use Rattle.std.proofs.Common.{map, ◌++◌}
use Rattle.lists.specs.Entries.{turned}
use Rattle.dealing.proofs.Ahead.{plain, then}
use Rattle.numbering.specs.Network.{grid}
use Rattle.rows.specs.Program.{equalities, every_row, quadratic}
use Rattle.kkt.specs.Kkt.{plain_row}
use Rattle.entries.proofs.Rooms.{room-before, room_after, room-plain}
use Rattle.entries.proofs.whole.first_part.Goals as goal

pub put_quadratic-requires : goal.put_quadratic-requires
put_quadratic-requires c =
    let N = grid c.args.p.now.net in
    let turns = map turned (every_row N (plain_row N)) in
    let equal = equalities N (plain_row N) in
    record { room = room-plain _ _ (quadratic N) (room-before _ _ _ (quadratic N) turns (room-before _ _ _ (quadratic N ++ turns) equal c.requires)) }

pub turned_rows-requires : goal.turned_rows-requires
turned_rows-requires c =
    let N = grid c.args.p.now.net in
    let turns = map turned (every_row N (plain_row N)) in
    let equal = equalities N (plain_row N) in
    room_after turns (plain c.put_quadratic.ensures) (room-before _ _ _ (quadratic N ++ turns) equal c.requires)

pub equality_rows-requires : goal.equality_rows-requires
equality_rows-requires c =
    let N = grid c.args.p.now.net in
    room_after (equalities N (plain_row N)) (then (plain c.put_quadratic.ensures) c.turned_rows.ensures) c.requires

pub returns : goal.returns
returns c = then (then (plain c.put_quadratic.ensures) c.turned_rows.ensures) c.equality_rows.ensures
