use Rattle.std.proofs.Common.{◌++◌, false}
use Rattle.dealing.proofs.Ahead.{plain, then}
use Rattle.numbering.specs.Network.{grid}
use Rattle.kkt.specs.Kkt.{plain_row}
use Rattle.rows.specs.Program.{equalities, inequalities, second_order}
use Rattle.complementarity.specs.Writes.{row_entries, cone_in}
use Rattle.entries.proofs.Rooms.{room-before, room_after, room-plain}
use Rattle.entries.proofs.whole.program_rows.Goals as goal

pub equality_rows-requires : goal.equality_rows-requires
unfolding row_entries cone_in
equality_rows-requires c =
    let N = grid c.args.p.now.net in
    let ineq = inequalities N (row_entries N c.args.p.now.x.now c.args.p.now.z.now false) in
    let cones = second_order N (cone_in N c.args.p.now.x.now c.args.p.now.z.now false) in
    let equal = equalities N (plain_row N) in
    room-before _ _ _ equal ineq (room-before _ _ _ (equal ++ ineq) cones c.requires)

pub inequality_rows-requires : goal.inequality_rows-requires
unfolding row_entries cone_in
inequality_rows-requires c =
    let N = grid c.args.p.now.net in
    let ineq = inequalities N (row_entries N c.args.p.now.x.now c.args.p.now.z.now false) in
    let cones = second_order N (cone_in N c.args.p.now.x.now c.args.p.now.z.now false) in
    let equal = equalities N (plain_row N) in
    room-plain _ _ ineq (room_after ineq c.equality_rows.ensures (room-before _ _ _ (equal ++ ineq) cones c.requires))

pub cone_rows-requires : goal.cone_rows-requires
unfolding row_entries cone_in
cone_rows-requires c =
    let N = grid c.args.p.now.net in
    let cones = second_order N (cone_in N c.args.p.now.x.now c.args.p.now.z.now false) in
    room-plain _ _ cones (room_after cones (then c.equality_rows.ensures (plain c.inequality_rows.ensures)) c.requires)

pub returns : goal.returns
unfolding row_entries cone_in
returns c = then (then c.equality_rows.ensures (plain c.inequality_rows.ensures)) (plain c.cone_rows.ensures)
