use Rattle.std.proofs.Common.{◌++◌, true}
use Rattle.dealing.proofs.Ahead.{plain, then, covered, finished-then}
use Rattle.numbering.specs.Network.{grid}
use Rattle.rows.specs.Program.{inequalities, second_order}
use Rattle.kkt.specs.Kkt.{kkt, kkt_of}
use Rattle.complementarity.specs.Writes.{row_entries, cone_in}
use Rattle.entries.specs.Parts.{stationarity}
use Rattle.entries.proofs.Rooms.{room-before, room_after, room-plain}
use Rattle.entries.proofs.Answers.{covers}
use Rattle.entries.proofs.whole.put_kkt.Goals as goal

pub first_part-requires : goal.first_part-requires
unfolding kkt kkt_of row_entries cone_in
first_part-requires c =
    let N = grid c.args.p.now.net in
    let ineq = inequalities N (row_entries N c.args.p.now.x.now c.args.p.now.z.now true) in
    let cones = second_order N (cone_in N c.args.p.now.x.now c.args.p.now.z.now true) in
    let first = stationarity N in
    room-before _ _ _ first ineq (room-before _ _ _ (first ++ ineq) cones c.requires)

pub inequality_rows-requires : goal.inequality_rows-requires
unfolding kkt kkt_of row_entries cone_in
inequality_rows-requires c =
    let N = grid c.args.p.now.net in
    let ineq = inequalities N (row_entries N c.args.p.now.x.now c.args.p.now.z.now true) in
    let cones = second_order N (cone_in N c.args.p.now.x.now c.args.p.now.z.now true) in
    room-plain _ _ ineq (room_after ineq c.first_part.ensures (room-before _ _ _ (stationarity N ++ ineq) cones c.requires))

pub cone_rows-requires : goal.cone_rows-requires
unfolding kkt kkt_of row_entries cone_in
cone_rows-requires c =
    let N = grid c.args.p.now.net in
    let cones = second_order N (cone_in N c.args.p.now.x.now c.args.p.now.z.now true) in
    room-plain _ _ cones (room_after cones (then c.first_part.ensures (plain c.inequality_rows.ensures)) c.requires)

pub returns : goal.returns
unfolding kkt kkt_of row_entries cone_in
returns c =
    let p = c.args.p.now in
    finished-then (covered c.first_part.ensures c.inequality_rows.ensures (covers (grid p.net) p.x.now p.z.now)) c.cone_rows.ensures
