use Rattle.lists.specs.UpTo.{each}
use Rattle.dealing.proofs.Ahead.{plain, then}
use Rattle.numbering.specs.Network.{grid}
use Rattle.numbering.specs.declared.RowName.TheVariants.{Pbal, Qbal, OhmPf, OhmQf, OhmPt, OhmQt}
use Rattle.rows.specs.Program.{equalities}
use Rattle.kkt.specs.Kkt.{plain_row}
use Rattle.entries.proofs.Rooms.{shorter, room-start, room_next, room-plain}
use Rattle.entries.proofs.whole.equality_rows.Goals as goal

pub balance_rows-requires : goal.balance_rows-requires
balance_rows-requires c =
    let N = grid c.args.net.now in
    let f = plain_row N in
    room-start _ _ _ (each N.n (λ i. f (Pbal i))) (equalities N f) (search shorter depth 12) c.requires

pub balance_rows-requires-2 : goal.balance_rows-requires-2
balance_rows-requires-2 c =
    let N = grid c.args.net.now in
    let f = plain_row N in
    room_next (each N.n (λ i. f (Qbal i))) (equalities N f) c.balance_rows.ensures (search shorter depth 12) c.requires

pub ohm_rows-requires : goal.ohm_rows-requires
ohm_rows-requires c =
    let N = grid c.args.net.now in
    let f = plain_row N in
    let w1 = then c.balance_rows.ensures c.balance_rows-2.ensures in
    record { room = room-plain _ _ (each N.m (λ i. f (OhmPf i))) (room_next (each N.m (λ i. f (OhmPf i))) (equalities N f) w1 (search shorter depth 12) c.requires) }

pub ohm_rows-requires-2 : goal.ohm_rows-requires-2
ohm_rows-requires-2 c =
    let N = grid c.args.net.now in
    let f = plain_row N in
    let w1 = then c.balance_rows.ensures c.balance_rows-2.ensures in
    let w2 = then w1 (plain c.ohm_rows.ensures) in
    record { room = room-plain _ _ (each N.m (λ i. f (OhmQf i))) (room_next (each N.m (λ i. f (OhmQf i))) (equalities N f) w2 (search shorter depth 12) c.requires) }

pub ohm_rows-requires-3 : goal.ohm_rows-requires-3
ohm_rows-requires-3 c =
    let N = grid c.args.net.now in
    let f = plain_row N in
    let w1 = then c.balance_rows.ensures c.balance_rows-2.ensures in
    let w2 = then w1 (plain c.ohm_rows.ensures) in
    let w3 = then w2 (plain c.ohm_rows-2.ensures) in
    record { room = room-plain _ _ (each N.m (λ i. f (OhmPt i))) (room_next (each N.m (λ i. f (OhmPt i))) (equalities N f) w3 (search shorter depth 12) c.requires) }

pub ohm_rows-requires-4 : goal.ohm_rows-requires-4
ohm_rows-requires-4 c =
    let N = grid c.args.net.now in
    let f = plain_row N in
    let w1 = then c.balance_rows.ensures c.balance_rows-2.ensures in
    let w2 = then w1 (plain c.ohm_rows.ensures) in
    let w3 = then w2 (plain c.ohm_rows-2.ensures) in
    let w4 = then w3 (plain c.ohm_rows-3.ensures) in
    record { room = room-plain _ _ (each N.m (λ i. f (OhmQt i))) (room_next (each N.m (λ i. f (OhmQt i))) (equalities N f) w4 (search shorter depth 12) c.requires) }

pub returns : goal.returns
returns c =
    let w1 = then c.balance_rows.ensures c.balance_rows-2.ensures in
    let w2 = then w1 (plain c.ohm_rows.ensures) in
    let w3 = then w2 (plain c.ohm_rows-2.ensures) in
    let w4 = then w3 (plain c.ohm_rows-3.ensures) in
    then w4 (plain c.ohm_rows-4.ensures)
