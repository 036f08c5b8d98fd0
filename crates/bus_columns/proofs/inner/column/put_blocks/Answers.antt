-- `bus_columns::inner::column::put_blocks` meets its contract. Assumes nothing.
use Rattle.std.proofs.Common.{arith}
use Rattle.cells.proofs.Puts.{then, pos}
use Rattle.numbering.specs.Network.{grid}
use Rattle.rows.specs.declared.OhmRow.TheVariants.{Pf as pf, Qf as qf, Pt as pt, Qt as qt}
use Rattle.bus_columns.proofs.Ends.{ohms_sided, pairs_length, blocks_paired}
use Rattle.bus_columns.proofs.inner.column.put_blocks.Goals as goal

-- ---- each side's ends by themselves

pub put_two-requires : goal.put_two-requires
put_two-requires c =
    let xs = c.args.ends.now in
    let G = grid c.args.from.now.net in
    let s = c.split-middle.ensures in
    record { room = rw (s.out_after, ohms_sided G pf xs, ohms_sided G qf xs) (omega (arith, pairs_length G xs, c.requires.room)) }

pub put_two-requires-then-end-sides : goal.put_two-requires-then-end-sides
put_two-requires-then-end-sides c =
    let xs = c.args.ends.now in
    let G = grid c.args.from.now.net in
    let s = c.split-middle.ensures in
    let w = rw (s.out_after, ohms_sided G pf xs, ohms_sided G qf xs) at c.put_two.ensures in
    record { room = rw (s.out_after_2, ohms_sided G pt xs, ohms_sided G qt xs) (omega (arith, pairs_length G xs, pos w, c.requires.room)) }

pub returns-then-end-sides : goal.returns-then-end-sides
returns-then-end-sides c =
    let xs = c.args.ends.now in
    let G = grid c.args.from.now.net in
    let s = c.split-middle.ensures in
    let w = rw (s.out_after, ohms_sided G pf xs, ohms_sided G qf xs) at c.put_two.ensures in
    let v = rw (s.out_after_2, ohms_sided G pt xs, ohms_sided G qt xs) at c.put_two-then-end-sides.ensures in
    rw (blocks_paired G xs) at (then w v)

-- ---- all ends

pub put_two-requires-else-end-sides : goal.put_two-requires-else-end-sides
put_two-requires-else-end-sides c =
    record { room = omega (arith, pairs_length (grid c.args.from.now.net) c.args.ends.now, c.requires.room) }

pub put_two-requires-else-end-sides-2 : goal.put_two-requires-else-end-sides-2
put_two-requires-else-end-sides-2 c =
    record { room = omega (arith, pairs_length (grid c.args.from.now.net) c.args.ends.now, pos c.put_two-else-end-sides.ensures, c.requires.room) }

pub returns-else-end-sides : goal.returns-else-end-sides
returns-else-end-sides c =
    rw (blocks_paired (grid c.args.from.now.net) c.args.ends.now) at (then c.put_two-else-end-sides.ensures c.put_two-else-end-sides-2.ensures)
