-- `bus_columns::inner::column::put_two` meets its contract. Assumes nothing.
use Rattle.std.proofs.Common.{arith, length-append}
use Rattle.cells.proofs.Puts.{then, pos}
use Rattle.numbering.specs.Network.{grid}
use Rattle.bus_columns.specs.Ends.{ohms_of}
use Rattle.bus_columns.proofs.inner.column.put_two.Goals as goal

pub put_ohms-requires : goal.put_ohms-requires
put_ohms-requires c =
    let a = c.args in
    let ohms = ohms_of (grid a.from.now.net) a.ends.now in
    record { room = omega (arith, length-append (ohms a.p) (ohms a.q), c.requires.room) }

pub put_ohms-requires-2 : goal.put_ohms-requires-2
put_ohms-requires-2 c =
    let a = c.args in
    let ohms = ohms_of (grid a.from.now.net) a.ends.now in
    record { room = omega (arith, length-append (ohms a.p) (ohms a.q), pos c.put_ohms.ensures, c.requires.room) }

pub returns : goal.returns
returns c = then c.put_ohms.ensures c.put_ohms-2.ensures
