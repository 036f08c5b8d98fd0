-- `bus_columns::inner::column::put_bus` meets its contract. Assumes nothing.
use Rattle.std.proofs.Common.{arith}
use Rattle.cells.proofs.Puts.{then, pos}
use Rattle.numbering.specs.Network.{grid}
use Rattle.bus_columns.proofs.Ends.{column-is, column-length}
use Rattle.bus_columns.proofs.inner.column.put_bus.Goals as goal

pub put_shunt-requires : goal.put_shunt-requires
put_shunt-requires c =
    let a = c.args in
    let n = column-length (grid a.from.now.net) a.i a.ends.now c.requires.ends_value in
    record { i_lt_n = c.requires.i_lt_n; room = omega (arith, n, c.requires.room) }

pub put_blocks-requires : goal.put_blocks-requires
put_blocks-requires c =
    let a = c.args in
    let n = column-length (grid a.from.now.net) a.i a.ends.now c.requires.ends_value in
    record { room = omega (arith, n, pos c.put_shunt.ensures, c.requires.room) }

pub put_bound-requires : goal.put_bound-requires
put_bound-requires c =
    let a = c.args in
    let n = column-length (grid a.from.now.net) a.i a.ends.now c.requires.ends_value in
    record { i_lt_n = c.requires.i_lt_n; room = omega (arith, n, pos c.put_shunt.ensures, pos c.put_blocks.ensures, c.requires.room) }

pub put_cones-requires : goal.put_cones-requires
put_cones-requires c =
    let a = c.args in
    let n = column-length (grid a.from.now.net) a.i a.ends.now c.requires.ends_value in
    record { room = omega (arith, n, pos c.put_shunt.ensures, pos c.put_blocks.ensures, pos c.put_bound.ensures, c.requires.room) }

pub returns : goal.returns
returns c =
    let a = c.args in
    let q = column-is (grid a.from.now.net) a.i a.ends.now c.requires.ends_value in
    rw q at (then (then (then c.put_shunt.ensures c.put_blocks.ensures) c.put_bound.ensures) c.put_cones.ensures)
