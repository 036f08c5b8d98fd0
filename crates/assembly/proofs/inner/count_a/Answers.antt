use Rattle.std.proofs.Common.{arith}
use Rattle.cells.proofs.Puts.{columns-at}
use Rattle.bus_columns.proofs.Counts.{columns-counted}
use Rattle.assembly.proofs.PartsOfA.{matrix-count}
use Rattle.assembly.proofs.inner.count_a.Goals as goal

pub returns : goal.returns
returns c =
    let net = c.args.net.now in
    let l = net.layout in
    let b = net.bytes.now in
    omega (
      arith,
      matrix-count l b net.laid,
      columns-counted l b net.laid,
      columns-at c.fill_generators.ensures.columns,
      columns-at c.fill_branches.ensures.columns,
      c.count_buses.ensures.value,
      c.count_ends.ensures.value,
    )
