-- `complementarity::inner::cones::put_by_z` meets its contract. Assumes nothing.
use Rattle.complementarity.specs.Writes.{by_z}
use Rattle.complementarity.proofs.inner.cones.put_by_z.Goals as goal

pub put_if-requires : goal.put_if-requires
unfolding by_z
put_if-requires c = rw (c.number-r.ensures, c.number-q.ensures, c.arrow-a.ensures) c.requires

pub returns : goal.returns
unfolding by_z
returns c = rw (c.number-r.ensures, c.number-q.ensures, c.arrow-a.ensures) at c.put_if.ensures
