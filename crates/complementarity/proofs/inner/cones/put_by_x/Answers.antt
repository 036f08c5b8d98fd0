-- `complementarity::inner::cones::put_by_x` meets its contract. Assumes nothing.
use Rattle.lists.proofs.Puts.{none}
use Rattle.complementarity.specs.Writes.{by_x}
use Rattle.complementarity.proofs.inner.cones.put_by_x.Goals as goal

pub put_scaled-requires : goal.put_scaled-requires
unfolding by_x
put_scaled-requires c = rw (c.number-r.ensures, c.at-line.ensures, c.arrow-a.ensures) (rw (rw c.arrow-a.ensures at c.if-a.true) at c.requires)

pub returns-then-a : goal.returns-then-a
unfolding by_x
returns-then-a c = rw (rw c.arrow-a.ensures at c.if-a.true) (rw (c.number-r.ensures, c.at-line.ensures, c.arrow-a.ensures) at c.put_scaled.ensures)

pub returns-else-a : goal.returns-else-a
unfolding by_x
returns-else-a c = rw (rw c.arrow-a.ensures at c.if-a.false) none
