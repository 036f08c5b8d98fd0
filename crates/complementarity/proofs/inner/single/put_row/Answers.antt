-- `complementarity::inner::single::put_row` meets its contract. Assumes nothing.
use Rattle.complementarity.specs.Writes.{line_in}
use Rattle.complementarity.proofs.inner.single.put_row.Goals as goal

pub put_bound-requires : goal.put_bound-requires
unfolding line_in
put_bound-requires c = record { within = c.requires.within; z_bound = c.requires.z_bound; line_bound = rw c.if-bound.true at c.requires.line_bound }

pub returns-then-bound : goal.returns-then-bound
unfolding line_in
returns-then-bound c = rw c.if-bound.true c.put_bound.ensures

pub put_line-requires : goal.put_line-requires
unfolding line_in
put_line-requires c = rw c.if-bound.false at c.requires.line_bound

pub returns-else-bound : goal.returns-else-bound
unfolding line_in
returns-else-bound c = rw c.if-bound.false c.put_line.ensures
