-- `sides::inner::angle_rhs` meets its contract: the two angle rows have one right side. Assumes nothing.
use Rattle.rows.specs.Rows.{b}
use Rattle.sides.specs.Sides.{side_at}
use Rattle.sides.proofs.inner.angle_rhs.Goals as goal

pub returns : goal.returns
unfolding side_at b
returns c = record { value = c.bound_side.ensures.rhs; value_2 = c.bound_side.ensures.rhs }
