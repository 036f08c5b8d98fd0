-- `complementarity::inner::cones::put_lines` meets its contract. Assumes nothing.
use Rattle.complementarity.specs.Writes.{cone_lines}
use Rattle.std.proofs.Common.{arith}
use Rattle.complementarity.proofs.inner.cones.put_lines.Goals as goal

pub invariant_of-k : goal.invariant_of-k
invariant_of-k c = let q = c.requires in record { held = record { held = λ i. omega (arith, (q.by_index i).row, q.z_bound) } }

pub put_cone-requires : goal.put_cone-requires
unfolding cone_lines
put_cone-requires c =
    let q = c.requires in
    let room = rw c.if-cone.true at q.d_bound in
    rw (c.duals-zs.ensures, c.slacks-ss.ensures) room

pub returns-then-cone : goal.returns-then-cone
unfolding cone_lines
returns-then-cone c = rw c.if-cone.true (rw (c.duals-zs.ensures, c.slacks-ss.ensures) at c.put_cone.ensures)

pub put_plain-requires : goal.put_plain-requires
unfolding cone_lines
put_plain-requires c =
    let q = c.requires in
    rw c.if-cone.false at q.d_bound

pub returns-else-cone : goal.returns-else-cone
unfolding cone_lines
returns-else-cone c = rw c.if-cone.false c.put_plain.ensures
