-- `complementarity::inner::cones::cone_by_x` meets its contract. Assumes nothing.
use Rattle.lists.specs.UpTo.{each}
use Rattle.lists.specs.Puts.{Puts}
use Rattle.complementarity.specs.Writes.{by_x}
use Rattle.complementarity.proofs.inner.cones.cone_by_x.Given as goal

abbrev pub invariant-loop-l : goal.invariant-loop-l
invariant-loop-l l = Puts (each l.l (by_x l.k.nvar l.k.cone l.zs l.j)) l.initial.list l.list
