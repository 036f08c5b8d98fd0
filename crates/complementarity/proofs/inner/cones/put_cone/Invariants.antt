-- `complementarity::inner::cones::put_cone` meets its contract. Assumes nothing.
use Rattle.lists.specs.UpTo.{each}
use Rattle.lists.specs.Puts.{Puts}
use Rattle.complementarity.specs.Writes.{cone_row_of}
use Rattle.complementarity.proofs.inner.cones.put_cone.Given as goal

abbrev pub invariant-loop-j : goal.invariant-loop-j
invariant-loop-j l = Puts (each l.j (cone_row_of l.k.nvar l.k.cone l.zs l.ss l.k.d)) l.initial.list l.list
