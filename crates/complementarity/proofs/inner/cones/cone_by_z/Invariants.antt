-- `complementarity::inner::cones::cone_by_z` meets its contract. Assumes nothing.
use Rattle.lists.specs.UpTo.{each}
use Rattle.lists.specs.Puts.{Puts}
use Rattle.complementarity.specs.Writes.{by_z}
use Rattle.complementarity.proofs.inner.cones.cone_by_z.Given as goal

abbrev pub invariant-loop-l : goal.invariant-loop-l
invariant-loop-l l = Puts (each l.l (by_z l.k.nvar l.k.cone l.ss l.j)) l.initial.list l.list
