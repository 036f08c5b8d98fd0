-- `complementarity::inner::cones::put_plain` meets its contract. Assumes nothing.
use Rattle.lists.specs.UpTo.{each}
use Rattle.lists.specs.Puts.{Puts}
use Rattle.complementarity.specs.Writes.{plain_at}
use Rattle.complementarity.proofs.inner.cones.put_plain.Given as goal

abbrev pub invariant-loop-j : goal.invariant-loop-j
invariant-loop-j l = Puts (each l.j (plain_at l.k.nvar l.k.cone)) l.initial.list l.list
