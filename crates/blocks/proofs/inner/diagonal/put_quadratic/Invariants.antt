use Rattle.lists.specs.UpTo.{each}
use Rattle.lists.specs.Puts.{Puts}
use Rattle.numbering.specs.Network.{grid}
use Rattle.blocks.proofs.Laws.{diagonal_at}
use Rattle.blocks.proofs.inner.diagonal.put_quadratic.Given as goal

abbrev pub invariant-loop-g : goal.invariant-loop-g
invariant-loop-g l = Puts (each l.g (diagonal_at (grid l.net))) l.initial.list l.list
