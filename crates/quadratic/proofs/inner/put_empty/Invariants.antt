use Rattle.std.proofs.Common.{[]}
use Rattle.lists.specs.UpTo.{listed}
use Rattle.cells.specs.Puts.{PutsColumns}
use Rattle.quadratic.proofs.inner.put_empty.Given as goal

abbrev pub invariant-loop-i : goal.invariant-loop-i
invariant-loop-i l = PutsColumns (listed l.i (λ j. [])) l.c l.initial.starts l.cells l.starts l.cells
