-- The records before i are of the kind.
use Rattle.input.proofs.Runs.{Passed}
use Rattle.input.proofs.leading.Given as goal

abbrev pub invariant-loop-i : goal.invariant-loop-i
invariant-loop-i l = Passed l.run.bytes.now l.kind l.run.first l.run.count l.i
