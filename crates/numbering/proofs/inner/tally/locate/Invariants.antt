-- The point lies past the records passed, by the rest.
use Rattle.std.proofs.Common.{◌≡◌, ◌+◌}
use Rattle.numbering.specs.Tally.{tally_of}
use Rattle.numbering.proofs.inner.tally.locate.Given as goal

abbrev pub invariant-loop-i : goal.invariant-loop-i
invariant-loop-i l = tally_of l.t l.run.bytes.now l.run.first l.i + l.rest ≡ l.p
