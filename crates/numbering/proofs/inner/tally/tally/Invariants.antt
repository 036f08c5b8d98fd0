-- The sum so far is the tally of the records passed.
use Rattle.std.proofs.Common.{◌≡◌, ◌≤◌, ◌*◌}
use Rattle.numbering.specs.Tally.{tally_of}
use Rattle.numbering.proofs.inner.tally.tally.Given as goal

abbrev pub invariant-loop-i : goal.invariant-loop-i
invariant-loop-i l = (l.sum ≤ 65535 * l.i) × (l.sum ≡ tally_of l.t l.run.bytes.now l.run.first l.i)
