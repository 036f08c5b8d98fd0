-- The records passed have no cause.
use Rattle.std.proofs.Common.{◌≡◌}
use Rattle.refusals.specs.Refusals.{passed}
use Rattle.records.specs.Check.{segment_cause, first_cause}
use Rattle.record_check.proofs.segment_causes.Given as goal

abbrev pub invariant-loop-i : goal.invariant-loop-i
invariant-loop-i l = first_cause (segment_cause l.run.bytes.now) l.run.first l.i ≡ passed
