-- The branches passed have no cause, and their limited ones are counted.
use Rattle.std.proofs.Common.{◌≡◌, ◌≤◌}
use Rattle.refusals.specs.Refusals.{passed}
use Rattle.records.specs.Check.{branch_cause, first_cause}
use Rattle.record_check.specs.Counts.{limited_in}
use Rattle.record_check.proofs.branch_causes.Given as goal

abbrev pub invariant-loop-i : goal.invariant-loop-i
invariant-loop-i l = (l.limited ≤ l.i) × (first_cause (branch_cause l.n l.run.bytes.now) l.run.first l.i ≡ passed) × (l.limited ≡ limited_in l.run.bytes.now l.run.first l.i)
