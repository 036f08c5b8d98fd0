-- The generators passed have no cause, their piecewise ones are counted and their counts added.
use Rattle.std.proofs.Common.{◌≡◌, ◌≤◌, ◌*◌}
use Rattle.refusals.specs.Refusals.{passed}
use Rattle.records.specs.Check.{gen_cause, first_cause, count_sum}
use Rattle.record_check.specs.Counts.{piecewise_in}
use Rattle.record_check.proofs.gen_causes.Given as goal

abbrev pub invariant-loop-i : goal.invariant-loop-i
invariant-loop-i l =
    (l.piecewise ≤ l.i) × (l.counts ≤ 65535 * l.i) × (first_cause (gen_cause l.n l.run.bytes.now) l.run.first l.i ≡ passed)
    × (l.piecewise ≡ piecewise_in l.run.bytes.now l.run.first l.i) × (l.counts ≡ count_sum l.run.bytes.now l.run.first l.i)
