use Rattle.std.proofs.Common.{◌<◌, ◌≤◌, ◌-◌, ◌≡◌}
use Rattle.weighing.specs.Gathering.{span}
use Rattle.weighing.specs.Buffers.{Adds}
use Rattle.weighing.proofs.Buffer.gather.Given as goal

abbrev pub invariant-loop-r : goal.invariant-loop-r
invariant-loop-r l =
    (l.first ≤ l.r) × (l.r ≤ l.rhs.dim) × (l.self.count ≤ 256) × (l.r ≡ l.first → l.self.count < 256)
    × Adds l.rhs.dim (span l.rhs.values.now l.base l.first l.r) l.initial.self l.self

abbrev pub decreases-loop-r : goal.decreases-loop-r
decreases-loop-r l = l.rhs.dim - l.r
