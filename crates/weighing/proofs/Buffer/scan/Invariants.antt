use Rattle.std.proofs.Common.{◌≡◌, ◌+◌, ◌≤◌, ◌-◌}
use Rattle.weighing.specs.Gathering.{span, Added}
use Rattle.weighing.proofs.Buffer.scan.Given as goal

abbrev pub invariant-loop-r : goal.invariant-loop-r
invariant-loop-r l =
    let a = l.initial.self in
    let b = l.self in
    (l.n ≤ a.count + (l.r - l.first)) × (b.starts ≡ a.starts) × (b.segments ≡ a.segments)
    × Added l.r (span l.rhs l.base l.first l.r) a.rows a.values a.count b.rows b.values l.n
