-- `quadratic::inner::count_p` meets its contract: each turn counts one generator more. Assumes nothing.
use Rattle.std.proofs.Common.{◌≤◌, ◌≡◌}
use Rattle.quadratic.specs.Quadratic.{quad_count}
use Rattle.quadratic.proofs.inner.count_p.Given as goal

abbrev pub invariant-loop-g : goal.invariant-loop-g
invariant-loop-g l = record { bound : l.count ≤ l.g; counted : l.count ≡ quad_count l.net.layout l.net.bytes.now l.g }
