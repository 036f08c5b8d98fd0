-- All starts so far rise.
use Rattle.std.proofs.Common.{◌≡◌, ◌+◌, ◌-◌, ◌≤◌, true, leb}
use Rattle.lists.specs.UpTo.{all}
use Rattle.sparse.specs.Sparse.{start_of}
use Rattle.sparse.proofs.inner.rise.Given as goal

abbrev pub invariant-loop-first : goal.invariant-loop-first
invariant-loop-first l = (l.first ≤ l.items) × (all l.first (λ k. leb (start_of l.starts k) (start_of l.starts (k + 1))) ≡ true)

abbrev pub decreases-loop-first : goal.decreases-loop-first
decreases-loop-first l = l.items - l.first
