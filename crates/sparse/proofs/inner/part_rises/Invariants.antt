-- What holds up to first, and then of the part so far.
use Rattle.std.proofs.Common.{◌≡◌, ◌+◌, ◌&&◌, leb}
use Rattle.lists.specs.UpTo.{all}
use Rattle.sparse.specs.Sparse.{start_of}
use Rattle.sparse.proofs.inner.part_rises.Given as goal

abbrev pub invariant-loop-o : goal.invariant-loop-o
invariant-loop-o l = all l.o (λ k. leb (start_of l.starts k) (start_of l.starts (k + 1))) ≡ (all l.first (λ k. leb (start_of l.starts k) (start_of l.starts (k + 1))) && l.ok)
