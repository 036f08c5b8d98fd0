-- The table of the adjoint combination while its columns are gathered.
use Rattle.std.specs.Prelude.{ℕ, ◌+◌, ◌*◌, ◌<◌, ◌≡◌, List, length, get_or, Float}
use Rattle.std.specs.Float.{nan}
use Rattle.lists.specs.UpTo.{each}
use Rattle.weighing.specs.Weighing.{weighed, nonzero_at}

-- cell (o, k) of the table has gathered the first past k rows of column k
pub record Summed (items columns dim : ℕ) (rhs y : List Float) (past : ℕ → ℕ) (m m' : List Float) : Type 0 where
  pub long : length m' ≡ length m
  pub at : (o k : ℕ) → o < items → k < columns
      → get_or m' (o * columns + k) nan ≡ weighed y (o * dim) (each (past k) (nonzero_at rhs (k * dim))) (get_or m (o * columns + k) nan)
