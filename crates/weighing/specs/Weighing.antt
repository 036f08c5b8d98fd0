-- Terms weighed by a column of a dense matrix, and a column's nonzero values as terms: `forward_adjoint` (sens/mod.rs).
use Rattle.std.specs.Prelude.{ℕ, ◌+◌, List, [], ◌∷◌, get_or, Float}
use Rattle.std.specs.Float.{binary64, nan}
use Rattle.std.specs.Float.Ieee.{ne, add, mul}
use Rattle.lists.specs.UpTo.{when}
use Rattle.lists.specs.Steps.{through}
use Rattle.lists.specs.Entries.{Cell, cell}
use Rattle.sparse.specs.Sparse.{zero64}

-- `acc += w * x[(r, c)]`, the column of x beginning at base
unfoldable pub weigh : List Float → ℕ → Cell → Float → Float
weigh x base t a = add binary64 a (mul binary64 t.val (get_or x (base + t.row) nan))

unfoldable pub weighed : List Float → ℕ → List Cell → Float → Float
weighed x base ts a = through (weigh x base) ts a

-- `(v != 0.0).then_some((r, v))`
abbrev pub nonzero_at : List Float → ℕ → ℕ → List Cell
nonzero_at rhs base r = when (ne (get_or rhs (base + r) nan) zero64) (cell r (get_or rhs (base + r) nan) ∷ [])
