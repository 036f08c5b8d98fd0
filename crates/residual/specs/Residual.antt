-- The residual pass of `solve_refined` (sens/mod.rs).
-- A dense matrix lies by columns: row r of column c at c * dim + r.
use Rattle.std.specs.Prelude.{ℕ, ◌+◌, ◌*◌, List, ◌++◌, get_or, set, Float}
use Rattle.std.specs.Float.{binary64, nan}
use Rattle.std.specs.Float.Ieee.{ne, sub, mul}
use Rattle.lists.specs.UpTo.{listed, when}
use Rattle.lists.specs.Steps.{turns, through}
use Rattle.lists.specs.Entries.{Entry, entry}
use Rattle.sparse.specs.Sparse.{zero64}

-- `r[(tr.row, c)] -= tr.val * x[(tr.col, c)]`
unfoldable pub subtract_at : ℕ → List Float → Entry → ℕ → List Float → List Float
subtract_at dim x e c r =
    set r (c * dim + e.row) (sub binary64 (get_or r (c * dim + e.row) nan) (mul binary64 e.val (get_or x (c * dim + e.col) nan)))

-- `for c in 0..rhs.ncols()`
unfoldable pub subtract_entry : ℕ → ℕ → List Float → Entry → List Float → List Float
subtract_entry dim columns x e r = turns (subtract_at dim x e) columns r

-- `for tr in &reg`
unfoldable pub subtract_entries : ℕ → ℕ → List Float → List Entry → List Float → List Float
subtract_entries dim columns x es r = through (subtract_entry dim columns x) es r

-- the same by columns, as the code has it: what the entries subtract from column c
unfoldable pub subtract_column : ℕ → List Float → List Entry → ℕ → List Float → List Float
subtract_column dim x es c r = through (λ e. subtract_at dim x e c) es r

-- eps on the diagonal
unfoldable pub diagonal : ℕ → Float → List Entry
diagonal dim eps = listed dim (λ d. entry d d eps)

-- `reg`: the entries, "with eps on the diagonal after the list if eps is not 0"
unfoldable pub regular : ℕ → Float → List Entry → List Entry
regular dim eps es = es ++ when (ne eps zero64) (diagonal dim eps)

-- r, from `rhs.clone()`
unfoldable pub residual : ℕ → ℕ → List Entry → Float → List Float → List Float → List Float
residual dim columns es eps rhs x = subtract_entries dim columns x (regular dim eps es) rhs
