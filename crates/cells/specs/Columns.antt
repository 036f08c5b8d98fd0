-- Compressed columns as the code writes them: the cells from a position on, and behind each column its end.
use Rattle.std.specs.Prelude.{ℕ, ◌+◌, List, [], ◌∷◌, length, set, Float}
use Rattle.lists.specs.Entries.{Cell}
use Rattle.lists.specs.Compressed.{CellOut, cell_out, WroteCells, pos_of, joined}
use Rattle.cells.specs.Filled.{Filled}

-- the ends of the columns, the first of which starts at p
unfoldable pub ends_from : ℕ → List (List Cell) → List ℕ
ends_from p [] = []
ends_from p (c ∷ cs) = (p + length c) ∷ ends_from (p + length c) cs

-- the columns written, from column c on
pub record Columns (cs : List (List Cell)) (c : ℕ) (ss₀ : List ℕ) (o : CellOut) (ss : List ℕ) (o' : CellOut) : Type 0 where
  pub cells : WroteCells (joined cs) o o'
  pub ends : Filled (ends_from (pos_of o) cs) ss₀ (c + 1) ss

-- all columns written from the front, with the first start
pub record Whole (cs : List (List Cell)) (ss₀ rs₀ : List ℕ) (vs₀ : List Float) (ss rs : List ℕ) (vs : List Float) (next : ℕ) : Type 0 where
  pub columns : Columns cs 0 (set ss₀ 0 0) (cell_out rs₀ vs₀ 0) ss (cell_out rs vs next)
