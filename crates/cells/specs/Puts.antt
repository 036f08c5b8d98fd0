-- What a writer does to lent lists of rows and values, and to the position beside them.
use Rattle.std.specs.Prelude.{ℕ, ◌≡◌, List}
use Rattle.lists.specs.Entries.{Cell}
use Rattle.lists.specs.Compressed.{CellOut, cell_out, WroteCells}
use Rattle.cells.specs.Columns.{Columns}
use Rattle.cells.specs.declared.Cells.{Cells}

-- what the lists hold, and the position
abbrev pub cells_of : Cells → CellOut
cells_of t = cell_out t.rows.now t.vals.now t.at

-- the same two lists are lent before and after
pub record SameLent (t t' : Cells) : Type 0 where
  pub rows : t'.rows.ghost_name ≡ t.rows.ghost_name
  pub vals : t'.vals.ghost_name ≡ t.vals.ghost_name

-- they are, and the cells were written to them
pub record PutsCells (cs : List Cell) (t t' : Cells) : Type 0 where
  pub lent : SameLent t t'
  pub wrote : WroteCells cs (cells_of t) (cells_of t')

-- they are, and the columns were written to them, with their ends from column c on
pub record PutsColumns (cs : List (List Cell)) (c : ℕ) (ss₀ : List ℕ) (t : Cells) (ss : List ℕ) (t' : Cells) : Type 0 where
  pub lent : SameLent t t'
  pub columns : Columns cs c ss₀ (cells_of t) ss (cells_of t')
