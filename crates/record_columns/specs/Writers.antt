-- What single calls of the column writers write.
use Rattle.std.specs.Prelude.{ℕ, ◌+◌, Bool, List, [], ◌∷◌, ◌++◌, Float}
use Rattle.std.specs.Float.Ieee.{neg}
use Rattle.lists.specs.UpTo.{when}
use Rattle.lists.specs.Entries.{Cell}
use Rattle.records.specs.AcNetwork.{AcNetwork}
use Rattle.records.specs.Fields.{slope_of}
use Rattle.numbering.specs.declared.RowName.TheVariants.{OhmPf, OhmQf, OhmPt, OhmQt, Angub, Anglb}
use Rattle.rows.specs.Rows.{one, minus_one, constant64}
use Rattle.matrix.specs.Columns.{one_cell, nonzero_cell, at, keep, cost_cells}
use Rattle.branch.specs.Ohm.{Products}

-- the rows of an upper and a lower bound
unfoldable pub pair : ℕ → ℕ → List Cell
pair u l = one_cell u (constant64 one) ++ one_cell l (constant64 minus_one)

-- a generator's balance row, and the rows of its bounds where they are active
unfoldable pub head : Bool → ℕ → ℕ → ℕ → List Cell
head on b u l = one_cell b (constant64 one) ++ when on (pair u l)

-- the slope of segment t of a generator whose segments' records start at first, and their rows at row
unfoldable pub slopes : List ℕ → ℕ → ℕ → ℕ → List Cell
slopes bytes first row t = nonzero_cell (row + t) (slope_of bytes (first + t))

-- -1 in row t of those from row on
unfoldable pub ones : ℕ → ℕ → List Cell
ones row t = one_cell (row + t) (constant64 minus_one)

-- a generator's cost column, if it has one
unfoldable pub cost_turn : AcNetwork Float → ℕ → List (List Cell)
cost_turn G g = when (G.piecewise g) (cost_cells G g ∷ [])

-- the four Ohm rows of branch e
unfoldable pub product_cells : AcNetwork Float → ℕ → Products → List Cell
product_cells G e p = keep G (OhmPf e) p.pf ++ keep G (OhmQf e) p.qf ++ keep G (OhmPt e) p.pt ++ keep G (OhmQt e) p.qt

-- the angle rows in the wr and in the wi column
unfoldable pub wr_angles : AcNetwork Float → ℕ → List Cell
wr_angles G e = when (G.angled e) (keep G (Angub e) (neg (G.tanmax e)) ++ keep G (Anglb e) (G.tanmin e))

unfoldable pub wi_angles : AcNetwork Float → ℕ → List Cell
wi_angles G e = when (G.angled e) (at G (Angub e) (constant64 one) ++ at G (Anglb e) (constant64 minus_one))
