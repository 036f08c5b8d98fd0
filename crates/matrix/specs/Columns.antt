-- A by columns, as code can write it: the cells of each column by ascending row. `Same.matrix-columns` says that it is A by columns.
use Rattle.std.specs.Prelude.{ℕ, List, [], ◌∷◌, ◌++◌, eqb, Float}
use Rattle.std.specs.Float.Ieee.{neg, ne}
use Rattle.lists.specs.UpTo.{each, when}
use Rattle.lists.specs.Entries.{Cell, cell}
use Rattle.ring.specs.Ops.{rounded}
use Rattle.records.specs.AcNetwork.{AcNetwork}
use Rattle.rows.specs.Branch.{branch_at}
use Rattle.numbering.specs.Numbering.{row_number}
use Rattle.numbering.specs.declared.ColumnName.{ColumnName}
use Rattle.numbering.specs.declared.ColumnName.TheVariants.{Pg, Qg, W, Wr, Wi, Pf, Pt, Qf, Qt, CostOf}
use Rattle.numbering.specs.declared.RowName.{RowName}
use Rattle.numbering.specs.declared.RowName.TheVariants.{Pbal, Qbal, Wub, Wlb, Pgub, Pglb, Qgub, Qglb, Angub, Anglb, Segment, Jabr, Thermal}
use Rattle.rows.specs.Rows.{one, minus_one, half, minus_half, constant64, zero64, OhmPlace, w, wr, wi, ohm_value, ohm_row, end_bus}
use Rattle.rows.specs.declared.OhmRow.{OhmRow}
use Rattle.rows.specs.declared.OhmRow.TheVariants.{Pf as pf, Qf as qf, Pt as pt, Qt as qt}

-- the balance row that an Ohm row's flow leaves by, and its place among a limited branch's rows
abbrev pub balance_row : OhmRow → ℕ → RowName
balance_row pf i = Pbal i
balance_row qf i = Qbal i
balance_row pt i = Pbal i
balance_row qt i = Qbal i

abbrev pub thermal_place : OhmRow → ℕ
thermal_place pf = 1
thermal_place qf = 2
thermal_place pt = 4
thermal_place qt = 5

-- a cell, and a cell unless its value equals zero
unfoldable pub one_cell : ℕ → Float → List Cell
one_cell r v = cell r v ∷ []

unfoldable pub nonzero_cell : ℕ → Float → List Cell
nonzero_cell r v = when (ne v zero64) (one_cell r v)

module _ (G : AcNetwork Float) where
  abbrev pub at : RowName → Float → List Cell
  at x v = one_cell (row_number G x) v

  abbrev pub keep : RowName → Float → List Cell
  keep x v = nonzero_cell (row_number G x) v

  -- pg and qg
  unfoldable pub slope_cell : ℕ → ℕ → List Cell
  slope_cell g t = keep (Segment g t) (G.slope g t)

  unfoldable pub pg_cells : ℕ → List Cell
  pg_cells g =
      at (Pbal (G.gen_bus g)) (constant64 one) ++ when (G.capable g) (at (Pgub g) (constant64 one) ++ at (Pglb g) (constant64 minus_one))
      ++ each (G.segments g) (slope_cell g)

  unfoldable pub qg_cells : ℕ → List Cell
  qg_cells g = at (Qbal (G.gen_bus g)) (constant64 one) ++ when (G.capable g) (at (Qgub g) (constant64 one) ++ at (Qglb g) (constant64 minus_one))

  -- w: the cells of bus i in the balance, Ohm, bound and cone rows
  unfoldable pub shunt_cells : ℕ → List Cell
  shunt_cells i = keep (Pbal i) (neg (G.gs i)) ++ keep (Qbal i) (G.bs i)

  unfoldable pub ohm_cell : OhmRow → ℕ → List Cell
  ohm_cell r e = keep (ohm_row r e) (ohm_value (branch_at rounded G e) r w)

  unfoldable pub bound_cells : ℕ → List Cell
  bound_cells i = when (G.bounded i) (at (Wub i) (constant64 one) ++ at (Wlb i) (constant64 minus_one))

  unfoldable pub cone_from : ℕ → List Cell
  cone_from e = at (Jabr e 0) (constant64 minus_half) ++ at (Jabr e 3) (constant64 minus_half)

  unfoldable pub cone_to : ℕ → List Cell
  cone_to e = at (Jabr e 0) (constant64 minus_half) ++ at (Jabr e 3) (constant64 half)

  -- of all branches those with this end
  unfoldable pub ohm_at : OhmRow → ℕ → ℕ → List Cell
  ohm_at r i e = when (eqb (end_bus G r e) i) (ohm_cell r e)

  unfoldable pub cones_at : ℕ → ℕ → List Cell
  cones_at i e = when (eqb (G.from e) i) (cone_from e) ++ when (eqb (G.to e) i) (cone_to e)

  unfoldable pub w_cells : ℕ → List Cell
  w_cells i =
      shunt_cells i ++ each G.m (ohm_at pf i) ++ each G.m (ohm_at qf i) ++ each G.m (ohm_at pt i) ++ each G.m (ohm_at qt i)
      ++ bound_cells i ++ each G.m (cones_at i)

  -- wr and wi: the four Ohm rows
  unfoldable pub ohm_column_cells : OhmPlace → ℕ → List Cell
  ohm_column_cells p e =
      keep (ohm_row pf e) (ohm_value (branch_at rounded G e) pf p) ++ keep (ohm_row qf e) (ohm_value (branch_at rounded G e) qf p)
      ++ keep (ohm_row pt e) (ohm_value (branch_at rounded G e) pt p) ++ keep (ohm_row qt e) (ohm_value (branch_at rounded G e) qt p)

  unfoldable pub wr_cells : ℕ → List Cell
  wr_cells e =
      ohm_column_cells wr e ++ when (G.angled e) (keep (Angub e) (neg (G.tanmax e)) ++ keep (Anglb e) (G.tanmin e)) ++ at (Jabr e 1) (constant64 minus_one)

  unfoldable pub wi_cells : ℕ → List Cell
  wi_cells e =
      ohm_column_cells wi e ++ when (G.angled e) (at (Angub e) (constant64 one) ++ at (Anglb e) (constant64 minus_one)) ++ at (Jabr e 2) (constant64 minus_one)

  -- pf, qf, pt and qt
  unfoldable pub flow_cells : OhmRow → ℕ → List Cell
  flow_cells r e =
      at (balance_row r (end_bus G r e)) (constant64 minus_one) ++ at (ohm_row r e) (constant64 one)
      ++ when (G.limited e) (at (Thermal e (thermal_place r)) (constant64 minus_one))

  -- a generator's cost
  unfoldable pub cost_cell : ℕ → ℕ → List Cell
  cost_cell g t = at (Segment g t) (constant64 minus_one)

  unfoldable pub cost_cells : ℕ → List Cell
  cost_cells g = each (G.segments g) (cost_cell g)

  abbrev pub column_cells : ColumnName → List Cell
  column_cells (Pg g) = pg_cells g
  column_cells (Qg g) = qg_cells g
  column_cells (W i) = w_cells i
  column_cells (Wr e) = wr_cells e
  column_cells (Wi e) = wi_cells e
  column_cells (Pf e) = flow_cells pf e
  column_cells (Pt e) = flow_cells pt e
  column_cells (Qf e) = flow_cells qf e
  column_cells (Qt e) = flow_cells qt e
  column_cells (CostOf g) = cost_cells g
