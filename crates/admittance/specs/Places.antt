-- The numbers of a branch's Ohm rows and columns, and its ten series entries at them.
use Rattle.std.specs.Prelude.{ℕ, ◌+◌, ◌≡◌, List, [], ◌∷◌, map, get_or, Float}
use Rattle.std.specs.Float.{binary64, nan}
use Rattle.std.specs.Float.Ieee.{mul}
use Rattle.numbering.specs.Layout.{layout_row, layout_column, nvar_of}
use Rattle.numbering.specs.declared.SocWrLayout.{SocWrLayout}
use Rattle.numbering.specs.declared.ColumnName.TheVariants.{W, Wr, Wi}
use Rattle.numbering.specs.declared.RowName.{RowName}
use Rattle.numbering.specs.declared.RowName.TheVariants.{OhmPf, OhmQf, OhmPt, OhmQt}
use Rattle.ring.specs.Ops.{rounded}
use Rattle.rows.specs.Rows.{value64, OhmPlace, w, wr, wi, flow}
use Rattle.rows.specs.declared.OhmRow.{OhmRow}
use Rattle.rows.specs.declared.OhmRow.TheVariants.{Pf as pf, Qf as qf, Pt as pt, Qt as qt}
use Rattle.interface.specs.declared.GB.{GB}
use Rattle.admittance.specs.Stores.{Store, plus}
use Rattle.admittance.specs.Series.{Slope, series}
use Rattle.admittance.specs.Admittance.{in_turn}
use Rattle.branch.specs.declared.Series.{Series}
use Rattle.branch.specs.declared.ByOhmRow.{ByOhmRow}
use Rattle.admittance.specs.declared.inner.series.OhmColumns.{OhmColumns}
use Rattle.admittance.specs.declared.Entry.{Entry}

-- a row of the program as a row of the KKT matrix
abbrev pub kkt_in : SocWrLayout → RowName → ℕ
kkt_in l x = nvar_of l + layout_row l x

abbrev pub OhmRows : Type 0
OhmRows = ByOhmRow ℕ

-- the numbers of branch e's Ohm rows, and of their columns between two buses
pub record RowsAre (l : SocWrLayout) (e : ℕ) (r : OhmRows) : Type 0 where
  pub pf : r.pf ≡ layout_row l (OhmPf e)
  pub qf : r.qf ≡ layout_row l (OhmQf e)
  pub pt : r.pt ≡ layout_row l (OhmPt e)
  pub qt : r.qt ≡ layout_row l (OhmQt e)

pub record ColumnsAre (l : SocWrLayout) (from to e : ℕ) (c : OhmColumns) : Type 0 where
  pub from_w : c.from ≡ layout_column l (W from)
  pub to_w : c.to ≡ layout_column l (W to)
  pub wr : c.wr ≡ layout_column l (Wr e)
  pub wi : c.wi ≡ layout_column l (Wi e)

abbrev pub ohm_row_at : OhmRows → OhmRow → ℕ
ohm_row_at rs pf = rs.pf
ohm_row_at rs qf = rs.qf
ohm_row_at rs pt = rs.pt
ohm_row_at rs qt = rs.qt

-- no entry is at the flow's column
abbrev pub ohm_column_at : OhmColumns → OhmRow → OhmPlace → ℕ
ohm_column_at cs pf w = cs.from
ohm_column_at cs qf w = cs.from
ohm_column_at cs pt w = cs.to
ohm_column_at cs qt w = cs.to
ohm_column_at cs r wr = cs.wr
ohm_column_at cs r wi = cs.wi
ohm_column_at cs r flow = 0

abbrev pub entry_at : OhmRows → OhmColumns → Series → Slope Float → Entry
entry_at rs cs t d = record { 0 = ohm_row_at rs d.row; 1 = ohm_column_at cs d.row d.place; 2 = value64 t.tm2 d.value }

unfoldable pub series_entries : OhmRows → OhmColumns → Series → GB → List Entry
series_entries rs cs t gb = map (entry_at rs cs t) (series rounded t.tr t.ti gb)

-- an entry's two stores, and those of all entries
abbrev pub landed_at : List Float → List Float → ℕ → Entry → List Store
landed_at x z nvar d = plus (nvar + d.0) (mul binary64 d.2 (get_or x d.1 nan)) ∷ plus d.1 (mul binary64 d.2 (get_or z d.0 nan)) ∷ []

abbrev pub landed_all : List Float → List Float → ℕ → List Entry → List Store
landed_all x z nvar es = in_turn (landed_at x z nvar) es
