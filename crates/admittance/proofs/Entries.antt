-- The series entries at a branch's numbers are those of its names: the counts give all these numbers. Assumes nothing.
use Rattle.std.proofs.Common.{ℕ, ◌+◌, ◌≡◌, refl, ◌∙◌, List, Float}
use Rattle.records.specs.AcNetwork.{AcNetwork}
use Rattle.rows.specs.Branch.{branch_of}
use Rattle.numbering.specs.Numbering.{row_number, column_number}
use Rattle.numbering.specs.Layout.{nvar_of}
use Rattle.numbering.specs.Laid.{net_of, Laid}
use Rattle.numbering.specs.declared.ColumnName.TheVariants.{W, Wr, Wi}
use Rattle.numbering.specs.declared.RowName.TheVariants.{OhmPf, OhmQf, OhmPt, OhmQt}
use Rattle.numbering.specs.declared.SocWrLayout.{SocWrLayout}
use Rattle.numbering.proofs.Laid.{laid-nvar, laid-column, laid-row}
use Rattle.interface.specs.declared.GB.{GB}
use Rattle.interface.specs.declared.GB.TheVariants.{Conductance, Susceptance}
use Rattle.branch.specs.Series.{series_of}
use Rattle.admittance.specs.Admittance.{in_turn, series_stores}
use Rattle.admittance.specs.Places.{OhmRows, RowsAre, ColumnsAre, series_entries, landed_all}
use Rattle.admittance.specs.declared.inner.series.OhmColumns.{OhmColumns}

module _ (l : SocWrLayout) (b : List ℕ) (h : Laid l b) (x z : List Float) (e : ℕ) {nv : ℕ} {r : OhmRows} {c : OhmColumns}
    (v : nv ≡ nvar_of l) (p : RowsAre l e r) (q : ColumnsAre l ((net_of l b).from e) ((net_of l b).to e) e c) where
  abbrev N : AcNetwork Float
  N = net_of l b

  pf : r.pf ≡ row_number N (OhmPf e)
  pf = p.pf ∙ laid-row l b h (OhmPf e) refl

  qf : r.qf ≡ row_number N (OhmQf e)
  qf = p.qf ∙ laid-row l b h (OhmQf e) refl

  pt : r.pt ≡ row_number N (OhmPt e)
  pt = p.pt ∙ laid-row l b h (OhmPt e) refl

  qt : r.qt ≡ row_number N (OhmQt e)
  qt = p.qt ∙ laid-row l b h (OhmQt e) refl

  from : c.from ≡ column_number N (W (N.from e))
  from = q.from_w ∙ laid-column l b h (W (N.from e)) refl

  to : c.to ≡ column_number N (W (N.to e))
  to = q.to_w ∙ laid-column l b h (W (N.to e)) refl

  wr : c.wr ≡ column_number N (Wr e)
  wr = q.wr ∙ laid-column l b h (Wr e) refl

  wi : c.wi ≡ column_number N (Wi e)
  wi = q.wi ∙ laid-column l b h (Wi e) refl

  pub series-same : (gb : GB) → landed_all x z nv (series_entries r c (series_of (branch_of b (l.n + e))) gb) ≡ series_stores N x z gb e
  unfolding series_entries in_turn
  series-same Conductance = rw (v ∙ laid-nvar l b h, pf, qf, pt, qt, from, to, wr, wi)
  series-same Susceptance = rw (v ∙ laid-nvar l b h, pf, qf, pt, qt, from, to, wr, wi)
