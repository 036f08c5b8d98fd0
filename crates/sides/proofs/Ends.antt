-- The blocks that are written from their first row on end among all rows. Assumes nothing.
use Rattle.std.proofs.Common.{◌+◌, ◌*◌, ◌≤◌, arith}
use Rattle.numbering.specs.Layout.{layout_row, ncon_of}
use Rattle.numbering.specs.declared.SocWrLayout.{SocWrLayout}
use Rattle.numbering.specs.declared.RowName.TheVariants.{OhmPf, OhmQf, OhmPt, OhmQt, Segment, Jabr}
use Rattle.numbering.proofs.Numbers.{layout_row_lem, layout-ncon}

module _ (l : SocWrLayout) where
  pub pf_ends : layout_row l (OhmPf 0) + l.m ≤ ncon_of l
  pf_ends = omega (arith, layout_row_lem l (OhmPf 0), layout-ncon l)

  pub qf_ends : layout_row l (OhmQf 0) + l.m ≤ ncon_of l
  qf_ends = omega (arith, layout_row_lem l (OhmQf 0), layout-ncon l)

  pub pt_ends : layout_row l (OhmPt 0) + l.m ≤ ncon_of l
  pt_ends = omega (arith, layout_row_lem l (OhmPt 0), layout-ncon l)

  pub qt_ends : layout_row l (OhmQt 0) + l.m ≤ ncon_of l
  qt_ends = omega (arith, layout_row_lem l (OhmQt 0), layout-ncon l)

  pub segments_end : layout_row l (Segment 0 0) + l.s ≤ ncon_of l
  segments_end = omega (arith, layout_row_lem l (Segment 0 0), layout-ncon l)

  pub jabr_ends : layout_row l (Jabr 0 0) + 4 * l.m ≤ ncon_of l
  jabr_ends = omega (arith, layout_row_lem l (Jabr 0 0), layout-ncon l)
