-- P as the code writes it.
use Rattle.std.specs.Prelude.{ℕ, List, Float}
use Rattle.std.specs.Float.Ieee.{ne}
use Rattle.lists.specs.UpTo.{bit, sum}
use Rattle.lists.specs.Entries.{Cell}
use Rattle.numbering.specs.declared.SocWrLayout.{SocWrLayout}
use Rattle.numbering.specs.declared.ColumnName.TheVariants.{Pg}
use Rattle.numbering.specs.Layout.{layout_column}
use Rattle.numbering.specs.Laid.{net_of}
use Rattle.ring.specs.Ops.{rounded}
use Rattle.rows.specs.Rows.{zero64}
use Rattle.rows.specs.Program.{curvature}
use Rattle.matrix.specs.Columns.{nonzero_cell}

-- P at pg g: twice its quadratic cost
abbrev pub quad_value : SocWrLayout → List ℕ → ℕ → Float
quad_value l bytes g = curvature rounded (net_of l bytes) g

-- the column of pg g
unfoldable pub quad_cells : SocWrLayout → List ℕ → ℕ → List Cell
quad_cells l bytes g = nonzero_cell (layout_column l (Pg g)) (quad_value l bytes g)

-- how many of the first n generators have an entry
unfoldable pub quad_count : SocWrLayout → List ℕ → ℕ → ℕ
quad_count l bytes n = sum n (λ g. bit (ne (quad_value l bytes g) zero64))
