-- q as the code writes it.
use Rattle.std.specs.Prelude.{ℕ, List, Float}
use Rattle.ring.specs.Ops.{rounded}
use Rattle.numbering.specs.Laid.{net_of}
use Rattle.numbering.specs.declared.SocWrLayout.{SocWrLayout}
use Rattle.numbering.specs.declared.ColumnName.TheVariants.{Pg}
use Rattle.rows.specs.Program.{linear_at}

-- q at pg g: cl is added to 0
unfoldable pub linear_cost : SocWrLayout → List ℕ → ℕ → Float
linear_cost l bytes g = linear_at rounded (net_of l bytes) (Pg g)
