-- A in the parts in which the code writes it, and the most entries that it can have.
use Rattle.std.specs.Prelude.{ℕ, ◌+◌, ◌*◌, ◌≤◌, List, ◌++◌, ◌⊎◌, length, Float}
use Rattle.lists.specs.UpTo.{each, listed}
use Rattle.lists.specs.Entries.{Cell}
use Rattle.lists.specs.Compressed.{joined}
use Rattle.records.specs.AcNetwork.{AcNetwork}
use Rattle.numbering.specs.declared.SocWrLayout.{SocWrLayout}
use Rattle.numbering.specs.Laid.{net_of}
use Rattle.rows.specs.declared.OhmRow.TheVariants.{Pf as pf, Qf as qf, Pt as pt, Qt as qt}
use Rattle.rows.specs.Program.{matrix}
use Rattle.matrix.specs.Columns.{pg_cells, qg_cells, wr_cells, wi_cells, flow_cells}
use Rattle.record_columns.specs.Writers.{cost_turn}

module _ (G : AcNetwork Float) where
  -- pg and qg
  unfoldable pub generator_columns : List (List Cell)
  generator_columns = listed G.k (pg_cells G) ++ listed G.k (qg_cells G)

  -- wr and wi
  unfoldable pub product_columns : List (List Cell)
  product_columns = listed G.m (wr_cells G) ++ listed G.m (wi_cells G)

  -- pf, pt, qf and qt
  unfoldable pub flow_columns : List (List Cell)
  flow_columns = listed G.m (flow_cells G pf) ++ listed G.m (flow_cells G pt) ++ listed G.m (flow_cells G qf) ++ listed G.m (flow_cells G qt)

  -- those behind the bus columns
  unfoldable pub branch_columns : List (List Cell)
  branch_columns = product_columns ++ flow_columns ++ each G.k (cost_turn G)

-- the most entries that A can have with these counts
abbrev pub most_a : SocWrLayout → ℕ
most_a l = 4 * l.n + 34 * l.m + 6 * l.k + 2 * l.s

-- the values hold the most entries that A can have, or those that it has
abbrev pub Roomy : SocWrLayout → List ℕ → List Float → Type 0
Roomy l bytes vs = (most_a l ≤ length vs) ⊎ (length (joined (matrix (net_of l bytes))) ≤ length vs)
