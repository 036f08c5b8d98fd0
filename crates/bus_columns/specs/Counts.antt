-- The cells of the bus columns by record, as they are counted.
use Rattle.std.specs.Prelude.{ℕ, List, ◌++◌, Float}
use Rattle.lists.specs.Entries.{Cell}
use Rattle.records.specs.AcNetwork.{AcNetwork}
use Rattle.rows.specs.declared.OhmRow.TheVariants.{Pf as pf, Qf as qf, Pt as pt, Qt as qt}
use Rattle.matrix.specs.Columns.{shunt_cells, ohm_cell, bound_cells, cone_from, cone_to}

module _ (G : AcNetwork Float) where
  -- of bus i in its own rows
  unfoldable pub own_cells : ℕ → List Cell
  own_cells i = shunt_cells G i ++ bound_cells G i

  -- of branch e in the column of its from bus, and of its to bus
  unfoldable pub from_cells : ℕ → List Cell
  from_cells e = ohm_cell G pf e ++ ohm_cell G qf e ++ cone_from G e

  unfoldable pub to_cells : ℕ → List Cell
  to_cells e = ohm_cell G pt e ++ ohm_cell G qt e ++ cone_to G e
