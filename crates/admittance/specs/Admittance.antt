-- `parameter_jacobian`, ShuntAdmittance and SeriesAdmittance: what an entry of d_a adds to a column of the KKT system.
use Rattle.std.specs.Prelude.{ℕ, List, [], ◌∷◌, ◌++◌, get_or, Float}
use Rattle.std.specs.Float.{binary64, nan}
use Rattle.std.specs.Float.Ieee.{mul}
use Rattle.records.specs.AcNetwork.{AcNetwork}
use Rattle.rows.specs.Branch.{branch_at}
use Rattle.numbering.specs.Numbering.{column_number, row_number}
use Rattle.numbering.specs.declared.ColumnName.{ColumnName}
use Rattle.numbering.specs.declared.ColumnName.TheVariants.{W}
use Rattle.numbering.specs.declared.RowName.{RowName}
use Rattle.numbering.specs.declared.RowName.TheVariants.{Pbal, Qbal}
use Rattle.ring.specs.Ops.{rounded}
use Rattle.rows.specs.Rows.{Constant, one, minus_one, constant64, value64, ohm_row, ohm_column}
use Rattle.kkt.specs.Kkt.{kkt_row}
use Rattle.interface.specs.declared.GB.{GB}
use Rattle.interface.specs.declared.GB.TheVariants.{Conductance, Susceptance}
use Rattle.admittance.specs.Stores.{Store, plus}
use Rattle.admittance.specs.Series.{series}

-- gs is in A as -gs, in the active balance; bs as it is, in the reactive one
abbrev pub shunt_row : GB → ℕ → RowName
shunt_row Conductance i = Pbal i
shunt_row Susceptance i = Qbal i

abbrev pub shunt_constant : GB → Constant
shunt_constant Conductance = minus_one
shunt_constant Susceptance = one

abbrev pub shunt_entry : GB → Float
shunt_entry gb = constant64 (shunt_constant gb)

-- every element's stores, in order
unfoldable pub in_turn : {A : Type 0} → (A → List Store) → List A → List Store
in_turn f [] = []
in_turn f (a ∷ rest) = f a ++ in_turn f rest

module _ (G : AcNetwork Float) where
  -- x at a column, z at a row
  abbrev pub x_at : List Float → ColumnName → Float
  x_at x c = get_or x (column_number G c) nan

  abbrev pub z_at : List Float → RowName → Float
  z_at z r = get_or z (row_number G r) nan

  module _ (x z : List Float) where
    -- an entry da of d_a: d_a x on the row's residual, and d_a' z on the column's stationarity row
    abbrev pub landed : RowName → ColumnName → Float → List Store
    landed r c da = plus (kkt_row G r) (mul binary64 da (x_at x c)) ∷ plus (column_number G c) (mul binary64 da (z_at z r)) ∷ []

    -- the one entry of a bus's shunt
    abbrev pub shunt_stores : GB → ℕ → List Store
    shunt_stores gb i = landed (shunt_row gb i) (W i) (shunt_entry gb)

    -- the ten entries of a branch's series admittance
    abbrev pub series_stores : GB → ℕ → List Store
    series_stores gb e =
        in_turn (λ d. landed (ohm_row d.row e) (ohm_column G d.row d.place e) (value64 (branch_at rounded G e).tm2 d.value))
        (series rounded (branch_at rounded G e).tr (branch_at rounded G e).ti gb)
