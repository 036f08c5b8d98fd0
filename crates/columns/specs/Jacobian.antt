-- `parameter_jacobian` of sens/conic.rs: one column of nvar + ncon floats. "row r of the program is KKT row nvar + r."
use Rattle.std.specs.Prelude.{ℕ, ◌+◌, not, ◌&&◌, List, [], ◌∷◌, ltb, get_or, replicate, Float}
use Rattle.std.specs.Float.{binary64, nan}
use Rattle.std.specs.Float.Ieee.{mul}
use Rattle.lists.specs.UpTo.{each, when}
use Rattle.refusals.specs.Refusals.{◌or_else◌, refuse_unless, room_for, Checked}
use Rattle.refusals.specs.declared.Refusal.TheVariants.{PastEnd, PiecewiseCost, NotInSocWr}
use Rattle.records.specs.AcNetwork.{AcNetwork}
use Rattle.records.specs.Network.{network_of}
use Rattle.records.specs.Check.{check_of}
use Rattle.numbering.specs.Numbering.{nvar, ncon, column_number, row_number}
use Rattle.numbering.specs.declared.ColumnName.TheVariants.{Pg}
use Rattle.numbering.specs.declared.RowName.{RowName}
use Rattle.numbering.specs.declared.RowName.TheVariants.{Thermal}
use Rattle.rows.specs.Rows.{minus_one, constant64, zero64}
use Rattle.kkt.specs.Kkt.{kkt_row}
use Rattle.interface.specs.declared.Parameter.{Parameter}
use Rattle.interface.specs.declared.Parameter.TheVariants.{Demand, Cost, LineLimit, SeriesAdmittance, ShuntAdmittance, VoltageBound, GenBound, Transformer, Switching, ConstraintLimit}
use Rattle.solution.specs.Lengths.{solution_cause}
use Rattle.elements.specs.Lengths.{has_parameter, parameter_len, asks_cost}
use Rattle.elements.specs.Balance.{price_row}
use Rattle.admittance.specs.Stores.{Store, put, stored_all}
use Rattle.admittance.specs.Admittance.{x_at, z_at, shunt_stores, series_stores}
use Rattle.plain_columns.specs.Cases.{voltage_row, gen_row, dbdp, cost_slope}

module _ (G : AcNetwork Float) where
  -- the length of a column
  abbrev pub dim : ℕ
  dim = nvar G + ncon G

  -- the rows of a limited branch's two cones hold their z; a branch without limit has none
  abbrev pub limit_stores : List Float → ℕ → List Store
  limit_stores z e = when (G.limited e) (each 6 (λ q. put (kkt_row G (Thermal e q)) (get_or z (row_number G (Thermal e q)) nan) ∷ []))

  module _ (x z : List Float) where
    -- a bound's row: z times db/dp
    abbrev pub bound_store : RowName → Float → List Store
    bound_store r dbdp = put (kkt_row G r) (mul binary64 (z_at G z r) dbdp) ∷ []

    unfoldable pub stores : Parameter → ℕ → List Store
    stores (Demand power) i = put (kkt_row G (price_row power i)) (constant64 minus_one) ∷ []
    stores LineLimit e = limit_stores z e
    stores (VoltageBound bound) i = bound_store (voltage_row bound i) (dbdp bound)
    stores (GenBound power bound) g = bound_store (gen_row power bound g) (dbdp bound)
    stores (Cost term) g = put (column_number G (Pg g)) (cost_slope term (x_at G x (Pg g))) ∷ []
    stores (ShuntAdmittance gb) i = shunt_stores G x z gb i
    stores (SeriesAdmittance gb) e = series_stores G x z gb e
    stores (Transformer tap) i = []
    stores Switching i = []
    stores ConstraintLimit i = []

    -- "zeros elsewhere", and the sums start at +0.0
    unfoldable pub jacobian : Parameter → ℕ → List Float
    jacobian p i = stored_all (stores p i) (replicate dim zero64)

-- ---- what turns a column away: 6, 9, 7, 8, 10

module _ (G : AcNetwork Float) where
  -- 8: "cost asked of a piecewise generator", "its id"
  unfoldable pub piecewise_cause : Parameter → ℕ → Checked
  piecewise_cause p i = refuse_unless (not (asks_cost p && G.piecewise i)) (PiecewiseCost (G.gen_id i))

  -- 9; 7 "index not below its axis"; 8
  unfoldable pub parameter_cause : Parameter → ℕ → Checked
  parameter_cause p i =
      refuse_unless (has_parameter p) NotInSocWr
      or_else refuse_unless (ltb i (parameter_len G.n G.m G.k p)) (PastEnd i)
      or_else piecewise_cause p i

  unfoldable pub column_cause : Parameter → (i xs zs there : ℕ) → Checked
  column_cause p i xs zs there = solution_cause G xs zs or_else parameter_cause p i or_else room_for (dim G) there

abbrev pub jacobian_check : (n m k s : ℕ) → List ℕ → Parameter → (i xs zs there : ℕ) → Checked
jacobian_check n m k s b p i xs zs there = check_of n m k s b or_else column_cause (network_of n m k s b) p i xs zs there
