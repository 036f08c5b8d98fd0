-- The entries of a column times any x, over any operations, 2 tm2 fold as `Scaled.row`.
use Rattle.std.specs.Prelude.{ℕ, cond, List, [], ◌∷◌, eqb}
use Rattle.records.specs.AcNetwork.{AcNetwork}
use Rattle.rows.specs.Branch.{branch_at}
use Rattle.numbering.specs.declared.ColumnName.{ColumnName}
use Rattle.numbering.specs.declared.ColumnName.TheVariants.{W}
use Rattle.ring.specs.Ops.{Ops}
use Rattle.rows.specs.Rows.{constant, ohm_column}
use Rattle.rows.specs.declared.OhmRow.{OhmRow}
use Rattle.rows.specs.declared.OhmRow.TheVariants.{Pf as pf, Qf as qf, Pt as pt, Qt as qt}
use Rattle.rows.specs.Scaled.{scaled}
use Rattle.interface.specs.declared.GB.{GB}
use Rattle.admittance.specs.Series.{Slope, series}
use Rattle.admittance.specs.Admittance.{shunt_constant}

abbrev pub code : OhmRow → ℕ
code pf = 0
code qf = 1
code pt = 2
code qt = 3

module _ {A : Type 0} (o : Ops A) (x : ColumnName → A) (G : AcNetwork A) where
  infixl 60 ◌+◌
  infixl 70 ◌*◌
  open o use {zero, ◌+◌, ◌*◌}

  -- of the series entries of branch e, those in its Ohm row r, times x
  abbrev pub slopes_at : ℕ → OhmRow → List (Slope A) → A
  slopes_at e r [] = zero
  slopes_at e r (s ∷ ss) =
      cond (eqb (code s.row) (code r)) (scaled o (branch_at o G e).tm2 s.value * x (ohm_column G s.row s.place e) + slopes_at e r ss) (slopes_at e r ss)

  abbrev pub series_row : GB → ℕ → OhmRow → A
  series_row gb e r = slopes_at e r (series o (branch_at o G e).tr (branch_at o G e).ti gb)

  -- the shunt entry of bus i times x
  abbrev pub shunt_times : GB → ℕ → A
  shunt_times gb i = scaled o o.one (constant (shunt_constant gb)) * x (W i)
