-- The ten entries of d_a by a branch's series conductance or susceptance (`parameter_jacobian`, SeriesAdmittance), in the order of the code.
use Rattle.std.specs.Prelude.{List, [], ◌∷◌}
use Rattle.ring.specs.Ops.{Ops}
use Rattle.rows.specs.Rows.{Coefficient, over, constant, one, minus_one, OhmPlace, w, wr, wi}
use Rattle.rows.specs.declared.OhmRow.{OhmRow}
use Rattle.rows.specs.declared.OhmRow.TheVariants.{Pf as pf, Qf as qf, Pt as pt, Qt as qt}
use Rattle.interface.specs.declared.GB.{GB}
use Rattle.interface.specs.declared.GB.TheVariants.{Conductance, Susceptance}

-- an Ohm row, one of its columns, and the entry there
pub record Slope (A : Type 0) : Type 0 where
  pub row : OhmRow
  pub place : OhmPlace
  pub value : Coefficient A

abbrev pub slope : {A : Type 0} → OhmRow → OhmPlace → Coefficient A → Slope A
slope r p v = record { row = r; place = p; value = v }

module _ {A : Type 0} (o : Ops A) (tr ti : A) where
  open o use {neg, one as unit}

  abbrev pub series : GB → List (Slope A)
  series Conductance =
      slope pf w (over (neg unit))
      ∷ slope pf wr (over tr)
      ∷ slope pf wi (over ti)
      ∷ slope qf wr (over (neg ti))
      ∷ slope qf wi (over tr)
      ∷ slope pt w (constant minus_one)
      ∷ slope pt wr (over tr)
      ∷ slope pt wi (over ti)
      ∷ slope qt wr (over ti)
      ∷ slope qt wi (over (neg tr))
      ∷ []
  series Susceptance =
      slope pf wr (over (neg ti))
      ∷ slope pf wi (over tr)
      ∷ slope qf w (over unit)
      ∷ slope qf wr (over (neg tr))
      ∷ slope qf wi (over (neg ti))
      ∷ slope pt wr (over ti)
      ∷ slope pt wi (over (neg tr))
      ∷ slope qt w (constant one)
      ∷ slope qt wr (over (neg tr))
      ∷ slope qt wi (over (neg ti))
      ∷ []
