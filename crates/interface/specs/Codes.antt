-- C-ENTRIES.md, 'Codes, counted from 0': what a code names.
use Rattle.std.specs.Prelude.{ℕ, List, [], ◌∷◌, map, get_or, Option, Some, None}
use Rattle.interface.specs.declared.Power.TheVariants.{Active, Reactive}
use Rattle.interface.specs.declared.End.TheVariants.{From, To}
use Rattle.interface.specs.declared.VoltageKind.TheVariants.{Magnitude, Angle, Squared, ProductReal, ProductImag}
use Rattle.interface.specs.declared.CostTerm.TheVariants.{Quadratic, Linear}
use Rattle.interface.specs.declared.GB.TheVariants.{Conductance, Susceptance}
use Rattle.interface.specs.declared.Bound.TheVariants.{Min, Max}
use Rattle.interface.specs.declared.TapKind.TheVariants.{Ratio, PhaseShift}
use Rattle.interface.specs.declared.Operand.{Operand}
use Rattle.interface.specs.declared.Operand.TheVariants.{Price, Dispatch, Flow, Voltage}
use Rattle.interface.specs.declared.Parameter.{Parameter}
use Rattle.interface.specs.declared.Parameter.TheVariants.{Demand, Cost, LineLimit, SeriesAdmittance, ShuntAdmittance, VoltageBound, GenBound, Transformer, Switching, ConstraintLimit}
use Rattle.interface.specs.declared.Axis.{Axis}
use Rattle.interface.specs.declared.Axis.TheVariants.{Bus, Branch, Generator, Constraint}
use Rattle.interface.specs.declared.Mode.{Mode}
use Rattle.interface.specs.declared.Mode.TheVariants.{Forward, Adjoint, Auto}

abbrev pub parameters : List Parameter
parameters = Demand Active ∷ Demand Reactive ∷ Cost Quadratic ∷ Cost Linear ∷ LineLimit ∷ SeriesAdmittance Conductance ∷ SeriesAdmittance Susceptance ∷ ShuntAdmittance Conductance ∷ ShuntAdmittance Susceptance ∷ VoltageBound Min ∷ VoltageBound Max ∷ GenBound Active Min ∷ GenBound Active Max ∷ GenBound Reactive Min ∷ GenBound Reactive Max ∷ Transformer Ratio ∷ Transformer PhaseShift ∷ Switching ∷ ConstraintLimit ∷ []

abbrev pub parameter_at : ℕ → Option Parameter
parameter_at code = get_or (map Some parameters) code None

abbrev pub operands : List Operand
operands = Price Active ∷ Price Reactive ∷ Dispatch Active ∷ Dispatch Reactive ∷ Flow Active From ∷ Flow Active To ∷ Flow Reactive From ∷ Flow Reactive To ∷ Voltage Magnitude ∷ Voltage Angle ∷ Voltage Squared ∷ Voltage ProductReal ∷ Voltage ProductImag ∷ []

abbrev pub operand_at : ℕ → Option Operand
operand_at code = get_or (map Some operands) code None

abbrev pub axes : List Axis
axes = Bus ∷ Branch ∷ Generator ∷ Constraint ∷ []

abbrev pub axis_at : ℕ → Option Axis
axis_at code = get_or (map Some axes) code None

abbrev pub modes : List Mode
modes = Forward ∷ Adjoint ∷ Auto ∷ []

abbrev pub mode_at : ℕ → Option Mode
mode_at code = get_or (map Some modes) code None
