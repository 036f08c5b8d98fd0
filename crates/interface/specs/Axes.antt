-- `Operand::axis` and `Parameter::axis` of sens/interface.rs.
use Rattle.interface.specs.declared.VoltageKind.{VoltageKind}
use Rattle.interface.specs.declared.VoltageKind.TheVariants.{Magnitude, Angle, Squared, ProductReal, ProductImag}
use Rattle.interface.specs.declared.Operand.{Operand}
use Rattle.interface.specs.declared.Operand.TheVariants.{Price, Dispatch, Flow, Voltage}
use Rattle.interface.specs.declared.Parameter.{Parameter}
use Rattle.interface.specs.declared.Parameter.TheVariants.{Demand, Cost, LineLimit, SeriesAdmittance, ShuntAdmittance, VoltageBound, GenBound, Transformer, Switching, ConstraintLimit}
use Rattle.interface.specs.declared.Axis.{Axis}
use Rattle.interface.specs.declared.Axis.TheVariants.{Bus, Branch, Generator, Constraint}

-- the products of two voltages live on branches, the others on buses
abbrev pub voltage_axis : VoltageKind → Axis
voltage_axis Magnitude = Bus
voltage_axis Angle = Bus
voltage_axis Squared = Bus
voltage_axis ProductReal = Branch
voltage_axis ProductImag = Branch

abbrev pub operand_axis : Operand → Axis
operand_axis (Price power) = Bus
operand_axis (Dispatch power) = Generator
operand_axis (Flow power end) = Branch
operand_axis (Voltage kind) = voltage_axis kind

abbrev pub parameter_axis : Parameter → Axis
parameter_axis (Demand power) = Bus
parameter_axis (Cost term) = Generator
parameter_axis LineLimit = Branch
parameter_axis (SeriesAdmittance gb) = Branch
parameter_axis (ShuntAdmittance gb) = Bus
parameter_axis (VoltageBound bound) = Bus
parameter_axis (GenBound power bound) = Generator
parameter_axis (Transformer tap) = Branch
parameter_axis Switching = Branch
parameter_axis ConstraintLimit = Constraint
