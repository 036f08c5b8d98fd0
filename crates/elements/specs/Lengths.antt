-- `parameter_len` and `operand_len` of sens/conic.rs: which parameters and operands SOCWR has, and over how many elements each ranges.
use Rattle.std.specs.Prelude.{ℕ, Bool, true, false, List}
use Rattle.refusals.specs.Refusals.{◌or_else◌, refuse_unless, Checked}
use Rattle.refusals.specs.declared.Refusal.TheVariants.{NotInSocWr}
use Rattle.records.specs.Check.{check_of}
use Rattle.interface.specs.declared.Parameter.{Parameter}
use Rattle.interface.specs.declared.Parameter.TheVariants.{Demand, Cost, LineLimit, SeriesAdmittance, ShuntAdmittance, VoltageBound, GenBound, Transformer, Switching, ConstraintLimit}
use Rattle.interface.specs.declared.Operand.{Operand}
use Rattle.interface.specs.declared.Operand.TheVariants.{Price, Dispatch, Flow, Voltage}
use Rattle.interface.specs.declared.VoltageKind.{VoltageKind}
use Rattle.interface.specs.declared.VoltageKind.TheVariants.{Magnitude, Angle, Squared, ProductReal, ProductImag}

-- the Rust's answer is Some
abbrev pub has_parameter : Parameter → Bool
has_parameter (Demand power) = true
has_parameter (Cost term) = true
has_parameter LineLimit = true
has_parameter (SeriesAdmittance gb) = true
has_parameter (ShuntAdmittance gb) = true
has_parameter (VoltageBound bound) = true
has_parameter (GenBound power bound) = true
has_parameter (Transformer tap) = false
has_parameter Switching = false
has_parameter ConstraintLimit = false

abbrev pub has_voltage : VoltageKind → Bool
has_voltage Magnitude = false
has_voltage Angle = false
has_voltage Squared = true
has_voltage ProductReal = true
has_voltage ProductImag = true

abbrev pub has_operand : Operand → Bool
has_operand (Price power) = true
has_operand (Dispatch power) = true
has_operand (Flow power end) = true
has_operand (Voltage kind) = has_voltage kind

-- and this is what it holds, of n buses, m branches and k generators; 0 where it is None
abbrev pub parameter_len : (n m k : ℕ) → Parameter → ℕ
parameter_len n m k (Demand power) = n
parameter_len n m k (Cost term) = k
parameter_len n m k LineLimit = m
parameter_len n m k (SeriesAdmittance gb) = m
parameter_len n m k (ShuntAdmittance gb) = n
parameter_len n m k (VoltageBound bound) = n
parameter_len n m k (GenBound power bound) = k
parameter_len n m k (Transformer tap) = 0
parameter_len n m k Switching = 0
parameter_len n m k ConstraintLimit = 0

abbrev pub voltage_len : (n m : ℕ) → VoltageKind → ℕ
voltage_len n m Magnitude = 0
voltage_len n m Angle = 0
voltage_len n m Squared = n
voltage_len n m ProductReal = m
voltage_len n m ProductImag = m

abbrev pub operand_len : (n m k : ℕ) → Operand → ℕ
operand_len n m k (Price power) = n
operand_len n m k (Dispatch power) = k
operand_len n m k (Flow power end) = m
operand_len n m k (Voltage kind) = voltage_len n m kind

-- whether a parameter is a coefficient of a generator's cost
abbrev pub asks_cost : Parameter → Bool
asks_cost (Demand power) = false
asks_cost (Cost term) = true
asks_cost LineLimit = false
asks_cost (SeriesAdmittance gb) = false
asks_cost (ShuntAdmittance gb) = false
asks_cost (VoltageBound bound) = false
asks_cost (GenBound power bound) = false
asks_cost (Transformer tap) = false
asks_cost Switching = false
asks_cost ConstraintLimit = false

-- ---- the entries: the record check, then 9 ("A length answer of None is number 9")
abbrev pub parameter_len_check : (n m k s : ℕ) → List ℕ → Parameter → Checked
parameter_len_check n m k s b p = check_of n m k s b or_else refuse_unless (has_parameter p) NotInSocWr

abbrev pub operand_len_check : (n m k s : ℕ) → List ℕ → Operand → Checked
operand_len_check n m k s b o = check_of n m k s b or_else refuse_unless (has_operand o) NotInSocWr
