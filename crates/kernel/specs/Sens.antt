-- The entries of columns, selectors, lengths and ids, by codes.
use Rattle.std.specs.Prelude.{ℕ, ◌≡◌, false, List, Option, Some, None, Result}
use Rattle.refusals.specs.Refusals.{◌or_else◌, refuse_unless, answer_if, answer_number}
use Rattle.refusals.specs.declared.Refusal.{Refusal}
use Rattle.refusals.specs.declared.Refusal.TheVariants.{PastEnd}
use Rattle.records.specs.Network.{network_of}
use Rattle.records.specs.Check.{check_of}
use Rattle.interface.specs.declared.Parameter.{Parameter}
use Rattle.interface.specs.declared.Parameter.TheVariants.{ConstraintLimit}
use Rattle.interface.specs.declared.Operand.{Operand}
use Rattle.interface.specs.declared.Operand.TheVariants.{Voltage}
use Rattle.interface.specs.declared.VoltageKind.TheVariants.{Magnitude}
use Rattle.interface.specs.declared.Axis.{Axis}
use Rattle.interface.specs.Selectors.{selected_value, selected_sign}
use Rattle.interface.specs.declared.Items.{Items}
use Rattle.elements.specs.Ids.{element_id, id_check}
use Rattle.elements.specs.declared.ElementId.{ElementId}
use Rattle.elements.specs.declared.ElementId.TheVariants.{Constraint}
use Rattle.kernel.specs.declared.sens.Selector.{Selector}

-- "A code that names nothing .. of a parameter or an operand it is number 9 with 0", at 9's place: as one that SOCWR lacks
abbrev pub parameter_named : Option Parameter → Parameter
parameter_named (Some p) = p
parameter_named None = ConstraintLimit

abbrev pub operand_named : Option Operand → Operand
operand_named (Some o) = o
operand_named None = Voltage Magnitude

-- "A code that names nothing (.. of an axis ..) is number 7 with the code", after the record check
abbrev pub id_at : (n m k s : ℕ) → List ℕ → Option Axis → (code index : ℕ) → Result ElementId Refusal
id_at n m k s b (Some axis) code index = answer_if (id_check n m k s b axis index) (element_id (network_of n m k s b) axis index)
id_at n m k s b None code index = answer_if (check_of n m k s b or_else refuse_unless false (PastEnd code)) (Constraint index)

-- `socwr_selector`: "sign 0.0 on a refusal"
pub record SelectorAnswer (a : Result Items Refusal) (r : Selector) : Type 0 where
  pub number : r.number ≡ answer_number a
  pub value : r.value ≡ selected_value a
  pub sign : r.sign ≡ selected_sign a
