-- The numbers that a layout gives are those of its network, and few. Assumes nothing.
use Rattle.std.proofs.Common.{ℕ, ◌≤◌, ◌≡◌, refl, List, arith}
use Rattle.numbering.specs.Numbering.{column_number}
use Rattle.numbering.specs.Layout.{layout_column}
use Rattle.numbering.specs.Laid.{net_of, Laid}
use Rattle.numbering.specs.declared.SocWrLayout.{SocWrLayout}
use Rattle.numbering.proofs.Numbers.{numbers}
use Rattle.numbering.proofs.Laid.{curves_are, laid-column}
use Rattle.interface.specs.declared.Power.{Power}
use Rattle.interface.specs.declared.Power.TheVariants.{Active, Reactive}
use Rattle.interface.specs.declared.End.{End}
use Rattle.interface.specs.declared.End.TheVariants.{From, To}
use Rattle.interface.specs.declared.VoltageKind.TheVariants.{Magnitude, Angle, Squared, ProductReal, ProductImag}
use Rattle.interface.specs.declared.Operand.{Operand}
use Rattle.interface.specs.declared.Operand.TheVariants.{Price, Dispatch, Flow, Voltage}
use Rattle.elements.specs.Lengths.{operand_len}
use Rattle.operands.specs.Selector.{dispatch_column, flow_of, selector_row}

module _ (l : SocWrLayout) (b : List ℕ) (h : Laid l b) where
  pub dispatch_number : (power : Power) (g : ℕ) → layout_column l (dispatch_column power g) ≡ column_number (net_of l b) (dispatch_column power g)
  dispatch_number Active g = laid-column l b h (dispatch_column Active g) refl
  dispatch_number Reactive g = laid-column l b h (dispatch_column Reactive g) refl

  pub flow-number : (power : Power) (end : End) (e : ℕ) → layout_column l (flow_of power end e) ≡ column_number (net_of l b) (flow_of power end e)
  flow-number Active From e = laid-column l b h (flow_of Active From e) refl
  flow-number Active To e = laid-column l b h (flow_of Active To e) refl
  flow-number Reactive From e = laid-column l b h (flow_of Reactive From e) refl
  flow-number Reactive To e = laid-column l b h (flow_of Reactive To e) refl

  -- the first row of an operand, and how many it has
  pub row-few : (o : Operand) → selector_row (net_of l b) o 0 ≤ 131072
  row-few (Price Active) = simp numbers (omega (arith, curves_are l b h, h.range))
  row-few (Price Reactive) = simp numbers (omega (arith, curves_are l b h, h.range))
  row-few (Dispatch Active) = simp numbers (omega (arith, h.range))
  row-few (Dispatch Reactive) = simp numbers (omega (arith, h.range))
  row-few (Flow Active From) = simp numbers (omega (arith, h.range))
  row-few (Flow Active To) = simp numbers (omega (arith, h.range))
  row-few (Flow Reactive From) = simp numbers (omega (arith, h.range))
  row-few (Flow Reactive To) = simp numbers (omega (arith, h.range))
  row-few (Voltage Magnitude) = omega arith
  row-few (Voltage Angle) = omega arith
  row-few (Voltage Squared) = simp numbers (omega (arith, h.range))
  row-few (Voltage ProductReal) = simp numbers (omega (arith, h.range))
  row-few (Voltage ProductImag) = simp numbers (omega (arith, h.range))

pub items-few : (n m k : ℕ) (o : Operand) → n ≤ 4096 → m ≤ 8192 → k ≤ 4096 → operand_len n m k o ≤ 8192
items-few n m k (Price power) a b c = omega arith
items-few n m k (Dispatch power) a b c = omega arith
items-few n m k (Flow power end) a b c = b
items-few n m k (Voltage Magnitude) a b c = omega arith
items-few n m k (Voltage Angle) a b c = omega arith
items-few n m k (Voltage Squared) a b c = omega arith
items-few n m k (Voltage ProductReal) a b c = b
items-few n m k (Voltage ProductImag) a b c = b
