-- `operand_selector` of sens/conic.rs: one row of [x, z] of weight 1.0 for each item, and the sign.
use Rattle.std.specs.Prelude.{ℕ, List, length, Float}
use Rattle.lists.specs.UpTo.{listed}
use Rattle.refusals.specs.Refusals.{◌or_else◌, refuse_unless, Checked}
use Rattle.refusals.specs.declared.Refusal.TheVariants.{NotInSocWr}
use Rattle.records.specs.AcNetwork.{AcNetwork}
use Rattle.records.specs.Check.{check_of}
use Rattle.numbering.specs.Numbering.{column_number}
use Rattle.numbering.specs.declared.ColumnName.{ColumnName}
use Rattle.numbering.specs.declared.ColumnName.TheVariants.{Pg, Qg, W, Wr, Wi, Pf, Pt, Qf, Qt}
use Rattle.rows.specs.Rows.{constant64, one, minus_one}
use Rattle.interface.specs.declared.Power.{Power}
use Rattle.interface.specs.declared.Power.TheVariants.{Active, Reactive}
use Rattle.interface.specs.declared.End.{End}
use Rattle.interface.specs.declared.End.TheVariants.{From, To}
use Rattle.interface.specs.declared.VoltageKind.{VoltageKind}
use Rattle.interface.specs.declared.VoltageKind.TheVariants.{Magnitude, Angle, Squared, ProductReal, ProductImag}
use Rattle.interface.specs.declared.Operand.{Operand}
use Rattle.interface.specs.declared.Operand.TheVariants.{Price, Dispatch, Flow, Voltage}
use Rattle.interface.specs.Selectors.{selector_room}
use Rattle.interface.specs.declared.SelectorLists.{SelectorLists}
use Rattle.elements.specs.Lengths.{has_operand, operand_len}
use Rattle.elements.specs.Balance.{price_row}
use Rattle.kkt.specs.Kkt.{kkt_row}

abbrev pub dispatch_column : Power → ℕ → ColumnName
dispatch_column Active g = Pg g
dispatch_column Reactive g = Qg g

abbrev pub flow_of : Power → End → ℕ → ColumnName
flow_of Active From e = Pf e
flow_of Active To e = Pt e
flow_of Reactive From e = Qf e
flow_of Reactive To e = Qt e

module _ (G : AcNetwork Float) where
  -- SOCWR has no magnitude and no angle
  abbrev pub voltage_at : VoltageKind → ℕ → ℕ
  voltage_at Magnitude i = 0
  voltage_at Angle i = 0
  voltage_at Squared i = column_number G (W i)
  voltage_at ProductReal e = column_number G (Wr e)
  voltage_at ProductImag e = column_number G (Wi e)

  -- the row of item j: a price's is its balance row's
  abbrev pub selector_row : Operand → ℕ → ℕ
  selector_row (Price power) i = kkt_row G (price_row power i)
  selector_row (Dispatch power) g = column_number G (dispatch_column power g)
  selector_row (Flow power end) e = column_number G (flow_of power end e)
  selector_row (Voltage kind) j = voltage_at kind j

  -- the items' elements are 0, 1, ..
  unfoldable pub selector_rows : Operand → List ℕ
  selector_rows o = listed (operand_len G.n G.m G.k o) (selector_row o)

unfoldable pub selector_elements : ℕ → List ℕ
selector_elements items = listed items (λ j. j)

-- "a nodal price is −z on its balance row (−1)", all else is read straight
abbrev pub selector_sign : Operand → Float
selector_sign (Price power) = constant64 minus_one
selector_sign (Dispatch power) = constant64 one
selector_sign (Flow power end) = constant64 one
selector_sign (Voltage kind) = constant64 one

-- ---- 9, then 10 for the first of starts, rows, weights, elements that is too short
unfoldable pub operand_cause : (n m k : ℕ) → Operand → (starts rows weights elements : ℕ) → Checked
operand_cause n m k o starts rows weights elements =
    refuse_unless (has_operand o) NotInSocWr or_else selector_room (operand_len n m k o) starts rows weights elements

abbrev pub operand_check : (n m k s : ℕ) → List ℕ → Operand → (starts rows weights elements : ℕ) → Checked
operand_check n m k s b o starts rows weights elements = check_of n m k s b or_else operand_cause n m k o starts rows weights elements

-- the same of lists as they are lent
abbrev pub lists_cause : (n m k : ℕ) → Operand → SelectorLists → Checked
lists_cause n m k o t = operand_cause n m k o (length t.starts.now) (length t.rows.now) (length t.weights.now) (length t.elements.now)

abbrev pub lists_check : (n m k s : ℕ) → List ℕ → Operand → SelectorLists → Checked
lists_check n m k s b o t = check_of n m k s b or_else lists_cause n m k o t
