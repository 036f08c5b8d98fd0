-- What an accepted operand has, and the selectors' lists. Assumes nothing.
use Rattle.refusals.specs.Refusals.{passed}
use Rattle.std.proofs.Common.{ℕ, ◌+◌, ◌≡◌, sym, ap, subst, true, T, [], ◌∷◌, ◌++◌, arith, Float}
use Rattle.lists.specs.UpTo.{listed}
use Rattle.lists.proofs.UpTo.{up_to-same}
use Rattle.refusals.proofs.Laws.{or_else_accepted, test-held}
use Rattle.records.specs.AcNetwork.{AcNetwork}
use Rattle.numbering.proofs.Numbers.{numbers}
use Rattle.interface.specs.declared.Power.TheVariants.{Active, Reactive}
use Rattle.interface.specs.declared.End.TheVariants.{From, To}
use Rattle.interface.specs.declared.VoltageKind.TheVariants.{Magnitude, Angle, Squared, ProductReal, ProductImag}
use Rattle.interface.specs.declared.Operand.{Operand}
use Rattle.interface.specs.declared.Operand.TheVariants.{Price, Dispatch, Flow, Voltage}
use Rattle.elements.specs.Lengths.{has_operand, operand_len}
use Rattle.interface.proofs.Selectors.{Room, roomy}
use Rattle.operands.specs.Selector.{selector_row, selector_rows, operand_cause}

-- ---- what an accepted operand has
module _ (n m k : ℕ) (o : Operand) (starts rows weights elements : ℕ) where
  pub record Fitting : Type 0 where
    pub has : has_operand o ≡ true
    pub room : Room (operand_len n m k o) starts rows weights elements

  pub fitting : operand_cause n m k o starts rows weights elements ≡ passed → Fitting
  unfolding operand_cause
  fitting h =
      let a = or_else_accepted _ _ h in
      record { has = test-held _ _ a.0; room = roomy _ _ _ _ _ a.1 }

-- ---- the items of an operand stand one after the other
module _ (G : AcNetwork Float) where
  pub rows-count : (o : Operand) → has_operand o ≡ true → (j : ℕ) → selector_row G o 0 + j ≡ selector_row G o j
  rows-count (Price Active) h j = simp numbers (omega arith)
  rows-count (Price Reactive) h j = simp numbers (omega arith)
  rows-count (Dispatch Active) h j = simp numbers (omega arith)
  rows-count (Dispatch Reactive) h j = simp numbers (omega arith)
  rows-count (Flow Active From) h j = simp numbers (omega arith)
  rows-count (Flow Active To) h j = simp numbers (omega arith)
  rows-count (Flow Reactive From) h j = simp numbers (omega arith)
  rows-count (Flow Reactive To) h j = simp numbers (omega arith)
  rows-count (Voltage Magnitude) h j = absurd (subst T (sym h) tt)
  rows-count (Voltage Angle) h j = absurd (subst T (sym h) tt)
  rows-count (Voltage Squared) h j = simp numbers (omega arith)
  rows-count (Voltage ProductReal) h j = simp numbers (omega arith)
  rows-count (Voltage ProductImag) h j = simp numbers (omega arith)

  pub rows-listed : (o : Operand) → has_operand o ≡ true → (items : ℕ) → items ≡ operand_len G.n G.m G.k o → listed items (λ j. selector_row G o 0 + j) ≡ selector_rows G o
  unfolding selector_rows
  rows-listed o h items e = rw e (up_to-same ◌++◌ [] _ _ _ (λ j l. ap (λ (x : ℕ). x ∷ []) (rows-count o h j)))
