-- The stores of a shunt at a layout's numbers are those at the network's names. Assumes nothing.
use Rattle.std.proofs.Common.{ℕ, ◌+◌, ◌≡◌, refl, ap₂, List, [], ◌∷◌, get_or, Float}
use Rattle.std.specs.Float.{binary64, nan}
use Rattle.std.specs.Float.Ieee.{mul}
use Rattle.numbering.specs.Numbering.{row_number}
use Rattle.numbering.specs.Layout.{layout_row, layout_column}
use Rattle.numbering.specs.Laid.{net_of, Laid}
use Rattle.numbering.specs.declared.SocWrLayout.{SocWrLayout}
use Rattle.numbering.specs.declared.ColumnName.TheVariants.{W}
use Rattle.numbering.specs.declared.RowName.{RowName}
use Rattle.numbering.proofs.Laid.{laid-nvar, laid-column, laid-row}
use Rattle.kkt.specs.Kkt.{kkt_row}
use Rattle.interface.specs.declared.GB.{GB}
use Rattle.interface.specs.declared.GB.TheVariants.{Conductance, Susceptance}
use Rattle.admittance.specs.Stores.{plus}
use Rattle.admittance.specs.Admittance.{shunt_row, shunt_entry, shunt_stores}
use Rattle.admittance.specs.Places.{kkt_in}

module _ (l : SocWrLayout) (b : List ℕ) (h : Laid l b) where
  -- a row of the KKT matrix
  pub kkt-number : (r : RowName) → layout_row l r ≡ row_number (net_of l b) r → kkt_in l r ≡ kkt_row (net_of l b) r
  kkt-number r e = ap₂ ◌+◌ (laid-nvar l b h) e

  shunt-number : (gb : GB) (i : ℕ) → layout_row l (shunt_row gb i) ≡ row_number (net_of l b) (shunt_row gb i)
  shunt-number Conductance i = laid-row l b h (shunt_row Conductance i) refl
  shunt-number Susceptance i = laid-row l b h (shunt_row Susceptance i) refl

  pub shunt-same : (x z : List Float) (gb : GB) (i : ℕ)
      → plus (kkt_in l (shunt_row gb i)) (mul binary64 (shunt_entry gb) (get_or x (layout_column l (W i)) nan))
      ∷ plus (layout_column l (W i)) (mul binary64 (shunt_entry gb) (get_or z (layout_row l (shunt_row gb i)) nan)) ∷ []
      ≡ shunt_stores (net_of l b) x z gb i
  shunt-same x z gb i = rw (laid-nvar l b h, shunt-number gb i, laid-column l b h (W i) refl)
