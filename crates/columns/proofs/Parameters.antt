-- The stores of each parameter at a layout's numbers are those at the network's names. Assumes nothing.
use Rattle.std.proofs.Common.{ℕ, ◌≡◌, refl, ap, ap₂, List, [], ◌∷◌, get_or, Float}
use Rattle.std.specs.Float.{binary64, nan}
use Rattle.std.specs.Float.Ieee.{mul}
use Rattle.numbering.specs.Numbering.{row_number}
use Rattle.numbering.specs.Layout.{layout_row, layout_column}
use Rattle.numbering.specs.Laid.{net_of, Laid}
use Rattle.numbering.specs.declared.SocWrLayout.{SocWrLayout}
use Rattle.numbering.specs.declared.ColumnName.TheVariants.{Pg}
use Rattle.numbering.specs.declared.RowName.{RowName}
use Rattle.numbering.proofs.Laid.{laid-column}
use Rattle.rows.specs.Rows.{minus_one, constant64}
use Rattle.kkt.specs.Kkt.{kkt_row}
use Rattle.interface.specs.declared.Power.{Power}
use Rattle.interface.specs.declared.Bound.{Bound}
use Rattle.interface.specs.declared.CostTerm.{CostTerm}
use Rattle.interface.specs.declared.Parameter.TheVariants.{Demand, Cost, VoltageBound, GenBound}
use Rattle.elements.specs.Balance.{price_row}
use Rattle.elements.proofs.Balance.{balance-number}
use Rattle.admittance.specs.Stores.{put}
use Rattle.admittance.specs.Places.{kkt_in}
use Rattle.admittance.proofs.Numbers.{kkt-number}
use Rattle.plain_columns.specs.Cases.{voltage_row, gen_row, dbdp, cost_slope}
use Rattle.columns.specs.Jacobian.{stores}
use Rattle.columns.proofs.Numbers.{voltage_number, gen_number}

module _ (l : SocWrLayout) (b : List ℕ) (h : Laid l b) (x z : List Float) where
  pub demand_same : (power : Power) (i : ℕ) → put (kkt_in l (price_row power i)) (constant64 minus_one) ∷ [] ≡ stores (net_of l b) x z (Demand power) i
  unfolding stores
  demand_same power i = ap (λ (at : ℕ). put at (constant64 minus_one) ∷ []) (kkt-number l b h (price_row power i) (balance-number l b power i))

  bound-same : (r : RowName) (v : Float) → layout_row l r ≡ row_number (net_of l b) r
      → put (kkt_in l r) (mul binary64 (get_or z (layout_row l r) nan) v) ∷ []
      ≡ put (kkt_row (net_of l b) r) (mul binary64 (get_or z (row_number (net_of l b) r) nan) v) ∷ []
  bound-same r v e = ap₂ (λ (at q : ℕ). put at (mul binary64 (get_or z q nan) v) ∷ []) (kkt-number l b h r e) e

  pub voltage_same : (bound : Bound) (i : ℕ)
      → put (kkt_in l (voltage_row bound i)) (mul binary64 (get_or z (layout_row l (voltage_row bound i)) nan) (dbdp bound)) ∷ []
      ≡ stores (net_of l b) x z (VoltageBound bound) i
  unfolding stores
  voltage_same bound i = bound-same (voltage_row bound i) (dbdp bound) (voltage_number l b h bound i)

  pub gen_same : (power : Power) (bound : Bound) (g : ℕ)
      → put (kkt_in l (gen_row power bound g)) (mul binary64 (get_or z (layout_row l (gen_row power bound g)) nan) (dbdp bound)) ∷ []
      ≡ stores (net_of l b) x z (GenBound power bound) g
  unfolding stores
  gen_same power bound g = bound-same (gen_row power bound g) (dbdp bound) (gen_number l b h power bound g)

  pub cost-same : (term : CostTerm) (g : ℕ)
      → put (layout_column l (Pg g)) (cost_slope term (get_or x (layout_column l (Pg g)) nan)) ∷ [] ≡ stores (net_of l b) x z (Cost term) g
  unfolding stores
  cost-same term g = rw (laid-column l b h (Pg g) refl)
