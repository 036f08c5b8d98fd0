-- The numbers that a layout gives are those of its network. Assumes nothing.
use Rattle.std.proofs.Common.{ℕ, ◌≤◌, ◌≡◌, refl, List, arith}
use Rattle.lists.specs.UpTo.{bit}
use Rattle.lists.proofs.Sums.{sum_mono}
use Rattle.numbering.specs.Numbering.{row_number}
use Rattle.numbering.specs.Layout.{layout_row}
use Rattle.numbering.specs.Tally.{tally_of}
use Rattle.numbering.specs.Laid.{net_of, Laid}
use Rattle.numbering.specs.declared.SocWrLayout.{SocWrLayout}
use Rattle.numbering.specs.declared.Tally.TheVariants.{Limited}
use Rattle.numbering.specs.declared.RowName.TheVariants.{Thermal}
use Rattle.numbering.proofs.Layouts.{limited-before}
use Rattle.numbering.proofs.Laid.{limits_are, laid-row, laid-thermal}
use Rattle.interface.specs.declared.Power.{Power}
use Rattle.interface.specs.declared.Power.TheVariants.{Active, Reactive}
use Rattle.interface.specs.declared.Bound.{Bound}
use Rattle.interface.specs.declared.Bound.TheVariants.{Min, Max}
use Rattle.plain_columns.specs.Cases.{voltage_row, gen_row}

module _ (l : SocWrLayout) (b : List ℕ) (h : Laid l b) where
  pub voltage_number : (bound : Bound) (i : ℕ) → layout_row l (voltage_row bound i) ≡ row_number (net_of l b) (voltage_row bound i)
  voltage_number Min i = laid-row l b h (voltage_row Min i) refl
  voltage_number Max i = laid-row l b h (voltage_row Max i) refl

  pub gen_number : (power : Power) (bound : Bound) (g : ℕ) → layout_row l (gen_row power bound g) ≡ row_number (net_of l b) (gen_row power bound g)
  gen_number Active Min g = laid-row l b h (gen_row Active Min g) refl
  gen_number Active Max g = laid-row l b h (gen_row Active Max g) refl
  gen_number Reactive Min g = laid-row l b h (gen_row Reactive Min g) refl
  gen_number Reactive Max g = laid-row l b h (gen_row Reactive Max g) refl

  -- a limited branch by the count of those before it: there are so many at most, and its rows are at that place
  pub rank-le : (e : ℕ) → e ≤ l.m → tally_of Limited b l.n e ≤ l.t
  rank-le e p = omega (arith, limited-before l.n l.m l.k l.s b e, sum_mono e l.m (λ i. bit ((net_of l b).limited i)) p, limits_are l b h)

  pub thermal-number : (e q : ℕ) → layout_row l (Thermal (tally_of Limited b l.n e) q) ≡ row_number (net_of l b) (Thermal e q)
  thermal-number e q = rw (limited-before l.n l.m l.k l.s b e) (laid-thermal l b h e q)
