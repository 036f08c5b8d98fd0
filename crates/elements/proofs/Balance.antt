-- The number that a layout gives a balance row is its network's: the counts give both. Assumes nothing.
use Rattle.std.proofs.Common.{ℕ, ◌≡◌, sym, ◌∙◌, List}
use Rattle.numbering.specs.Numbering.{row_number}
use Rattle.numbering.specs.Layout.{layout_row}
use Rattle.numbering.specs.Laid.{net_of}
use Rattle.numbering.specs.declared.SocWrLayout.{SocWrLayout}
use Rattle.numbering.proofs.Numbers.{layout_row_lem, row_number_lem}
use Rattle.interface.specs.declared.Power.{Power}
use Rattle.interface.specs.declared.Power.TheVariants.{Active, Reactive}
use Rattle.elements.specs.Balance.{price_row}

pub balance-number : (l : SocWrLayout) (b : List ℕ) (power : Power) (i : ℕ) → layout_row l (price_row power i) ≡ row_number (net_of l b) (price_row power i)
balance-number l b Active i = layout_row_lem l (price_row Active i) ∙ sym (row_number_lem (net_of l b) (price_row Active i))
balance-number l b Reactive i = layout_row_lem l (price_row Reactive i) ∙ sym (row_number_lem (net_of l b) (price_row Reactive i))
