-- The balance row of a bus by power: demand stands in it, and its z is a price (`r_pbal`, `r_qbal`).
use Rattle.std.specs.Prelude.{ℕ}
use Rattle.numbering.specs.declared.RowName.{RowName}
use Rattle.numbering.specs.declared.RowName.TheVariants.{Pbal, Qbal}
use Rattle.interface.specs.declared.Power.{Power}
use Rattle.interface.specs.declared.Power.TheVariants.{Active, Reactive}

abbrev pub price_row : Power → ℕ → RowName
price_row Active i = Pbal i
price_row Reactive i = Qbal i
