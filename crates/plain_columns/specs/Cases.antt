-- The cases of the matches in `parameter_jacobian` of sens/conic.rs: which row a bound is at, and its slope.
use Rattle.std.specs.Prelude.{ℕ, Float}
use Rattle.std.specs.Float.{binary64}
use Rattle.std.specs.Float.Ieee.{mul}
use Rattle.numbering.specs.declared.RowName.{RowName}
use Rattle.numbering.specs.declared.RowName.TheVariants.{Wub, Wlb, Pgub, Pglb, Qgub, Qglb}
use Rattle.ring.specs.Ops.{rounded}
use Rattle.rows.specs.Rows.{one, minus_one, constant64}
use Rattle.interface.specs.declared.Power.{Power}
use Rattle.interface.specs.declared.Power.TheVariants.{Active, Reactive}
use Rattle.interface.specs.declared.CostTerm.{CostTerm}
use Rattle.interface.specs.declared.CostTerm.TheVariants.{Quadratic, Linear}
use Rattle.interface.specs.declared.Bound.{Bound}
use Rattle.interface.specs.declared.Bound.TheVariants.{Min, Max}

abbrev pub voltage_row : Bound → ℕ → RowName
voltage_row Max i = Wub i
voltage_row Min i = Wlb i

abbrev pub gen_row : Power → Bound → ℕ → RowName
gen_row Active Max g = Pgub g
gen_row Active Min g = Pglb g
gen_row Reactive Max g = Qgub g
gen_row Reactive Min g = Qglb g

-- +1 for an upper bound, -1 for a lower one
abbrev pub dbdp : Bound → Float
dbdp Max = constant64 one
dbdp Min = constant64 minus_one

-- by cq: 2 pg; by cl: 1
abbrev pub cost_slope : CostTerm → Float → Float
cost_slope Quadratic pg = mul binary64 rounded.two pg
cost_slope Linear pg = constant64 one
