-- The coefficients of the Ohm rows as the code gathers them.
use Rattle.std.specs.Prelude.{Float}
use Rattle.rows.specs.Branch.{Branch}
use Rattle.rows.specs.Rows.{OhmPlace, ohm_value}
use Rattle.rows.specs.declared.OhmRow.{OhmRow}
use Rattle.rows.specs.declared.OhmRow.TheVariants.{Pf as pf, Qf as qf, Pt as pt, Qt as qt}
use Rattle.branch.specs.declared.Series.{Series}
use Rattle.branch.specs.declared.ByOhmRow.{ByOhmRow}

-- the shunt that stands in the row
abbrev pub shunt_of : {A : Type 0} → Branch A → OhmRow → A
shunt_of t pf = t.gfr
shunt_of t qf = t.bfr
shunt_of t pt = t.gto
shunt_of t qt = t.bto

-- a branch with these five floats and one shunt: a row's w uses no other, its wr and wi use none
abbrev pub branch_with : Series → Float → Branch Float
branch_with x s = record { g = x.g; b = x.b; gfr = s; bfr = s; gto = s; bto = s; tr = x.tr; ti = x.ti; tm2 = x.tm2 }

-- the coefficients at one place of the four Ohm rows
abbrev pub Products : Type 0
Products = ByOhmRow Float

abbrev pub products_of : Branch Float → OhmPlace → Products
products_of t p = record { pf = ohm_value t pf p; qf = ohm_value t qf p; pt = ohm_value t pt p; qt = ohm_value t qt p }
