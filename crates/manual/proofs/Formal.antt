-- A line and complex numbers as polynomials in the variables, for `ring`. Assumes nothing.
use Rattle.std.proofs.Common.{ℕ}
use Rattle.ring.proofs.Ring.{E, var}
use Rattle.manual.specs.Matpower.{Complex, Line}

abbrev pub complex_f : ℕ → ℕ → Complex E
complex_f i j = record { re = var i; im = var j }

-- the variables 0 to 5
abbrev pub line_f : Line E
line_f = record { g = var 0; b = var 1; bc = var 2; τ = var 3; cosθ = var 4; sinθ = var 5 }
