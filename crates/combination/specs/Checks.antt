-- Document 01, 'Causes turned away', numbers 11, 12 and 10 in this order.
use Rattle.std.specs.Prelude.{ℕ, ◌*◌, Bool, true, false, ◌&&◌, List, eqb, length, Float}
use Rattle.refusals.specs.declared.Refusal.TheVariants.{ModeAuto, BadLists}
use Rattle.refusals.specs.Refusals.{◌or_else◌, refuse_unless, room_for, Checked}
use Rattle.interface.specs.declared.Mode.{Mode}
use Rattle.interface.specs.declared.Mode.TheVariants.{Forward, Adjoint, Auto}
use Rattle.sparse.specs.Sparse.{items_of}
use Rattle.sparse.specs.Checks.{bounded, selector_fits}

-- forward "rhs is not looked at, whatever its length"
unfoldable pub combination_fits : Mode → ℕ → ℕ → List ℕ → List ℕ → List Float → List Float → List Float → Bool
combination_fits Forward dim columns starts rows weights rhs solution =
    bounded dim columns && selector_fits dim starts rows weights && eqb (length solution) (dim * columns)
combination_fits Adjoint dim columns starts rows weights rhs solution =
    bounded dim columns && selector_fits dim starts rows weights
    && eqb (length rhs) (dim * columns) && eqb (length solution) (dim * items_of starts)
combination_fits Auto dim columns starts rows weights rhs solution = false

abbrev pub concrete : Mode → Bool
concrete Forward = true
concrete Adjoint = true
concrete Auto = false

-- the last argument is the length of the output
unfoldable pub combination_check : Mode → ℕ → ℕ → List ℕ → List ℕ → List Float → List Float → List Float → ℕ → Checked
combination_check mode dim columns starts rows weights rhs solution out =
    refuse_unless (concrete mode) ModeAuto
    or_else refuse_unless (combination_fits mode dim columns starts rows weights rhs solution) BadLists
    or_else room_for (items_of starts * columns) out
