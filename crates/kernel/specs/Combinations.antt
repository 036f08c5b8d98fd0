-- The entries of interface and combination, by codes.
use Rattle.refusals.specs.Refusals.{Checked}
use Rattle.std.specs.Prelude.{ℕ, List, [], Float, Option, Some, None, Result, Ok, Err}
use Rattle.refusals.specs.declared.Refusal.{Refusal}
use Rattle.refusals.specs.declared.Refusal.TheVariants.{NotInSocWr, PastEnd}
use Rattle.interface.specs.Scales.{served_unit_scale}
use Rattle.interface.specs.declared.Parameter.{Parameter}
use Rattle.interface.specs.declared.Operand.{Operand}
use Rattle.interface.specs.declared.Mode.{Mode}
use Rattle.combination.specs.Checks.{combination_check}
use Rattle.combination.specs.Combination.{combination}

-- `socwr_unit_scale`; a code that names nothing, "of a parameter or an operand it is number 9 with 0"
abbrev pub scale_at : Option Operand → Option Parameter → Float → Result Float Refusal
scale_at (Some o) (Some p) base = Ok (served_unit_scale o p base)
scale_at (Some o) None base = Err NotInSocWr
scale_at None p base = Err NotInSocWr

-- `socwr_combine`; "a code that names nothing (.. of a mode ..) is number 7 with the code", at 7's place, before 12 and 10
abbrev pub combine_check : Option Mode → (code dim columns : ℕ) → List ℕ → List ℕ → List Float → List Float → List Float → ℕ → Checked
combine_check (Some mode) code dim columns starts rows weights rhs solution out =
    combination_check mode dim columns starts rows weights rhs solution out
combine_check None code dim columns starts rows weights rhs solution out = Err (PastEnd code)

abbrev pub combined : Option Mode → (dim columns : ℕ) → List ℕ → List ℕ → List Float → Float → List Float → List Float → List Float
combined (Some mode) dim columns starts rows weights sign rhs solution =
    combination mode dim columns starts rows weights sign rhs solution
combined None dim columns starts rows weights sign rhs solution = []
