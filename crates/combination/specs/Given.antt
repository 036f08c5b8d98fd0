-- The same, of what is lent.
use Rattle.std.specs.Prelude.{ℕ, Bool, ◌&&◌, List, Float}
use Rattle.refusals.specs.Refusals.{Checked}
use Rattle.interface.specs.declared.Mode.{Mode}
use Rattle.sparse.specs.Checks.{bounded, selector_fits}
use Rattle.combination.specs.declared.Solved.{Solved}
use Rattle.combination.specs.Checks.{combination_fits, combination_check}
use Rattle.combination.specs.Combination.{combination}

-- whether the size and the selector fit
abbrev pub solved_lists_fit : Solved → Bool
solved_lists_fit s = bounded s.dim s.columns && selector_fits s.dim s.selector.starts.now s.selector.rows.now s.selector.weights.now

-- whether all of it fits
abbrev pub solved_fits : Mode → Solved → Bool
solved_fits mode s = combination_fits mode s.dim s.columns s.selector.starts.now s.selector.rows.now s.selector.weights.now s.rhs.now s.solution.now

-- the check, for an output of a length
abbrev pub solved_check : Mode → Solved → ℕ → Checked
solved_check mode s out = combination_check mode s.dim s.columns s.selector.starts.now s.selector.rows.now s.selector.weights.now s.rhs.now s.solution.now out

abbrev pub solved_combination : Mode → Solved → List Float
solved_combination mode s = combination mode s.dim s.columns s.selector.starts.now s.selector.rows.now s.selector.weights.now s.sign s.rhs.now s.solution.now
