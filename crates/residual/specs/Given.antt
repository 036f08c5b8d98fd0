-- The checks and the residual of a system that is lent.
use Rattle.std.specs.Prelude.{ℕ, Bool, List, Float}
use Rattle.refusals.specs.Refusals.{Checked}
use Rattle.sparse.specs.Sparse.{entries}
use Rattle.residual.specs.declared.System.{System}
use Rattle.residual.specs.Checks.{residual_fits, residual_check}
use Rattle.residual.specs.Residual.{residual}

-- whether its lists fit
abbrev pub system_fits : System → Bool
system_fits s = residual_fits s.dim s.columns s.entries.rows.now s.entries.cols.now s.entries.values.now s.rhs.now s.answer.now

-- the check, for an output of a length
abbrev pub system_check : System → ℕ → Checked
system_check s out = residual_check s.dim s.columns s.entries.rows.now s.entries.cols.now s.entries.values.now s.rhs.now s.answer.now out

abbrev pub system_residual : System → List Float
system_residual s = residual s.dim s.columns (entries s.entries.rows.now s.entries.cols.now s.entries.values.now) s.eps s.rhs.now s.answer.now
