-- 6: "x not nvar long, or z not ncon long", "0 for x, else 1". An x of xs floats, a z of zs.
use Rattle.std.specs.Prelude.{ℕ, eqb, Float}
use Rattle.refusals.specs.Refusals.{◌or_else◌, refuse_unless, Checked}
use Rattle.refusals.specs.declared.Refusal.TheVariants.{SolutionLength}
use Rattle.records.specs.AcNetwork.{AcNetwork}
use Rattle.numbering.specs.Numbering.{nvar, ncon}

module _ (G : AcNetwork Float) where
  unfoldable pub x_cause : ℕ → Checked
  x_cause xs = refuse_unless (eqb xs (nvar G)) (SolutionLength 0)

  unfoldable pub z_cause : ℕ → Checked
  z_cause zs = refuse_unless (eqb zs (ncon G)) (SolutionLength 1)

  unfoldable pub solution_cause : ℕ → ℕ → Checked
  solution_cause xs zs = x_cause xs or_else z_cause zs
