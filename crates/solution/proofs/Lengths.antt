-- An x and a z that are not refused have their lengths. Assumes nothing.
use Rattle.refusals.specs.Refusals.{passed}
use Rattle.std.proofs.Common.{ℕ, ◌≡◌, eqb-true, Float}
use Rattle.refusals.proofs.Laws.{test-held, or_else_accepted}
use Rattle.records.specs.AcNetwork.{AcNetwork}
use Rattle.numbering.specs.Numbering.{nvar, ncon}
use Rattle.solution.specs.Lengths.{x_cause, z_cause, solution_cause}

module _ (G : AcNetwork Float) where
  pub x_long : (xs : ℕ) → x_cause G xs ≡ passed → xs ≡ nvar G
  unfolding x_cause
  x_long xs h = eqb-true _ _ (test-held _ _ h)

  pub z_long : (zs : ℕ) → z_cause G zs ≡ passed → zs ≡ ncon G
  unfolding z_cause
  z_long zs h = eqb-true _ _ (test-held _ _ h)

  pub both_long : (xs zs : ℕ) → solution_cause G xs zs ≡ passed → (xs ≡ nvar G) × (zs ≡ ncon G)
  unfolding solution_cause
  both_long xs zs h = let p = or_else_accepted _ _ h in (x_long xs p.0, z_long zs p.1)
