-- 6 goes by document 01's order, x before z. Assumes nothing.
use Rattle.std.proofs.Common.{ℕ, ◌≡◌, refl, [], ◌∷◌, Float}
use Rattle.refusals.specs.Order.{sooner, by_order}
use Rattle.refusals.specs.declared.Refusal.TheVariants.{SolutionLength}
use Rattle.refusals.proofs.Order.{InOrder, in_order, alone, next}
use Rattle.records.specs.AcNetwork.{AcNetwork}
use Rattle.solution.specs.Lengths.{x_cause, z_cause, solution_cause}

module _ (G : AcNetwork Float) (xs zs : ℕ) where
  pub x_of : InOrder (SolutionLength 0) (SolutionLength 0) (x_cause G xs ∷ []) (x_cause G xs)
  unfolding x_cause
  x_of = alone _ _

  pub z_of : InOrder (SolutionLength 1) (SolutionLength 1) (z_cause G zs ∷ []) (z_cause G zs)
  unfolding z_cause
  z_of = alone _ _

  pub solution_of : InOrder (SolutionLength 0) (SolutionLength 1) (x_cause G xs ∷ z_cause G zs ∷ []) (solution_cause G xs zs)
  unfolding solution_cause sooner
  solution_of = next x_of z_of refl

  pub solution_in_order : solution_cause G xs zs ≡ by_order (x_cause G xs ∷ z_cause G zs ∷ [])
  solution_in_order = in_order solution_of
