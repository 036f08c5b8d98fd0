-- The checks of the readings go by document 01's order: the record check, 6, 7, 10. Assumes nothing.
use Rattle.std.proofs.Common.{ℕ, ◌+◌, ◌≡◌, refl, ap, List, [], ◌∷◌, ltb, length, Float}
use Rattle.refusals.specs.Refusals.{Checked, refuse_unless, room_for, answer_if}
use Rattle.refusals.specs.Order.{sooner, by_order}
use Rattle.refusals.specs.declared.Refusal.TheVariants.{CountTooLarge, SolutionLength, PastEnd}
use Rattle.refusals.proofs.Order.{InOrder, in_order, alone, next}
use Rattle.records.specs.Check.{check_of}
use Rattle.records.specs.Network.{network_of}
use Rattle.records.proofs.Order.{checked}
use Rattle.solution.specs.Lengths.{x_cause, z_cause}
use Rattle.solution.proofs.Order.{x_of, z_of, solution_of}
use Rattle.reading.specs.Reading.{reading_check, part_check, prices_check, objective_at, objective_of, code_answer}

module _ (n m k s : ℕ) (b : List ℕ) where
  pub reading_in_order : (x z : List Float) → reading_check n m k s b x z ≡ by_order (check_of n m k s b ∷ x_cause (network_of n m k s b) (length x) ∷ z_cause (network_of n m k s b) (length z) ∷ [])
  unfolding reading_check sooner
  reading_in_order x z = in_order (next (checked n m k s b) (solution_of _ _ _) refl)

  part_tests : (x : List Float) → InOrder (CountTooLarge 0) (SolutionLength 0) (check_of n m k s b ∷ x_cause (network_of n m k s b) (length x) ∷ []) (part_check n m k s b x)
  unfolding part_check sooner
  part_tests x = next (checked n m k s b) (x_of _ _ 0) refl

  pub part-in_order : (x : List Float) → part_check n m k s b x ≡ by_order (check_of n m k s b ∷ x_cause (network_of n m k s b) (length x) ∷ [])
  part-in_order x = in_order (part_tests x)

  pub prices_in_order : (z : List Float) (room : ℕ)
      → prices_check n m k s b z room ≡ by_order (check_of n m k s b ∷ z_cause (network_of n m k s b) (length z) ∷ room_for (n + n) room ∷ [])
  unfolding prices_check sooner
  prices_in_order z room = in_order (next (checked n m k s b) (next (z_of _ 0 _) (alone _ _) refl) refl)

  pub objective-in_order : (code : ℕ) (x : List Float) (solver : Float)
      → code_answer n m k s b code x solver
      ≡ answer_if (by_order (check_of n m k s b ∷ x_cause (network_of n m k s b) (length x) ∷ refuse_unless (ltb code 3) (PastEnd code) ∷ []))
      (objective_of (network_of n m k s b) (objective_at code) x solver)
  unfolding code_answer sooner
  objective-in_order code x solver =
      ap (λ (c : Checked). answer_if c (objective_of (network_of n m k s b) (objective_at code) x solver)) (in_order (next (part_tests x) (alone _ _) refl))
