-- The checks of the KKT entries go by document 01's order: the record check, 6, 10. Assumes nothing.
use Rattle.std.proofs.Common.{ℕ, ◌≡◌, refl, List, [], ◌∷◌, length, Float}
use Rattle.refusals.specs.Refusals.{room_for}
use Rattle.refusals.specs.Order.{sooner, by_order}
use Rattle.refusals.proofs.Order.{in_order, alone, next}
use Rattle.records.specs.Check.{check_of}
use Rattle.records.specs.Network.{network_of}
use Rattle.records.proofs.Order.{checked}
use Rattle.solution.specs.Lengths.{x_cause, z_cause}
use Rattle.solution.proofs.Order.{solution_of}
use Rattle.kkt.specs.Kkt.{kkt}
use Rattle.entries.specs.Answer.{room_cause, kkt_check}

module _ (n m k s : ℕ) (bytes : List ℕ) (x z : List Float) (rs cs : List ℕ) (vs : List Float) where
  abbrev need : ℕ
  need = length (kkt (network_of n m k s bytes) x z)

  pub kkt-in_order : kkt_check n m k s bytes x z rs cs vs
      ≡ by_order (check_of n m k s bytes ∷ x_cause (network_of n m k s bytes) (length x) ∷ z_cause (network_of n m k s bytes) (length z)
      ∷ room_for need (length rs) ∷ room_for need (length cs) ∷ room_for need (length vs) ∷ [])
  unfolding kkt_check room_cause sooner
  kkt-in_order = in_order (next (checked n m k s bytes) (next (solution_of _ _ _) (next (alone _ _) (next (alone _ _) (alone _ _) refl) refl) refl) refl)
