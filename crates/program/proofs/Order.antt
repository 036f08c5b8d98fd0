-- The checks of P, q, A and b go by document 01's order: the record check, then 10. Assumes nothing.
use Rattle.std.proofs.Common.{ℕ, ◌≡◌, refl, List, [], ◌∷◌, length, Float}
use Rattle.lists.specs.Entries.{Cell}
use Rattle.lists.specs.Compressed.{joined, starts_from}
use Rattle.refusals.specs.Refusals.{room_for}
use Rattle.refusals.specs.Order.{sooner, by_order}
use Rattle.refusals.proofs.Order.{in_order, alone, next}
use Rattle.records.specs.Check.{check_of}
use Rattle.records.proofs.Order.{checked}
use Rattle.program.specs.Answered.{floats_check, columns_check}

module _ (n m k s : ℕ) (b : List ℕ) where
  pub floats_in_order : (xs ys : List Float) → floats_check (check_of n m k s b) xs ys ≡ by_order (check_of n m k s b ∷ room_for (length xs) (length ys) ∷ [])
  unfolding floats_check sooner
  floats_in_order xs ys = in_order (next (checked n m k s b) (alone _ _) refl)

  pub columns-in_order : (cs : List (List Cell)) (ss rs : List ℕ) (vs : List Float)
      → columns_check (check_of n m k s b) cs ss rs vs
      ≡ by_order (check_of n m k s b ∷ room_for (length (starts_from 0 cs)) (length ss) ∷ room_for (length (joined cs)) (length rs) ∷ room_for (length (joined cs)) (length vs) ∷ [])
  unfolding columns_check sooner
  columns-in_order cs ss rs vs = in_order (next (checked n m k s b) (next (alone _ _) (next (alone _ _) (alone _ _) refl) refl) refl)
