-- The checks of the lengths and of the ids go by document 01's order: the record check, then 9 or 7. Assumes nothing.
use Rattle.std.proofs.Common.{ℕ, ◌≡◌, refl, List, [], ◌∷◌}
use Rattle.refusals.specs.Refusals.{refuse_unless}
use Rattle.refusals.specs.Order.{sooner, by_order}
use Rattle.refusals.specs.declared.Refusal.TheVariants.{PastEnd, NotInSocWr}
use Rattle.refusals.proofs.Order.{in_order, alone, next}
use Rattle.records.specs.Check.{check_of}
use Rattle.records.proofs.Order.{checked}
use Rattle.interface.specs.declared.Parameter.{Parameter}
use Rattle.interface.specs.declared.Operand.{Operand}
use Rattle.interface.specs.declared.Axis.{Axis}
use Rattle.elements.specs.Lengths.{has_parameter, has_operand, parameter_len_check, operand_len_check}
use Rattle.elements.specs.Ids.{on_axis, id_check}

module _ (n m k s : ℕ) (b : List ℕ) where
  pub parameter_len-in_order : (p : Parameter) → parameter_len_check n m k s b p ≡ by_order (check_of n m k s b ∷ refuse_unless (has_parameter p) NotInSocWr ∷ [])
  unfolding sooner
  parameter_len-in_order p = in_order (next (checked n m k s b) (alone _ _) refl)

  pub operand_len-in_order : (o : Operand) → operand_len_check n m k s b o ≡ by_order (check_of n m k s b ∷ refuse_unless (has_operand o) NotInSocWr ∷ [])
  unfolding sooner
  operand_len-in_order o = in_order (next (checked n m k s b) (alone _ _) refl)

  pub id_in_order : (axis : Axis) (i : ℕ) → id_check n m k s b axis i ≡ by_order (check_of n m k s b ∷ refuse_unless (on_axis n m k axis i) (PastEnd i) ∷ [])
  unfolding sooner
  id_in_order axis i = in_order (next (checked n m k s b) (alone _ _) refl)
