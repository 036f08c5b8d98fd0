-- The check of an operand's selector goes by document 01's order: the record check, 9, 10. Assumes nothing.
use Rattle.std.proofs.Common.{ℕ, ◌≡◌, refl, List, ◌∷◌}
use Rattle.refusals.specs.Refusals.{refuse_unless}
use Rattle.refusals.specs.Order.{sooner, by_order}
use Rattle.refusals.specs.declared.Refusal.TheVariants.{NotInSocWr}
use Rattle.refusals.proofs.Order.{in_order, alone, next}
use Rattle.records.specs.Check.{check_of}
use Rattle.records.proofs.Order.{checked}
use Rattle.interface.specs.declared.Operand.{Operand}
use Rattle.interface.proofs.Order.{rooms, rooms_of}
use Rattle.elements.specs.Lengths.{has_operand, operand_len}
use Rattle.operands.specs.Selector.{operand_cause, operand_check}

pub selector_in_order : (n m k s : ℕ) (b : List ℕ) (o : Operand) (starts rows weights elements : ℕ)
    → operand_check n m k s b o starts rows weights elements
    ≡ by_order (check_of n m k s b ∷ refuse_unless (has_operand o) NotInSocWr ∷ rooms (operand_len n m k o) starts rows weights elements)
unfolding operand_cause sooner
selector_in_order n m k s b o starts rows weights elements = in_order (next (checked n m k s b) (next (alone _ _) (rooms_of _ _ _ _ _) refl) refl)
