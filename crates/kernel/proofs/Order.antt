-- A code that names nothing is refused at the place of 7 in document 01's order: after the record check, before 12 and 10. Assumes nothing.
use Rattle.std.proofs.Common.{ℕ, ◌≡◌, refl, Bool, false, List, [], ◌∷◌, leb, Float, None}
use Rattle.refusals.specs.Refusals.{◌or_else◌, refuse_unless, room_for}
use Rattle.refusals.specs.Order.{sooner, by_order}
use Rattle.refusals.specs.declared.Refusal.TheVariants.{PastEnd, BadLists, OutputTooShort}
use Rattle.refusals.proofs.Order.{in_order, alone, next}
use Rattle.records.specs.Check.{check_of}
use Rattle.records.proofs.Order.{checked}
use Rattle.kernel.specs.Combinations.{combine_check}

pub no_axis_in_order : (n m k s : ℕ) (b : List ℕ) (code : ℕ)
    → check_of n m k s b or_else refuse_unless false (PastEnd code) ≡ by_order (check_of n m k s b ∷ refuse_unless false (PastEnd code) ∷ [])
unfolding sooner
no_axis_in_order n m k s b code = in_order (next (checked n m k s b) (alone _ _) refl)

-- whatever else there is to find
pub no_mode_in_order : (code dim columns : ℕ) (starts rows : List ℕ) (weights rhs solution : List Float) (out : ℕ) (fits : Bool) (need : ℕ)
    → combine_check None code dim columns starts rows weights rhs solution out ≡ by_order (refuse_unless false (PastEnd code) ∷ refuse_unless fits BadLists ∷ room_for need out ∷ [])
unfolding sooner refuse_unless ◌or_else◌
no_mode_in_order code dim columns starts rows weights rhs solution out fits need =
    in_order (next (alone false (PastEnd code)) (next (alone fits BadLists) (alone (leb need out) (OutputTooShort need)) refl) refl)
