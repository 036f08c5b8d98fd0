-- The checks of the residual go by document 01's order: 12, then 10. Assumes nothing.
use Rattle.std.proofs.Common.{ℕ, ◌*◌, ◌≡◌, refl, List, [], ◌∷◌, Float}
use Rattle.refusals.specs.Refusals.{refuse_unless, room_for}
use Rattle.refusals.specs.Order.{sooner, by_order}
use Rattle.refusals.specs.declared.Refusal.TheVariants.{BadLists}
use Rattle.refusals.proofs.Order.{in_order, alone, next}
use Rattle.residual.specs.Checks.{residual_fits, residual_check}

pub residual-in_order : (dim columns : ℕ) (rows cols : List ℕ) (values rhs answer : List Float) (out : ℕ)
    → residual_check dim columns rows cols values rhs answer out
    ≡ by_order (refuse_unless (residual_fits dim columns rows cols values rhs answer) BadLists ∷ room_for (dim * columns) out ∷ [])
unfolding residual_check sooner
residual-in_order dim columns rows cols values rhs answer out = in_order (next (alone _ _) (alone _ _) refl)
