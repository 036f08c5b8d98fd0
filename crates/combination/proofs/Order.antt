-- The checks of a combination go by document 01's order: 11, 12, 10. Assumes nothing.
use Rattle.std.proofs.Common.{ℕ, ◌*◌, ◌≡◌, refl, List, [], ◌∷◌, Float}
use Rattle.refusals.specs.Refusals.{refuse_unless, room_for}
use Rattle.refusals.specs.Order.{sooner, by_order}
use Rattle.refusals.specs.declared.Refusal.TheVariants.{ModeAuto, BadLists}
use Rattle.refusals.proofs.Order.{in_order, alone, next}
use Rattle.interface.specs.declared.Mode.{Mode}
use Rattle.sparse.specs.Sparse.{items_of}
use Rattle.combination.specs.Checks.{concrete, combination_fits, combination_check}

pub combination-in_order : (mode : Mode) (dim columns : ℕ) (starts rows : List ℕ) (weights rhs solution : List Float) (out : ℕ)
    → combination_check mode dim columns starts rows weights rhs solution out
    ≡ by_order (
    refuse_unless (concrete mode) ModeAuto
    ∷ refuse_unless (combination_fits mode dim columns starts rows weights rhs solution) BadLists
    ∷ room_for (items_of starts * columns) out
    ∷ []
    )
unfolding combination_check sooner
combination-in_order mode dim columns starts rows weights rhs solution out = in_order (next (alone _ _) (next (alone _ _) (alone _ _) refl) refl)
