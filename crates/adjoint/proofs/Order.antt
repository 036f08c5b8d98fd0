-- The checks of the transposed entries and of the selector matrix go by document 01's order: 12, then 10. Assumes nothing.
use Rattle.std.proofs.Common.{ℕ, ◌*◌, ◌≡◌, refl, ◌&&◌, List, [], ◌∷◌, length, Float}
use Rattle.refusals.specs.Refusals.{refuse_unless, room_for}
use Rattle.refusals.specs.Order.{sooner, by_order}
use Rattle.refusals.specs.declared.Refusal.TheVariants.{BadLists}
use Rattle.refusals.proofs.Order.{in_order, alone, next}
use Rattle.sparse.specs.Sparse.{items_of}
use Rattle.sparse.specs.Checks.{bounded, entries_fit, selector_fits}
use Rattle.adjoint.specs.Checks.{transpose_check, matrix_check}

pub transpose_in_order : (dim : ℕ) (rows cols : List ℕ) (values : List Float) (out_rows out_cols out_values : ℕ)
    → transpose_check dim rows cols values out_rows out_cols out_values
    ≡ by_order (
    refuse_unless (bounded dim 0 && entries_fit dim rows cols values) BadLists
    ∷ room_for (length rows) out_rows
    ∷ room_for (length rows) out_cols
    ∷ room_for (length rows) out_values
    ∷ []
    )
unfolding transpose_check sooner
transpose_in_order dim rows cols values out_rows out_cols out_values = in_order (next (alone _ _) (next (alone _ _) (next (alone _ _) (alone _ _) refl) refl) refl)

pub matrix-in_order : (dim : ℕ) (starts rows : List ℕ) (weights : List Float) (out : ℕ)
    → matrix_check dim starts rows weights out ≡ by_order (refuse_unless (selector_fits dim starts rows weights) BadLists ∷ room_for (dim * items_of starts) out ∷ [])
unfolding matrix_check sooner
matrix-in_order dim starts rows weights out = in_order (next (alone _ _) (alone _ _) refl)
