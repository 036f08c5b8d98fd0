-- Document 01, 'Causes turned away', numbers 12 and 10 in this order.
use Rattle.std.specs.Prelude.{ℕ, ◌*◌, Bool, ◌&&◌, List, eqb, length, Float}
use Rattle.refusals.specs.declared.Refusal.TheVariants.{BadLists}
use Rattle.refusals.specs.Refusals.{◌or_else◌, refuse_unless, room_for, Checked}
use Rattle.sparse.specs.Checks.{bounded, entries_fit}

-- not "matrix of wrong length"
unfoldable pub residual_fits : ℕ → ℕ → List ℕ → List ℕ → List Float → List Float → List Float → Bool
residual_fits dim columns rows cols values rhs answer =
    bounded dim columns
    && entries_fit dim rows cols values
    && eqb (length rhs) (dim * columns)
    && eqb (length answer) (dim * columns)

-- the last argument is the length of the output
unfoldable pub residual_check : ℕ → ℕ → List ℕ → List ℕ → List Float → List Float → List Float → ℕ → Checked
residual_check dim columns rows cols values rhs answer out =
    refuse_unless (residual_fits dim columns rows cols values rhs answer) BadLists or_else room_for (dim * columns) out
