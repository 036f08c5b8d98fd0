-- Document 01, 'Causes turned away', numbers 12 and 10 in this order. The last arguments are the lengths of the outputs.
use Rattle.std.specs.Prelude.{ℕ, ◌*◌, ◌&&◌, List, length, Float}
use Rattle.refusals.specs.declared.Refusal.TheVariants.{BadLists}
use Rattle.refusals.specs.Refusals.{◌or_else◌, refuse_unless, room_for, Checked}
use Rattle.sparse.specs.Sparse.{items_of}
use Rattle.sparse.specs.Checks.{bounded, entries_fit, selector_fits}

unfoldable pub transpose_check : ℕ → List ℕ → List ℕ → List Float → ℕ → ℕ → ℕ → Checked
transpose_check dim rows cols values out_rows out_cols out_values =
    refuse_unless (bounded dim 0 && entries_fit dim rows cols values) BadLists
    or_else room_for (length rows) out_rows
    or_else room_for (length rows) out_cols
    or_else room_for (length rows) out_values

unfoldable pub matrix_check : ℕ → List ℕ → List ℕ → List Float → ℕ → Checked
matrix_check dim starts rows weights out =
    refuse_unless (selector_fits dim starts rows weights) BadLists or_else room_for (dim * items_of starts) out
