-- Lengths. Assumes nothing.
use Rattle.std.specs.Float.Ieee.{ne}
use Rattle.std.proofs.Common.{ℕ, ◌≡◌, refl, Bool, true, false, [], ◌∷◌, length, Float}
use Rattle.lists.specs.UpTo.{when, bit}
use Rattle.rows.specs.Rows.{zero64}
use Rattle.matrix.specs.Columns.{one_cell, nonzero_cell}

pub when-length : {A : Type 0} (b : Bool) (x : A) → length (when b (x ∷ [])) ≡ bit b
when-length true x = refl
when-length false x = refl

pub nonzero-length : (r : ℕ) (v : Float) → length (nonzero_cell r v) ≡ bit (ne v zero64)
unfolding nonzero_cell one_cell
nonzero-length r v = when-length (ne v zero64) _
