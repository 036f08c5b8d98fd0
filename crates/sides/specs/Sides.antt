-- b in the runs in which the code writes it, one for each block of rows.
use Rattle.std.specs.Prelude.{ℕ, ◌+◌, ◌*◌, List, [], ◌∷◌, Float}
use Rattle.std.specs.Float.Ieee.{neg}
use Rattle.lists.specs.UpTo.{each, listed, when}
use Rattle.records.specs.Fields.{intercept_of}
use Rattle.numbering.specs.Layout.{layout_row}
use Rattle.numbering.specs.Laid.{net_of}
use Rattle.numbering.specs.declared.SocWrLayout.{SocWrLayout}
use Rattle.numbering.specs.declared.RowName.{RowName}
use Rattle.numbering.specs.declared.RowName.TheVariants.{Pbal, Qbal, OhmPf, OhmQf, OhmPt, OhmQt, Wub, Wlb, Pgub, Pglb, Qgub, Qglb, Angub, Anglb, Segment, Jabr, Thermal}
use Rattle.rows.specs.Rows.{b, zero64}
use Rattle.cells.specs.Runs.{Run, run}

-- the right side of record i's row in a block with one row for each record; all of such a block, from its first row on
unfoldable pub side_at : SocWrLayout → List ℕ → (ℕ → RowName) → ℕ → Float
side_at l bytes row i = b (net_of l bytes) (row i)

unfoldable pub block_run : SocWrLayout → List ℕ → ℕ → (ℕ → RowName) → Run
block_run l bytes n row = run (layout_row l (row 0)) (listed n (side_at l bytes row))

-- zeros, from the row of a name on
unfoldable pub zero_run : SocWrLayout → ℕ → RowName → Run
zero_run l n x = run (layout_row l x) (listed n (λ j. zero64))

-- a limited branch's six right sides
unfoldable pub rating_sides : Float → List Float
rating_sides r = r ∷ zero64 ∷ zero64 ∷ r ∷ zero64 ∷ zero64 ∷ []

unfoldable pub ratings_at : SocWrLayout → List ℕ → ℕ → List Float
ratings_at l bytes e = when ((net_of l bytes).limited e) (rating_sides ((net_of l bytes).rate_a e))

-- b by its blocks
abbrev pub ohm_runs : SocWrLayout → List Run
ohm_runs l = zero_run l l.m (OhmPf 0) ∷ zero_run l l.m (OhmQf 0) ∷ zero_run l l.m (OhmPt 0) ∷ zero_run l l.m (OhmQt 0) ∷ []

abbrev pub bus_runs : SocWrLayout → List ℕ → List Run
bus_runs l bytes = block_run l bytes l.n Pbal ∷ block_run l bytes l.n Qbal ∷ block_run l bytes l.n Wub ∷ block_run l bytes l.n Wlb ∷ []

abbrev pub generator_runs : SocWrLayout → List ℕ → List Run
generator_runs l bytes = block_run l bytes l.k Pgub ∷ block_run l bytes l.k Pglb ∷ block_run l bytes l.k Qgub ∷ block_run l bytes l.k Qglb ∷ []

unfoldable pub segment_run : SocWrLayout → List ℕ → Run
segment_run l bytes = run (layout_row l (Segment 0 0)) (listed l.s (λ r. neg (intercept_of bytes (l.n + l.m + l.k + r))))

abbrev pub jabr_run : SocWrLayout → Run
jabr_run l = zero_run l (4 * l.m) (Jabr 0 0)

unfoldable pub thermal_run : SocWrLayout → List ℕ → Run
thermal_run l bytes = run (layout_row l (Thermal 0 0)) (each l.m (ratings_at l bytes))

abbrev pub branch_runs : SocWrLayout → List ℕ → List Run
branch_runs l bytes = block_run l bytes l.m Angub ∷ block_run l bytes l.m Anglb ∷ thermal_run l bytes ∷ []
