-- The code's cells are the columns' cells. Assumes nothing.
use Rattle.std.proofs.Common.{ℕ, ◌+◌, ◌≤◌, ◌≡◌, refl, ap, ap₂, ◌∙◌, true, false, List, arith, length, length-append, set, Float}
use Rattle.lists.specs.UpTo.{each, sum, bit, count}
use Rattle.lists.proofs.Each.{each_ext, each_more}
use Rattle.lists.proofs.Sums.{sum_mono}
use Rattle.ring.specs.Ops.{rounded}
use Rattle.records.specs.AcNetwork.{AcNetwork}
use Rattle.records.specs.Fields.{slope_of}
use Rattle.rows.specs.Branch.{branch_at}
use Rattle.records.proofs.Segments.{segment_record_lem}
use Rattle.numbering.specs.Layout.{layout_row}
use Rattle.numbering.specs.Numbering.{row_number}
use Rattle.numbering.specs.Laid.{net_of, Laid}
use Rattle.numbering.specs.declared.SocWrLayout.{SocWrLayout}
use Rattle.numbering.specs.declared.RowName.TheVariants.{Segment}
use Rattle.numbering.proofs.Numbers.{row_number_lem, layout_row_lem}
use Rattle.numbering.proofs.Laid.{limits_are}
use Rattle.rows.specs.Rows.{wr, wi, ohm_value, zero64, minus_one, constant64}
use Rattle.matrix.specs.Columns.{nonzero_cell, one_cell, slope_cell, cost_cell, cost_cells, ohm_column_cells}
use Rattle.branch.specs.declared.Series.{Series}
use Rattle.cells.specs.declared.Cells.{Cells}
use Rattle.cells.specs.Puts.{PutsCells, PutsColumns}
use Rattle.cells.proofs.Sizes.{when-length}
use Rattle.cells.proofs.Puts.{columns-turn, column-one, columns-none}
use Rattle.branch.specs.Series.{series_of}
use Rattle.branch.specs.Ohm.{branch_with, Products, products_of}
use Rattle.record_columns.specs.Writers.{slopes, ones, product_cells, cost_turn}

module _ (l : SocWrLayout) (bytes : List ℕ) where
  abbrev G : AcNetwork Float
  G = net_of l bytes

  -- a generator's segments start behind those of the generators before it
  segment-at : (g t : ℕ) → layout_row l (Segment (sum g G.segments) 0) + t ≡ row_number G (Segment g t)
  segment-at g t = omega (arith, layout_row_lem l (Segment (sum g G.segments) 0), row_number_lem G (Segment g t))

  pub slopes_are : (g : ℕ) {first row n : ℕ} → first ≡ l.n + l.m + l.k + sum g G.segments → row ≡ layout_row l (Segment (sum g G.segments) 0) → n ≡ G.segments g
      → each n (slopes bytes first row) ≡ each (G.segments g) (slope_cell G g)
  unfolding slopes slope_cell
  slopes_are g p q e =
      rw (q, e) (each_ext _ _ (G.segments g)
      (λ t h. ap₂ (λ (x y : ℕ). nonzero_cell x (slope_of bytes y)) (segment-at g t) (segment_record_lem l.n l.m l.k bytes g t p)))

  pub costs_are : (g : ℕ) {row n : ℕ} → row ≡ layout_row l (Segment (sum g G.segments) 0) → n ≡ G.segments g → each n (ones row) ≡ cost_cells G g
  unfolding ones cost_cells cost_cell
  costs_are g q e = rw (q, e) (each_ext _ _ (G.segments g) (λ t h. ap (λ (x : ℕ). one_cell x (constant64 minus_one)) (segment-at g t)))

  pub turn-length : (g : ℕ) → length (cost_turn G g) ≡ bit (G.piecewise g)
  unfolding cost_turn
  turn-length g = when-length (G.piecewise g) (cost_cells G g)

  -- one generator more: the columns so far, with its column where it has one
  pub more-columns : (g : ℕ) → length (each (g + 1) (cost_turn G)) ≡ length (each g (cost_turn G)) + bit (G.piecewise g)
  more-columns g = ap length (each_more (cost_turn G) g) ∙ length-append (each g (cost_turn G)) (cost_turn G g) ∙ ap (λ (n : ℕ). length (each g (cost_turn G)) + n) (turn-length g)

  module _ (g : ℕ) {c₀ : ℕ} {ss₀ ss : List ℕ} {t t' : Cells} (h : PutsColumns (each g (cost_turn G)) c₀ ss₀ t ss t') where
    pub with-cost : {c : ℕ} {ss' : List ℕ} {t'' : Cells} → c ≡ c₀ + length (each g (cost_turn G)) → G.piecewise g ≡ true → PutsCells (cost_cells G g) t' t''
        → ss' ≡ set ss (c + 1) t''.at → PutsColumns (each (g + 1) (cost_turn G)) c₀ ss₀ t ss' t''
    unfolding cost_turn
    with-cost e on w s = columns-turn (cost_turn G) g h e (rw on (column-one w s))

    pub without-cost : G.piecewise g ≡ false → PutsColumns (each (g + 1) (cost_turn G)) c₀ ss₀ t ss t'
    unfolding cost_turn
    without-cost off = columns-turn (cost_turn G) g h refl (rw off columns-none)

  pub wr_are : (e : ℕ) {p : Products} {x : Series} → p ≡ products_of (branch_with x zero64) wr → x ≡ series_of (branch_at rounded G e) → product_cells G e p ≡ ohm_column_cells G wr e
  unfolding product_cells ohm_column_cells ohm_value
  wr_are e p q = rw (p, q)

  pub wi_are : (e : ℕ) {p : Products} {x : Series} → p ≡ products_of (branch_with x zero64) wi → x ≡ series_of (branch_at rounded G e) → product_cells G e p ≡ ohm_column_cells G wi e
  unfolding product_cells ohm_column_cells ohm_value
  wi_are e p q = rw (p, q)

  module _ (laid : Laid l bytes) where
    -- the limited branches up to one are among all
    pub limited-below : (e : ℕ) → e ≤ l.m → count e G.limited ≤ l.t
    limited-below e h = omega (arith, sum_mono e l.m (λ i. bit (G.limited i)) h, limits_are l bytes laid)
