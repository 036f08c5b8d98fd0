-- Laws of the numbering, for all crates above: the number of each kind of name; every number below the end; layout and network agree.
-- A number is the sum of the blocks before its own, so each is a sum of counts: the formulas of the Rust's `SocWrLayout`. Assumes nothing.
use Rattle.std.proofs.Common.{ℕ, ◌+◌, ◌*◌, ◌≤◌, ◌<◌, ◌≡◌, refl, ap, true, arith}
use Rattle.std.proofs.lemmas.Bool.{false≢true}
use Rattle.lists.specs.UpTo.{sum, bit, count}
use Rattle.records.specs.AcNetwork.{AcNetwork}
use Rattle.numbering.specs.Blocks.{Block, start, size, before, total, Valid, number_of}
use Rattle.numbering.specs.Numbering.{limits, curves, column_table, row_table, column_blocks, row_blocks, column_key, row_key, column_counted}
use Rattle.numbering.specs.Numbering.{row_counted, column_number, row_number, nvar, ncon}
use Rattle.numbering.specs.Layout.{InRange, layout_columns, layout_rows, layout_column, layout_row, nvar_of, ncon_of}
use Rattle.numbering.specs.declared.SocWrLayout.{SocWrLayout}
use Rattle.numbering.specs.declared.ColumnName.{ColumnName}
use Rattle.numbering.specs.declared.ColumnName.TheVariants.{Pg, Qg, W, Wr, Wi, Pf, Pt, Qf, Qt, CostOf}
use Rattle.numbering.specs.declared.RowName.{RowName}
use Rattle.numbering.specs.declared.RowName.TheVariants.{Pbal, Qbal, OhmPf, OhmQf, OhmPt, OhmQt, Wub, Wlb, Pgub, Pglb, Qgub, Qglb, Angub, Anglb, Segment, Jabr, Thermal}
use Rattle.numbering.proofs.Points.{key_below, block-rises}

-- ---- the numbers as sums of counts; c: the cost columns before a generator's
abbrev pub column_sum : (n m k : ℕ) → (ℕ → ℕ) → ColumnName → ℕ
column_sum n m k c (Pg g) = g
column_sum n m k c (Qg g) = k + g
column_sum n m k c (W i) = 2 * k + i
column_sum n m k c (Wr e) = 2 * k + n + e
column_sum n m k c (Wi e) = 2 * k + n + m + e
column_sum n m k c (Pf e) = 2 * k + n + 2 * m + e
column_sum n m k c (Pt e) = 2 * k + n + 3 * m + e
column_sum n m k c (Qf e) = 2 * k + n + 4 * m + e
column_sum n m k c (Qt e) = 2 * k + n + 5 * m + e
column_sum n m k c (CostOf g) = 2 * k + n + 6 * m + c g

-- s: the segments; c: those of the generators before one; t: the limited branches before one
abbrev pub row_sum : (n m k s : ℕ) → (ℕ → ℕ) → (ℕ → ℕ) → RowName → ℕ
row_sum n m k s c t (Pbal i) = i
row_sum n m k s c t (Qbal i) = n + i
row_sum n m k s c t (OhmPf e) = 2 * n + e
row_sum n m k s c t (OhmQf e) = 2 * n + m + e
row_sum n m k s c t (OhmPt e) = 2 * n + 2 * m + e
row_sum n m k s c t (OhmQt e) = 2 * n + 3 * m + e
row_sum n m k s c t (Wub i) = 2 * n + 4 * m + i
row_sum n m k s c t (Wlb i) = 3 * n + 4 * m + i
row_sum n m k s c t (Pgub g) = 4 * n + 4 * m + g
row_sum n m k s c t (Pglb g) = 4 * n + 4 * m + k + g
row_sum n m k s c t (Qgub g) = 4 * n + 4 * m + 2 * k + g
row_sum n m k s c t (Qglb g) = 4 * n + 4 * m + 3 * k + g
row_sum n m k s c t (Angub e) = 4 * n + 4 * m + 4 * k + e
row_sum n m k s c t (Anglb e) = 4 * n + 5 * m + 4 * k + e
row_sum n m k s c t (Segment g q) = 4 * n + 6 * m + 4 * k + c g + q
row_sum n m k s c t (Jabr e q) = 4 * n + 6 * m + 4 * k + s + 4 * e + q
row_sum n m k s c t (Thermal e q) = 4 * n + 10 * m + 4 * k + s + 6 * t e + q

module _ (n m k : ℕ) (C : Block) (c : ℕ → ℕ) (before-cost : (i : ℕ) → start C i ≡ c i) where
  column-sum : (x : ColumnName) → number_of (column_table n m k C) (column_key x) ≡ column_sum n m k c x
  unfolding number_of column_table before size start
  column-sum (Pg g) = omega arith
  column-sum (Qg g) = omega arith
  column-sum (W i) = omega arith
  column-sum (Wr e) = omega arith
  column-sum (Wi e) = omega arith
  column-sum (Pf e) = omega arith
  column-sum (Pt e) = omega arith
  column-sum (Qf e) = omega arith
  column-sum (Qt e) = omega arith
  column-sum (CostOf g) = omega (arith, before-cost g)

  module _ (T : Block) (s : ℕ) (t : ℕ → ℕ) (all-segments : size C ≡ s) (before-limit : (i : ℕ) → start T i ≡ 6 * t i) where
    row-sum : (x : RowName) → number_of (row_table n m k C T) (row_key x) ≡ row_sum n m k s c t x
    unfolding number_of row_table before size start
    row-sum (Pbal i) = omega arith
    row-sum (Qbal i) = omega arith
    row-sum (OhmPf e) = omega arith
    row-sum (OhmQf e) = omega arith
    row-sum (OhmPt e) = omega arith
    row-sum (OhmQt e) = omega arith
    row-sum (Wub i) = omega arith
    row-sum (Wlb i) = omega arith
    row-sum (Pgub g) = omega arith
    row-sum (Pglb g) = omega arith
    row-sum (Qgub g) = omega arith
    row-sum (Qglb g) = omega arith
    row-sum (Angub e) = omega arith
    row-sum (Anglb e) = omega arith
    row-sum (Segment g q) = omega (arith, before-cost g)
    row-sum (Jabr e q) = omega (arith, all-segments)
    row-sum (Thermal e q) = omega (arith, all-segments, before-limit e)

-- ---- by network
module _ {A : Type 0} (G : AcNetwork A) where
  pub column-number : (x : ColumnName) → column_number G x ≡ column_sum G.n G.m G.k (λ g. count g G.piecewise) x
  unfolding column_number column_blocks start
  column-number x = column-sum G.n G.m G.k _ _ (λ i. omega arith) x

  pub row_number_lem : (x : RowName) → row_number G x ≡ row_sum G.n G.m G.k (sum G.k G.segments) (λ g. sum g G.segments) (λ e. count e G.limited) x
  unfolding row_number row_blocks start size
  row_number_lem x = row-sum G.n G.m G.k _ _ (λ i. omega arith) _ _ _ (omega arith) (λ i. omega arith) x

  pub nvar-number : nvar G ≡ 2 * G.k + G.n + 6 * G.m + curves G
  unfolding nvar total before size start column_blocks column_table
  nvar-number = omega arith

  pub ncon-number : ncon G ≡ 4 * G.n + 10 * G.m + 4 * G.k + sum G.k G.segments + 6 * limits G
  unfolding ncon total before size start row_blocks row_table
  ncon-number = omega arith

-- the numbers of a network as sums, for `simp numbers (omega arith)`
pub ruleset numbers = (column-number, row_number_lem, nvar-number, ncon-number)

-- ---- by layout
module _ (l : SocWrLayout) where
  pub layout-column : (x : ColumnName) → layout_column l x ≡ column_sum l.n l.m l.k (λ i. i) x
  unfolding layout_columns start
  layout-column x = column-sum l.n l.m l.k _ _ (λ i. omega arith) x

  pub layout_row_lem : (x : RowName) → layout_row l x ≡ row_sum l.n l.m l.k l.s (λ i. i) (λ i. i) x
  unfolding layout_rows start size
  layout_row_lem x = row-sum l.n l.m l.k _ _ (λ i. omega arith) _ _ _ (omega arith) (λ i. omega arith) x

  pub layout-nvar : nvar_of l ≡ 2 * l.k + l.n + 6 * l.m + l.cost_columns
  unfolding nvar_of total before size start layout_columns column_table
  layout-nvar = omega arith

  pub layout-ncon : ncon_of l ≡ 4 * l.n + 10 * l.m + 4 * l.k + l.s + 6 * l.t
  unfolding ncon_of total before size start layout_rows row_table
  layout-ncon = omega arith

  -- "No row or column number exceeds 294,912": all columns and rows together are that many at most
  pub numbers-few : InRange l → nvar_of l + ncon_of l ≤ 294912
  numbers-few h = omega (arith, layout-nvar, layout-ncon)

-- ---- the counts alone give all numbers but those of cost, segments and thermal limits
pub counted-columns : (n m k : ℕ) (c d : ℕ → ℕ) (x : ColumnName) → column_counted x ≡ true → column_sum n m k c x ≡ column_sum n m k d x
counted-columns n m k c d (Pg g) p = refl
counted-columns n m k c d (Qg g) p = refl
counted-columns n m k c d (W i) p = refl
counted-columns n m k c d (Wr e) p = refl
counted-columns n m k c d (Wi e) p = refl
counted-columns n m k c d (Pf e) p = refl
counted-columns n m k c d (Pt e) p = refl
counted-columns n m k c d (Qf e) p = refl
counted-columns n m k c d (Qt e) p = refl
counted-columns n m k c d (CostOf g) p = absurd (false≢true p)

pub counted-rows : (n m k s u : ℕ) → s ≡ u → (c d t v : ℕ → ℕ) (x : RowName) → row_counted x ≡ true → row_sum n m k s c t x ≡ row_sum n m k u d v x
counted-rows n m k s u e c d t v (Pbal i) p = refl
counted-rows n m k s u e c d t v (Qbal i) p = refl
counted-rows n m k s u e c d t v (OhmPf i) p = refl
counted-rows n m k s u e c d t v (OhmQf i) p = refl
counted-rows n m k s u e c d t v (OhmPt i) p = refl
counted-rows n m k s u e c d t v (OhmQt i) p = refl
counted-rows n m k s u e c d t v (Wub i) p = refl
counted-rows n m k s u e c d t v (Wlb i) p = refl
counted-rows n m k s u e c d t v (Pgub g) p = refl
counted-rows n m k s u e c d t v (Pglb g) p = refl
counted-rows n m k s u e c d t v (Qgub g) p = refl
counted-rows n m k s u e c d t v (Qglb g) p = refl
counted-rows n m k s u e c d t v (Angub i) p = refl
counted-rows n m k s u e c d t v (Anglb i) p = refl
counted-rows n m k s u e c d t v (Segment g q) p = absurd (false≢true p)
counted-rows n m k s u e c d t v (Jabr i q) p = omega arith
counted-rows n m k s u e c d t v (Thermal i q) p = absurd (false≢true p)

-- ---- every number below the end: the names that a network has
module _ {A : Type 0} (G : AcNetwork A) where
  abbrev pub HasColumn : ColumnName → Type 0
  HasColumn (Pg g) = g < G.k
  HasColumn (Qg g) = g < G.k
  HasColumn (W i) = i < G.n
  HasColumn (Wr e) = e < G.m
  HasColumn (Wi e) = e < G.m
  HasColumn (Pf e) = e < G.m
  HasColumn (Pt e) = e < G.m
  HasColumn (Qf e) = e < G.m
  HasColumn (Qt e) = e < G.m
  HasColumn (CostOf g) = (g < G.k) × (G.piecewise g ≡ true)

  abbrev pub HasRow : RowName → Type 0
  HasRow (Pbal i) = i < G.n
  HasRow (Qbal i) = i < G.n
  HasRow (OhmPf e) = e < G.m
  HasRow (OhmQf e) = e < G.m
  HasRow (OhmPt e) = e < G.m
  HasRow (OhmQt e) = e < G.m
  HasRow (Wub i) = i < G.n
  HasRow (Wlb i) = i < G.n
  HasRow (Pgub g) = g < G.k
  HasRow (Pglb g) = g < G.k
  HasRow (Qgub g) = g < G.k
  HasRow (Qglb g) = g < G.k
  HasRow (Angub e) = e < G.m
  HasRow (Anglb e) = e < G.m
  HasRow (Segment g t) = (g < G.k) × (t < G.segments g)
  HasRow (Jabr e q) = (e < G.m) × (q < 4)
  HasRow (Thermal e q) = (e < G.m) × (G.limited e ≡ true) × (q < 6)

  pub column-valid : (x : ColumnName) → HasColumn x → Valid (column_blocks G) (column_key x)
  unfolding column_blocks column_table
  column-valid (Pg g) h = record { item = h; place = omega arith }
  column-valid (Qg g) h = record { item = h; place = omega arith }
  column-valid (W i) h = record { item = h; place = omega arith }
  column-valid (Wr e) h = record { item = h; place = omega arith }
  column-valid (Wi e) h = record { item = h; place = omega arith }
  column-valid (Pf e) h = record { item = h; place = omega arith }
  column-valid (Pt e) h = record { item = h; place = omega arith }
  column-valid (Qf e) h = record { item = h; place = omega arith }
  column-valid (Qt e) h = record { item = h; place = omega arith }
  column-valid (CostOf g) h = record { item = h.0; place = omega (arith, ap bit h.1) }

  pub row-valid : (x : RowName) → HasRow x → Valid (row_blocks G) (row_key x)
  unfolding row_blocks row_table
  row-valid (Pbal i) h = record { item = h; place = omega arith }
  row-valid (Qbal i) h = record { item = h; place = omega arith }
  row-valid (OhmPf e) h = record { item = h; place = omega arith }
  row-valid (OhmQf e) h = record { item = h; place = omega arith }
  row-valid (OhmPt e) h = record { item = h; place = omega arith }
  row-valid (OhmQt e) h = record { item = h; place = omega arith }
  row-valid (Wub i) h = record { item = h; place = omega arith }
  row-valid (Wlb i) h = record { item = h; place = omega arith }
  row-valid (Pgub g) h = record { item = h; place = omega arith }
  row-valid (Pglb g) h = record { item = h; place = omega arith }
  row-valid (Qgub g) h = record { item = h; place = omega arith }
  row-valid (Qglb g) h = record { item = h; place = omega arith }
  row-valid (Angub e) h = record { item = h; place = omega arith }
  row-valid (Anglb e) h = record { item = h; place = omega arith }
  row-valid (Segment g t) h = record { item = h.0; place = omega (arith, h.1) }
  row-valid (Jabr e q) h = record { item = h.0; place = h.1 }
  row-valid (Thermal e q) h = record { item = h.0; place = omega (arith, h.2, ap bit h.1) }

  pub column-below : (x : ColumnName) → HasColumn x → column_number G x < nvar G
  unfolding column_number nvar
  column-below x h = key_below (column_blocks G) (column_key x) (column-valid x h)

  pub row_below : (x : RowName) → HasRow x → row_number G x < ncon G
  unfolding row_number ncon
  row_below x h = key_below (row_blocks G) (row_key x) (row-valid x h)

  -- ---- starts ascend: a name of an earlier block has a smaller number
  pub column-rises : (x y : ColumnName) → HasColumn x → HasColumn y → (column_key x).block < (column_key y).block → column_number G x < column_number G y
  unfolding column_number
  column-rises x y h k l = block-rises (column_blocks G) (column_key x) (column_key y) (column-valid x h) (column-valid y k) l

  pub row-rises : (x y : RowName) → HasRow x → HasRow y → (row_key x).block < (row_key y).block → row_number G x < row_number G y
  unfolding row_number
  row-rises x y h k l = block-rises (row_blocks G) (row_key x) (row_key y) (row-valid x h) (row-valid y k) l
