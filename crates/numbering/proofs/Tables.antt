-- The blocks of a network and of a layout one by one, and that they have the same lengths: both come of one table. Assumes nothing.
use Rattle.std.proofs.Common.{ℕ, ◌*◌, ◌<◌, ◌≡◌, refl, sym, ap, ◌∙◌, List, arith, length, get_or}
use Rattle.lists.specs.UpTo.{bit}
use Rattle.records.specs.AcNetwork.{AcNetwork}
use Rattle.numbering.specs.Blocks.{alike, unlike, start, size, block_at, before, total, key, Valid, number_of}
use Rattle.numbering.specs.Numbering.{column_table, row_table, column_blocks, row_blocks, column_many, row_many, cost_columns, cost_rows, jabr_rows}
use Rattle.numbering.specs.Numbering.{thermal_rows, column_key, row_key, column_number, row_number, nvar, ncon}
use Rattle.numbering.specs.Layout.{layout_columns, layout_rows, sizes_of, start_in, nvar_of, ncon_of}
use Rattle.numbering.specs.Laid.{net_of, Laid}
use Rattle.numbering.specs.declared.SocWrLayout.{SocWrLayout}
use Rattle.numbering.specs.declared.ColumnName.{ColumnName}
use Rattle.numbering.specs.declared.RowName.{RowName}
use Rattle.numbering.proofs.Points.{key_below}
use Rattle.numbering.proofs.Entered.{Plain, plain_at, plain-number, plain-columns, plain_rows, start_is, column_blocks_lem, row_blocks_lem}
use Rattle.numbering.proofs.Laid.{limits_are, curves_are}

module _ {A : Type 0} (G : AcNetwork A) where
  -- ---- a name's number by its key; that of a valid key is below the end
  pub column-keyed : (x : ColumnName) → column_number G x ≡ number_of (column_blocks G) (column_key x)
  unfolding column_number
  column-keyed x = refl

  pub row-keyed : (x : RowName) → row_number G x ≡ number_of (row_blocks G) (row_key x)
  unfolding row_number
  row-keyed x = refl

  pub column-inside : (x : ColumnName) → Valid (column_blocks G) (column_key x) → column_number G x < nvar G
  unfolding column_number nvar
  column-inside x v = key_below (column_blocks G) (column_key x) v

  pub row_inside : (x : RowName) → Valid (row_blocks G) (row_key x) → row_number G x < ncon G
  unfolding row_number ncon
  row_inside x v = key_below (row_blocks G) (row_key x) v

  -- ---- how many blocks there are, and which have one point for each record
  pub columns-many : length (column_blocks G) ≡ column_many
  unfolding column_blocks column_table
  columns-many = refl

  pub rows-many : length (row_blocks G) ≡ row_many
  unfolding row_blocks row_table
  rows-many = refl

  pub columns-plain : Plain (column_blocks G) cost_columns
  unfolding column_blocks column_table
  columns-plain = search

  pub rows-plain : Plain (row_blocks G) cost_rows
  unfolding row_blocks row_table
  rows-plain = search

  -- ---- the others
  pub cost-block : block_at (column_blocks G) cost_columns ≡ unlike G.k 1 (λ g. bit (G.piecewise g))
  unfolding column_blocks column_table
  cost-block = refl

  pub segment-block : block_at (row_blocks G) cost_rows ≡ unlike G.k 1 G.segments
  unfolding row_blocks row_table
  segment-block = refl

  pub jabr-block : block_at (row_blocks G) jabr_rows ≡ alike G.m 4
  unfolding row_blocks row_table
  jabr-block = refl

  pub thermal-block : block_at (row_blocks G) thermal_rows ≡ unlike G.m 6 (λ e. bit (G.limited e))
  unfolding row_blocks row_table
  thermal-block = refl

module _ (l : SocWrLayout) where
  -- ---- the layout's blocks: the lengths of those in which a record has more or fewer points than one, and the end of all
  pub cost-length : get_or (sizes_of (layout_columns l)) cost_columns 0 ≡ l.cost_columns
  unfolding sizes_of layout_columns column_table size start
  cost-length = omega arith

  pub segment-length : get_or (sizes_of (layout_rows l)) cost_rows 0 ≡ l.s
  unfolding sizes_of layout_rows row_table size start
  segment-length = omega arith

  pub jabr-length : get_or (sizes_of (layout_rows l)) jabr_rows 0 ≡ 4 * l.m
  unfolding sizes_of layout_rows row_table size start
  jabr-length = omega arith

  pub thermal-length : get_or (sizes_of (layout_rows l)) thermal_rows 0 ≡ 6 * l.t
  unfolding sizes_of layout_rows row_table size start
  thermal-length = omega arith

  pub columns-end : start_in (sizes_of (layout_columns l)) (length (sizes_of (layout_columns l))) ≡ nvar_of l
  unfolding nvar_of total layout_columns column_table
  columns-end = rw (column_blocks_lem l) (start_is (layout_columns l) column_many)

  pub rows_end : start_in (sizes_of (layout_rows l)) (length (sizes_of (layout_rows l))) ≡ ncon_of l
  unfolding ncon_of total layout_rows row_table
  rows_end = rw (row_blocks_lem l) (start_is (layout_rows l) row_many)

  pub jabr-layout : block_at (layout_rows l) jabr_rows ≡ alike l.m 4
  unfolding layout_rows row_table
  jabr-layout = refl

-- ---- the same lengths by network and by layout; so the blocks of one point for each record are the same
module _ (l : SocWrLayout) (b : List ℕ) (h : Laid l b) where
  column_lengths : sizes_of (column_blocks (net_of l b)) ≡ sizes_of (layout_columns l)
  unfolding sizes_of column_blocks layout_columns column_table size start
  column_lengths = rw (curves_are l b h)

  row_lengths : sizes_of (row_blocks (net_of l b)) ≡ sizes_of (layout_rows l)
  unfolding sizes_of row_blocks layout_rows row_table size start
  row_lengths = rw (h.accepted.counts-add, limits_are l b h)

  pub laid-column-block : (j : ℕ) → j < cost_columns → block_at (column_blocks (net_of l b)) j ≡ alike (get_or (sizes_of (layout_columns l)) j 0) 1
  laid-column-block j k =
      plain_at (column_blocks (net_of l b)) cost_columns (columns-plain (net_of l b)) j k ∙ ap (λ (ws : List ℕ). alike (get_or ws j 0) 1) column_lengths

  pub laid-row-block : (j : ℕ) → j < cost_rows → block_at (row_blocks (net_of l b)) j ≡ alike (get_or (sizes_of (layout_rows l)) j 0) 1
  laid-row-block j k =
      plain_at (row_blocks (net_of l b)) cost_rows (rows-plain (net_of l b)) j k ∙ ap (λ (ws : List ℕ). alike (get_or ws j 0) 1) row_lengths

  -- and the numbers in them too
  column-starts : (j : ℕ) → before (layout_columns l) j ≡ before (column_blocks (net_of l b)) j
  column-starts j =
      sym (start_is (layout_columns l) j) ∙ ap (λ (ws : List ℕ). start_in ws j) (sym column_lengths) ∙ start_is (column_blocks (net_of l b)) j

  row-starts : (j : ℕ) → before (layout_rows l) j ≡ before (row_blocks (net_of l b)) j
  row-starts j =
      sym (start_is (layout_rows l) j) ∙ ap (λ (ws : List ℕ). start_in ws j) (sym row_lengths) ∙ start_is (row_blocks (net_of l b)) j

  pub laid-column-key : (j i : ℕ) → j < cost_columns → number_of (layout_columns l) (key j i 0) ≡ number_of (column_blocks (net_of l b)) (key j i 0)
  laid-column-key j i k =
      omega (
        arith,
        column-starts j,
        plain-number (layout_columns l) column_many (plain-columns l) j i (omega arith),
        plain-number (column_blocks (net_of l b)) cost_columns (columns-plain (net_of l b)) j i k,
      )

  pub laid-row-key : (j i : ℕ) → j < cost_rows → number_of (layout_rows l) (key j i 0) ≡ number_of (row_blocks (net_of l b)) (key j i 0)
  laid-row-key j i k =
      omega (
        arith,
        row-starts j,
        plain-number (layout_rows l) jabr_rows (plain_rows l) j i (omega arith),
        plain-number (row_blocks (net_of l b)) cost_rows (rows-plain (net_of l b)) j i k,
      )
