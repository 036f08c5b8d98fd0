-- Answers after a check, and what blocks' lengths give of blocks. Assumes nothing.
use Rattle.std.proofs.Common.{ℕ, zero, suc, ◌+◌, ◌*◌, ◌<◌, ◌≤◌, ◌≡◌, refl, sym, ap, ◌∙◌, List, [], ◌∷◌, length, get_or, arith, add-one, one-mul}
use Rattle.lists.specs.UpTo.{up_to}
use Rattle.lists.proofs.Sums.{sum-next}
use Rattle.numbering.specs.Blocks.{Block, alike, size, records, start, block_at, before, number_of, key}
use Rattle.numbering.specs.Numbering.{column_table, row_table, column_many, row_many, jabr_rows, thermal_rows}
use Rattle.numbering.specs.Layout.{layout_columns, layout_rows, layout_row, sizes_of, start_in, InRange}
use Rattle.numbering.specs.declared.SocWrLayout.{SocWrLayout}
use Rattle.numbering.specs.declared.RowName.TheVariants.{Jabr, Thermal}
use Rattle.numbering.proofs.Points.{before-zero, before-next}

-- ---- where a block starts, from the blocks' lengths
pub start-more : (ws : List ℕ) (b : ℕ) → start_in ws (b + 1) ≡ start_in ws b + get_or ws b 0
unfolding start_in
start-more ws b = sum-next b (λ j. get_or ws j 0)

pub start_none : (ws : List ℕ) → start_in ws 0 ≡ 0
unfolding start_in up_to
start_none ws = refl

pub size-at : (bs : List Block) (b : ℕ) → get_or (sizes_of bs) b 0 ≡ size (block_at bs b)
unfolding sizes_of size start
size-at [] b = omega arith
size-at (B ∷ bs) zero = refl
size-at (B ∷ bs) (suc b) = size-at bs b

pub start_is : (bs : List Block) (b : ℕ) → start_in (sizes_of bs) b ≡ before bs b
start_is bs zero = start_none (sizes_of bs) ∙ sym (before-zero bs)
start_is bs (suc b) = omega (arith, rw add-one at (start-more (sizes_of bs) b), start_is bs b, size-at bs b, before-next bs b)

-- ---- the first c blocks have one point for each record
abbrev pub Plain : List Block → ℕ → Type 0
Plain bs zero = Unit
Plain [] (suc c) = ⊥
Plain (B ∷ bs) (suc c) = (B ≡ alike (records B) 1) × Plain bs c

plain_size : (B : Block) (n : ℕ) → B ≡ alike n 1 → size B ≡ n
unfolding size start
plain_size B n e = rw e (one-mul n)

pub plain_at : (bs : List Block) (c : ℕ) → Plain bs c → (b : ℕ) → b < c → block_at bs b ≡ alike (get_or (sizes_of bs) b 0) 1
unfolding sizes_of
plain_at bs zero h b l = absurd (omega arith)
plain_at [] (suc c) h b l = absurd h
plain_at (B ∷ bs) (suc c) h zero l = h.0 ∙ ap (λ (n : ℕ). alike n 1) (sym (plain_size B (records B) h.0))
plain_at (B ∷ bs) (suc c) h (suc b) l = plain_at bs c h.1 b (omega arith)

-- the number in such a block
pub plain-number : (bs : List Block) (c : ℕ) → Plain bs c → (b i : ℕ) → b < c → before bs b + i ≡ number_of bs (key b i 0)
unfolding number_of start
plain-number bs c h b i l = rw (plain_at bs c h b l) (omega arith)

-- so its records are as many as its length says
pub plain-records : (bs : List Block) (c : ℕ) → Plain bs c → (b : ℕ) → b < c → get_or (sizes_of bs) b 0 ≡ records (block_at bs b)
plain-records bs c h b l = sym (ap records (plain_at bs c h b l))

-- ---- the layout's blocks
module _ (l : SocWrLayout) where
  pub plain-columns : Plain (layout_columns l) column_many
  unfolding layout_columns column_table
  plain-columns = search

  pub plain_rows : Plain (layout_rows l) jabr_rows
  unfolding layout_rows row_table
  plain_rows = search

  -- the blocks of more rows to a record
  pub jabr-number : (e q : ℕ) → before (layout_rows l) jabr_rows + (4 * e + q) ≡ layout_row l (Jabr e q)
  unfolding number_of layout_rows row_table start
  jabr-number e q = omega arith

  pub thermal-number : (e q : ℕ) → before (layout_rows l) thermal_rows + (6 * e + q) ≡ layout_row l (Thermal e q)
  unfolding number_of layout_rows row_table start
  thermal-number e q = omega arith

-- every length is at most 65,536
abbrev Most : List ℕ → Type 0
Most [] = Unit
Most (w ∷ ws) = (w ≤ 65536) × Most ws

most : (ws : List ℕ) → Most ws → (j : ℕ) → get_or ws j 0 ≤ 65536
most [] h j = omega arith
most (w ∷ ws) h zero = h.0
most (w ∷ ws) h (suc j) = most ws h.1 j

pub column-most : (l : SocWrLayout) → InRange l → (j : ℕ) → get_or (sizes_of (layout_columns l)) j 0 ≤ 65536
unfolding sizes_of layout_columns column_table size start
column-most l h = most (sizes_of (layout_columns l)) (omega arith)

pub row-most : (l : SocWrLayout) → InRange l → (j : ℕ) → get_or (sizes_of (layout_rows l)) j 0 ≤ 65536
unfolding sizes_of layout_rows row_table size start
row-most l h = most (sizes_of (layout_rows l)) (omega arith)

pub column_blocks_lem : (l : SocWrLayout) → length (sizes_of (layout_columns l)) ≡ column_many
unfolding sizes_of layout_columns column_table
column_blocks_lem l = refl

pub row_blocks_lem : (l : SocWrLayout) → length (sizes_of (layout_rows l)) ≡ row_many
unfolding sizes_of layout_rows row_table
row_blocks_lem l = refl
