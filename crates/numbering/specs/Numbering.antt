-- The numbering of the columns and rows: document 01's blocks in their order (`problem/conic.rs`, `SocWrLayout`), and names as keys and back.
use Rattle.std.specs.Prelude.{ℕ, ◌+◌, ◌*◌, ◌≡◌, Bool, not, ◌||◌, List, [], ◌∷◌, ◌++◌, eqb, get_or, replicate}
use Rattle.lists.specs.UpTo.{bit, count}
use Rattle.records.specs.AcNetwork.{AcNetwork}
use Rattle.numbering.specs.Blocks.{Block, alike, unlike, total, key, Valid, number_of, key_at}
use Rattle.numbering.specs.declared.Key.{Key}
use Rattle.numbering.specs.declared.ColumnName.{ColumnName}
use Rattle.numbering.specs.declared.ColumnName.TheVariants.{Pg, Qg, W, Wr, Wi, Pf, Pt, Qf, Qt, CostOf}
use Rattle.numbering.specs.declared.RowName.{RowName}
use Rattle.numbering.specs.declared.RowName.TheVariants.{Pbal, Qbal, OhmPf, OhmQf, OhmPt, OhmQt, Wub, Wlb, Pgub, Pglb, Qgub, Qglb, Angub, Anglb, Segment, Jabr, Thermal}

-- ---- "A name is one block of these columns or rows with one of its buses, branches, generators or segments of a generator, and in jabr
-- and thermal also the place among the branch's rows": a name as a key of block, record and place

-- the blocks whose records differ, and the four rows of a branch, by number
abbrev pub cost_columns : ℕ
cost_columns = 9

abbrev pub cost_rows : ℕ
cost_rows = 14

abbrev pub jabr_rows : ℕ
jabr_rows = 15

abbrev pub thermal_rows : ℕ
thermal_rows = 16

-- how many blocks there are
abbrev pub column_many : ℕ
column_many = 10

abbrev pub row_many : ℕ
row_many = 17

abbrev pub column_key : ColumnName → Key
column_key (Pg g) = key 0 g 0
column_key (Qg g) = key 1 g 0
column_key (W i) = key 2 i 0
column_key (Wr e) = key 3 e 0
column_key (Wi e) = key 4 e 0
column_key (Pf e) = key 5 e 0
column_key (Pt e) = key 6 e 0
column_key (Qf e) = key 7 e 0
column_key (Qt e) = key 8 e 0
column_key (CostOf g) = key cost_columns g 0

abbrev pub row_key : RowName → Key
row_key (Pbal i) = key 0 i 0
row_key (Qbal i) = key 1 i 0
row_key (OhmPf e) = key 2 e 0
row_key (OhmQf e) = key 3 e 0
row_key (OhmPt e) = key 4 e 0
row_key (OhmQt e) = key 5 e 0
row_key (Wub i) = key 6 i 0
row_key (Wlb i) = key 7 i 0
row_key (Pgub g) = key 8 g 0
row_key (Pglb g) = key 9 g 0
row_key (Qgub g) = key 10 g 0
row_key (Qglb g) = key 11 g 0
row_key (Angub e) = key 12 e 0
row_key (Anglb e) = key 13 e 0
row_key (Segment g t) = key cost_rows g t
row_key (Jabr e q) = key jabr_rows e q
row_key (Thermal e q) = key thermal_rows e q

-- whether the counts alone give the number: of any column but those of cost, of any row but those of segments and thermal limits
abbrev pub column_counted : ColumnName → Bool
column_counted x = not (eqb (column_key x).block cost_columns)

abbrev pub row_counted : RowName → Bool
row_counted x = not (eqb (row_key x).block cost_rows || eqb (row_key x).block thermal_rows)

-- two keys are the same
pub record SameKey (a b : Key) : Type 0 where
  pub block : a.block ≡ b.block
  pub item : a.item ≡ b.item
  pub place : a.place ≡ b.place

-- ---- and back: the names that record i and place q have in the blocks, in the blocks' order

abbrev pub column_names : ℕ → List ColumnName
column_names i = Pg i ∷ Qg i ∷ W i ∷ Wr i ∷ Wi i ∷ Pf i ∷ Pt i ∷ Qf i ∷ Qt i ∷ CostOf i ∷ []

abbrev pub column_of : Key → ColumnName
column_of x = get_or (column_names x.item) x.block (Pg 0)

abbrev pub row_names : ℕ → ℕ → List RowName
row_names i q =
    Pbal i ∷ Qbal i ∷ OhmPf i ∷ OhmQf i ∷ OhmPt i ∷ OhmQt i ∷ Wub i ∷ Wlb i ∷ Pgub i ∷ Pglb i ∷ Qgub i ∷ Qglb i
    ∷ Angub i ∷ Anglb i ∷ Segment i q ∷ Jabr i q ∷ Thermal i q ∷ []

abbrev pub row_of : Key → RowName
row_of x = get_or (row_names x.item x.place) x.block (Pbal 0)

-- ---- "Columns: pg k, qg k, w n, wr m, wi m, pf m, pt m, qf m, qt m, then one for each piecewise generator": the last block is cost
unfoldable pub column_table : (n m k : ℕ) → Block → List Block
column_table n m k cost =
    alike k 1 ∷ alike k 1 ∷ alike n 1
    ∷ alike m 1 ∷ alike m 1 ∷ alike m 1 ∷ alike m 1 ∷ alike m 1 ∷ alike m 1
    ∷ cost ∷ []

-- "Rows: pbal n, qbal n, ohm_pf m, ohm_qf m, ohm_pt m, ohm_qt m; wub n, wlb n, pgub k, pglb k, qgub k, qglb k, angub m, anglb m, cost S;
-- jabr 4 a branch; thermal 6 for each active branch"
unfoldable pub row_table : (n m k : ℕ) → Block → Block → List Block
row_table n m k cost thermal =
    alike n 1 ∷ alike n 1
    ∷ alike m 1 ∷ alike m 1 ∷ alike m 1 ∷ alike m 1
    ∷ alike n 1 ∷ alike n 1
    ∷ alike k 1 ∷ alike k 1 ∷ alike k 1 ∷ alike k 1
    ∷ alike m 1 ∷ alike m 1
    ∷ cost
    ∷ alike m 4
    ∷ thermal ∷ []

module _ {A : Type 0} (G : AcNetwork A) where
  -- T: the limited branches; and the piecewise generators
  abbrev pub limits : ℕ
  limits = count G.m G.limited

  abbrev pub curves : ℕ
  curves = count G.k G.piecewise

  -- the network's blocks: a cost column for each piecewise generator, a cost row for each segment, six rows for each limited branch
  unfoldable pub column_blocks : List Block
  column_blocks = column_table G.n G.m G.k (unlike G.k 1 (λ g. bit (G.piecewise g)))

  unfoldable pub row_blocks : List Block
  row_blocks = row_table G.n G.m G.k (unlike G.k 1 G.segments) (unlike G.m 6 (λ e. bit (G.limited e)))

  -- ---- the columns
  unfoldable pub nvar : ℕ
  nvar = total column_blocks

  unfoldable pub column_number : ColumnName → ℕ
  column_number x = number_of column_blocks (column_key x)

  unfoldable pub column_at : ℕ → ColumnName
  column_at p = column_of (key_at column_blocks p)

  -- "a name stands at its number": the network has a column of this name, and its number is p
  pub record ColumnStands (p : ℕ) (x : ColumnName) : Type 0 where
    pub valid : Valid column_blocks (column_key x)
    pub number : column_number x ≡ p

  -- ---- the rows
  unfoldable pub ncon : ℕ
  ncon = total row_blocks

  unfoldable pub row_number : RowName → ℕ
  row_number x = number_of row_blocks (row_key x)

  unfoldable pub row_at : ℕ → RowName
  row_at p = row_of (key_at row_blocks p)

  pub record RowStands (p : ℕ) (x : RowName) : Type 0 where
    pub valid : Valid row_blocks (row_key x)
    pub number : row_number x ≡ p

  -- ---- "n_eq = 2n + 4m. n_ineq = 2n + 4k + 2m + S. Cones: zero n_eq, nonnegative n_ineq (both listed even at 0), m of length 4, 2T of
  -- length 3"
  abbrev pub n_eq : ℕ
  n_eq = 2 * G.n + 4 * G.m

  abbrev pub n_ineq : ℕ
  n_ineq = 2 * G.n + 4 * G.k + 2 * G.m + G.s

  abbrev pub cone_lengths : List ℕ
  cone_lengths = n_eq ∷ n_ineq ∷ (replicate G.m 4 ++ replicate (2 * limits) 3)

-- all of a list of numbers added
abbrev pub added : List ℕ → ℕ
added [] = 0
added (x ∷ xs) = x + added xs
