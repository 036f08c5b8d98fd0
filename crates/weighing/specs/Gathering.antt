-- The nonzero values of a right-hand side, gathered in a buffer of rows and values.
use Rattle.std.specs.Prelude.{ℕ, ◌+◌, ◌*◌, ◌-◌, ◌≤◌, ◌<◌, ◌≡◌, cond, List, ◌++◌, ltb, eqb, get_or, Float}
use Rattle.std.specs.Float.{nan}
use Rattle.lists.specs.UpTo.{each, listed}
use Rattle.lists.specs.Entries.{Cell, cell}
use Rattle.sparse.specs.Sparse.{start_of, item_of}
use Rattle.weighing.specs.Weighing.{nonzero_at}

-- the first n cells of the buffer
unfoldable pub held : List ℕ → List Float → ℕ → List Cell
held rows values n = listed n (λ j. cell (get_or rows j 0) (get_or values j nan))

-- the nonzero values from row a up to row b of the column that begins at base
unfoldable pub span : List Float → ℕ → ℕ → ℕ → List Cell
span rhs base a b = each (b - a) (λ i. nonzero_at rhs base (a + i))

-- the cells ts, whose rows are below least, stand behind the first n
pub record Added (least : ℕ) (ts : List Cell) (rows : List ℕ) (values : List Float) (n : ℕ) (rows' : List ℕ) (values' : List Float) (n' : ℕ) : Type 0 where
  pub adds : held rows' values' n' ≡ held rows values n ++ ts
  pub below : (b : ℕ) → least ≤ b → ((j : ℕ) → j < n → get_or rows j 0 < b) → (j : ℕ) → j < n' → get_or rows' j 0 < b

-- from row first the column was walked to row next, and there the buffer has count cells
pub record Stopped (first dim count next : ℕ) : Type 0 where
  pub moved : first < next
  pub inside : next ≤ dim
  pub room : count ≤ 256
  pub full : next < dim → count ≡ 256

-- how many rows of column k a walk has passed that stands at row r of column c
unfoldable pub passed_rows : ℕ → ℕ → ℕ → ℕ → ℕ
passed_rows dim c r k = cond (ltb k c) dim (cond (eqb k c) r 0)

-- segment t of the buffer is column c + t, from the row where the walk stood up to row past t
pub record Segmented (dim c r : ℕ) (rhs : List Float) (past : ℕ → ℕ) (starts rows : List ℕ) (values : List Float) (segments n : ℕ) : Type 0 where
  pub last : start_of starts segments ≡ n
  pub rises : (t : ℕ) → t < segments → start_of starts t ≤ start_of starts (t + 1)
  pub within : (t : ℕ) → t < segments → start_of starts (t + 1) ≤ n
  pub holds : (t : ℕ) → t < segments → item_of starts rows values t ≡ span rhs ((c + t) * dim) (passed_rows dim c r (c + t)) (past t)
  pub below : (j : ℕ) → j < n → get_or rows j 0 < dim

-- the buffer holds the walk from row r of column c to row r' of column c', and no other column was passed
pub record Filling (dim columns c r : ℕ) (rhs : List Float) (starts rows : List ℕ) (values : List Float) (segments c' r' : ℕ) : Type 0 where
  pub count : ℕ
  pub room : count ≤ 256
  pub has : Segmented dim c r rhs (λ t. passed_rows dim c' r' (c + t)) starts rows values segments count
  pub few : segments ≤ 8
  pub inside : c + segments ≤ columns
  pub onward : (k : ℕ) → passed_rows dim c r k ≤ passed_rows dim c' r' k
  pub earlier : (k : ℕ) → k < c → passed_rows dim c' r' k ≡ passed_rows dim c r k
  pub later : (k : ℕ) → c + segments ≤ k → passed_rows dim c' r' k ≡ passed_rows dim c r k
  pub column-inside : c' ≤ columns
  pub row_inside : r' < dim
  pub moved : c * dim + r < c' * dim + r'
