-- A by rows (`Program.program`, which the KKT entries use) and A by compressed columns (`Program.matrix`) are one matrix.
use Rattle.std.specs.Prelude.{ℕ, ◌+◌, ◌≤◌, ◌<◌, ◌≡◌, List, [], ◌∷◌, ◌++◌, map, length, get_or, Float}
use Rattle.lists.specs.UpTo.{each, when}
use Rattle.lists.specs.Entries.{Entry, entry, sits, times, Cell, cell}
use Rattle.records.specs.AcNetwork.{AcNetwork}
use Rattle.numbering.specs.Numbering.{nvar, ncon}
use Rattle.rows.specs.Program.{program, matrix}

-- the values that a list of entries has at row r and column c
unfoldable pub values_at : ℕ → ℕ → List Entry → List Float
values_at r c [] = []
values_at r c (e ∷ es) = when (sits r c e) (e.val ∷ []) ++ values_at r c es

-- columns as entries, column after column
unfoldable pub column_entries : List (List Cell) → List Entry
column_entries cs = each (length cs) (λ c. map (λ x. entry x.row c x.val) (get_or cs c []))

-- the rows ascend from lo or more to below hi
pub data Rising : ℕ → ℕ → List Cell → Type 0 where
  stop : {lo hi : ℕ} → lo ≤ hi → Rising lo hi []
  more : {lo hi r : ℕ} {v : Float} {cs : List Cell} → lo ≤ r → Rising (r + 1) hi cs → Rising lo hi (cell r v ∷ cs)

-- "name the same places with the same values, each place once"; "rows ascending in a column"
pub record OneMatrix (G : AcNetwork Float) : Type 0 where
  pub same : (r c : ℕ) → values_at r c (column_entries (matrix G)) ≡ values_at r c (program G)
  pub once : (r c : ℕ) → times r c (program G) ≤ 1
  pub ascending : (c : ℕ) → c < nvar G → Rising 0 (ncon G) (get_or (matrix G) c [])
