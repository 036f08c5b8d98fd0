-- What lists of rows, columns, values and starts stand for, as document 01 has them.
use Rattle.std.specs.Prelude.{ℕ, ◌+◌, ◌-◌, ◌≤◌, ◌<◌, List, length, get_or, Float}
use Rattle.std.specs.Float.{nan}
pub use Rattle.ring.specs.Ops.{zero64}
use Rattle.lists.specs.UpTo.{listed}
use Rattle.lists.specs.Entries.{Entry, entry, Cell, cell}

-- the entries that lists of rows, columns and values hold
unfoldable pub entries : List ℕ → List ℕ → List Float → List Entry
entries rows cols values = listed (length rows) (λ j. entry (get_or rows j 0) (get_or cols j 0) (get_or values j nan))

-- rows with a weight beside each
unfoldable pub cells : List ℕ → List Float → List Cell
cells rows weights = listed (length rows) (λ j. cell (get_or rows j 0) (get_or weights j nan))

-- ---- a selector: item o is the rows and weights from starts o up to starts (o + 1)

-- "a starts list one longer than the items"
abbrev pub items_of : List ℕ → ℕ
items_of starts = length starts - 1

abbrev pub start_of : List ℕ → ℕ → ℕ
start_of starts o = get_or starts o 0

-- the rows and weights from first up to past
unfoldable pub segment : List ℕ → List Float → ℕ → ℕ → List Cell
segment rows weights first past = listed (past - first) (λ j. cell (get_or rows (first + j) 0) (get_or weights (first + j) nan))

-- `op_map[o]`
unfoldable pub item_of : List ℕ → List ℕ → List Float → ℕ → List Cell
item_of starts rows weights o = segment rows weights (start_of starts o) (start_of starts (o + 1))

-- segments that rise inside the lists, each row below dim
pub record Segments (dim : ℕ) (starts rows : List ℕ) (weights : List Float) (segments : ℕ) : Type 0 where
  pub few : segments < length starts
  pub rises : (s : ℕ) → s < segments → start_of starts s ≤ start_of starts (s + 1)
  pub rows-within : (s : ℕ) → s < segments → start_of starts (s + 1) ≤ length rows
  pub weights_within : (s : ℕ) → s < segments → start_of starts (s + 1) ≤ length weights
  pub below : (s : ℕ) → s < segments → (j : ℕ) → j < start_of starts (s + 1) → get_or rows j 0 < dim
