-- What is left in lent lists of compressed columns.
use Rattle.std.specs.Prelude.{ℕ, ◌≡◌, List}
use Rattle.lists.specs.Entries.{Cell}
use Rattle.cells.specs.Columns.{Whole}
use Rattle.cells.specs.declared.Compressed.{Compressed}

-- the same three lists are lent before and after
pub record SameLists (t t' : Compressed) : Type 0 where
  pub starts : t'.starts.ghost_name ≡ t.starts.ghost_name
  pub rows : t'.rows.ghost_name ≡ t.rows.ghost_name
  pub values : t'.values.ghost_name ≡ t.values.ghost_name

-- they are, and all columns were written to them from the front
pub record WholeIn (cs : List (List Cell)) (t t' : Compressed) (next : ℕ) : Type 0 where
  pub lent : SameLists t t'
  pub whole : Whole cs t.starts.now t.rows.now t.values.now t'.starts.now t'.rows.now t'.values.now next
