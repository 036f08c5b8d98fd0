-- The numbering's part of demand 3: "at each point of the numbering stands exactly one named row or column, the one answered when that
-- point's name is asked; cone lengths add up to the rows". It speaks of what the entries answer for these counts and bytes.
use Rattle.std.specs.Prelude.{ℕ, ◌<◌, ◌≡◌, true, List, Some, Ok}
use Rattle.records.specs.Network.{network_of}
use Rattle.numbering.specs.Blocks.{Valid}
use Rattle.numbering.specs.Numbering.{column_key, column_blocks, column_counted, column_number, ColumnStands, nvar, row_key, row_blocks, row_counted}
use Rattle.numbering.specs.Numbering.{row_number, RowStands, ncon, cone_lengths}
use Rattle.numbering.specs.Numbering.{added}
use Rattle.numbering.specs.Layout.{layout_of}
use Rattle.numbering.specs.Lookups.{column_in, row_in}
use Rattle.names.specs.Named.{column_named, row_named}
use Rattle.lookups.specs.Lookups.{column_lookup, row_lookup}
use Rattle.numbering.specs.declared.ColumnName.{ColumnName}
use Rattle.numbering.specs.declared.RowName.{RowName}

-- column p: the name x is answered for p, stands there, is the only one that does, and its number is p when asked
pub record OneColumn (n m k s : ℕ) (b : List ℕ) (p : ℕ) : Type 0 where
  pub name : ColumnName
  pub answered : column_named n m k s b p ≡ Ok name
  pub stands : ColumnStands (network_of n m k s b) p name
  pub only : (y : ColumnName) → ColumnStands (network_of n m k s b) p y → y ≡ name
  pub asked : column_lookup n m k s b (column_key name) ≡ Ok (Some p)

-- row p likewise
pub record OneRow (n m k s : ℕ) (b : List ℕ) (p : ℕ) : Type 0 where
  pub name : RowName
  pub answered : row_named n m k s b p ≡ Ok name
  pub stands : RowStands (network_of n m k s b) p name
  pub only : (y : RowName) → RowStands (network_of n m k s b) p y → y ≡ name
  pub asked : row_lookup n m k s b (row_key name) ≡ Ok (Some p)

pub record Numbered (n m k s : ℕ) (b : List ℕ) : Type 0 where
  -- "The points of the numbering are the columns below nvar .. and the rows below ncon"
  pub columns : (p : ℕ) → p < nvar (network_of n m k s b) → OneColumn n m k s b p
  pub rows : (p : ℕ) → p < ncon (network_of n m k s b) → OneRow n m k s b p
  -- a name that the network has is numbered below the end, and that number is answered
  pub columns-below : (x : ColumnName) → Valid (column_blocks (network_of n m k s b)) (column_key x) → column_number (network_of n m k s b) x < nvar (network_of n m k s b)
  pub columns-asked : (x : ColumnName) → Valid (column_blocks (network_of n m k s b)) (column_key x)
      → column_lookup n m k s b (column_key x) ≡ Ok (Some (column_number (network_of n m k s b) x))
  pub rows-below : (x : RowName) → Valid (row_blocks (network_of n m k s b)) (row_key x) → row_number (network_of n m k s b) x < ncon (network_of n m k s b)
  pub rows-asked : (x : RowName) → Valid (row_blocks (network_of n m k s b)) (row_key x)
      → row_lookup n m k s b (row_key x) ≡ Ok (Some (row_number (network_of n m k s b) x))
  -- and the layout's methods answer it too, of every name whose number the counts give; a branch's four rows at any place
  pub columns-by-layout : (x : ColumnName) → column_counted x ≡ true → Valid (column_blocks (network_of n m k s b)) (column_key x)
      → column_in (layout_of (network_of n m k s b)) x ≡ Ok (column_number (network_of n m k s b) x)
  pub rows-by-layout : (x : RowName) → row_counted x ≡ true → Valid (row_blocks (network_of n m k s b)) (row_key x)
      → row_in (layout_of (network_of n m k s b)) x ≡ Ok (row_number (network_of n m k s b) x)
  -- "cone lengths add up to the rows"
  pub cones-add : added (cone_lengths (network_of n m k s b)) ≡ ncon (network_of n m k s b)
