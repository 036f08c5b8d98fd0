-- Columns written while some starts and some values past theirs are in use: what is written over those next is all that will show.
use Rattle.std.specs.Prelude.{ℕ, ◌+◌, ◌≤◌, ◌≡◌, List, ◌++◌, length}
use Rattle.std.proofs.lemmas.List.Edits.{sets}
use Rattle.lists.specs.Entries.{Cell}
use Rattle.lists.specs.Compressed.{CellOut, WroteCells, pos_of, joined}
use Rattle.cells.specs.Columns.{ends_from}

-- the columns written from column c on; the lists are as after that, once at least `used` more starts are written, and cells up to position `far`
pub record Ahead (cs : List (List Cell)) (c used far : ℕ) (ss₀ : List ℕ) (o : CellOut) (ss : List ℕ) (o' : CellOut) : Type 0 where
  pub next : pos_of o' ≡ pos_of o + length (joined cs)
  pub cells : (ds : List Cell) (o'' : CellOut) → far ≤ pos_of o' + length ds → WroteCells ds o' o'' → WroteCells (joined cs ++ ds) o o''
  pub ends : (zs : List ℕ) → used ≤ length zs → sets ss (c + 1 + length cs) zs ≡ sets (sets ss₀ (c + 1) (ends_from (pos_of o) cs)) (c + 1 + length cs) zs
