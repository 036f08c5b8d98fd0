-- What is done to a buffer.
use Rattle.std.specs.Prelude.{ℕ, ◌≡◌, List}
use Rattle.lists.specs.Entries.{Cell}
use Rattle.sparse.specs.declared.lent.Dense.{Dense}
use Rattle.weighing.specs.Gathering.{Added, Filling}
use Rattle.weighing.specs.declared.Buffer.{Buffer}
use Rattle.weighing.specs.declared.Spot.{Spot}

-- the cells ts, whose rows are below least, stand behind those of b, and the segments are as they were
pub record Adds (least : ℕ) (ts : List Cell) (b b' : Buffer) : Type 0 where
  pub added : Added least ts b.rows b.values b.count b'.rows b'.values b'.count
  pub starts : b'.starts ≡ b.starts
  pub segments : b'.segments ≡ b.segments

-- the buffer holds the walk over the matrix from one spot to another
abbrev pub Fills : Dense → Spot → Spot → Buffer → Type 0
Fills x from to b = Filling x.dim x.columns from.column from.row x.values.now b.starts b.rows b.values b.segments to.column to.row
