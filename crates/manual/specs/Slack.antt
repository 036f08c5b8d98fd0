-- Clarabel's s = b - A x of a row, times 2 tm2, so that "each denominator and each half" is multiplied out: the product's own cells and b
-- (`Rows.cells`, `Rows.rhs`), read over any operations. x holds the columns' values.
use Rattle.std.specs.Prelude.{List}
use Rattle.ring.specs.Ops.{Ops}
use Rattle.records.specs.AcNetwork.{AcNetwork}
use Rattle.rows.specs.Rows.{Cell, cells, rhs, under}
use Rattle.rows.specs.Scaled.{sum_over}
use Rattle.numbering.specs.declared.ColumnName.{ColumnName}
use Rattle.numbering.specs.declared.RowName.{RowName}

module _ {A : Type 0} (o : Ops A) (tm2 : A) (x : ColumnName → A) where
  infixl 60 ◌⊖◌
  infixl 70 ◌⊗◌
  open o use {◌-◌ as ◌⊖◌, ◌*◌ as ◌⊗◌}

  abbrev pub slack_of : A → List (Cell A) → A
  slack_of b cs = o.two ⊗ tm2 ⊗ b ⊖ sum_over o x tm2 cs

abbrev pub slack : {A : Type 0} → Ops A → AcNetwork A → (ColumnName → A) → RowName → A
slack o G x r = slack_of o (under o G r) x (rhs o G r) (cells o G r)
