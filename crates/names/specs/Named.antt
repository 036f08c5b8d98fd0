-- The name of a number, on counts and records.
use Rattle.std.specs.Prelude.{ℕ, List, ltb, Result}
use Rattle.refusals.specs.Refusals.{◌or_else◌, refuse_unless, answer_if}
use Rattle.refusals.specs.declared.Refusal.{Refusal}
use Rattle.refusals.specs.declared.Refusal.TheVariants.{PastEnd}
use Rattle.records.specs.Network.{network_of}
use Rattle.records.specs.Check.{check_of}
use Rattle.numbering.specs.Numbering.{column_at, nvar, row_at, ncon}
use Rattle.numbering.specs.declared.ColumnName.{ColumnName}
use Rattle.numbering.specs.declared.RowName.{RowName}

-- ---- "Added: the name of a given row or column number"; 7 "row or column number past the end"
module _ (n m k s : ℕ) (b : List ℕ) where
  unfoldable pub column_named : ℕ → Result ColumnName Refusal
  column_named p =
      answer_if (check_of n m k s b or_else refuse_unless (ltb p (nvar (network_of n m k s b))) (PastEnd p)) (column_at (network_of n m k s b) p)

  unfoldable pub row_named : ℕ → Result RowName Refusal
  row_named p = answer_if (check_of n m k s b or_else refuse_unless (ltb p (ncon (network_of n m k s b))) (PastEnd p)) (row_at (network_of n m k s b) p)
