-- A case as a caller in C lends it.
use Rattle.std.specs.Prelude.{ℕ, List}
use Rattle.std.specs.Borrow.{Bor}
use Rattle.records.specs.declared.Case.{Case}

abbrev pub case_of : (n m k s : ℕ) → Bor (List ℕ) → Case
case_of n m k s records = record { n = n; m = m; k = k; s = s; bytes = records }
