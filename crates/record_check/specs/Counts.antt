-- What the record check counts as it passes the records (the Rust's `SocWrLayout::new`: `thermal_rows` and `cost_columns`).
use Rattle.std.specs.Prelude.{ℕ, ◌+◌, List}
use Rattle.lists.specs.UpTo.{count}
use Rattle.records.specs.Fields.{limited_of, piecewise_of}
use Rattle.records.specs.Check.{count_sum}
use Rattle.record_check.specs.declared.Counted.{Counted}
use Rattle.record_check.specs.declared.Costs.{Costs}

-- how many of the branches, of the generators, in the i records from the first on are limited, are piecewise
abbrev pub limited_in : List ℕ → ℕ → ℕ → ℕ
limited_in b first i = count i (λ j. limited_of b (first + j))

abbrev pub piecewise_in : List ℕ → ℕ → ℕ → ℕ
piecewise_in b first i = count i (λ j. piecewise_of b (first + j))

-- the piecewise generators, and the sum of the counts, in the i records from the first on
abbrev pub costs_in : List ℕ → ℕ → ℕ → Costs
costs_in b first i = record { piecewise = piecewise_in b first i; counts = count_sum b first i }

-- the limited branches ("T"), the piecewise generators ("cost columns") and the limited of the first e branches
abbrev pub counted_in : (n m k : ℕ) → List ℕ → ℕ → Counted
counted_in n m k b e = record { t = limited_in b n m; cost_columns = piecewise_in b (n + m) k; before = limited_in b n e }
