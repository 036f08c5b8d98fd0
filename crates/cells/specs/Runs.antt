-- Runs of values written over a list.
use Rattle.std.specs.Prelude.{ℕ, ◌≡◌, List, [], ◌∷◌, Float}
use Rattle.std.proofs.lemmas.List.Edits.{sets}

-- values from a position on
pub record Run : Type 0 where
  pub first : ℕ
  pub values : List Float

abbrev pub run : ℕ → List Float → Run
run p xs = record { first = p; values = xs }

-- runs written over a list, one after the other
abbrev pub with_runs : List Run → List Float → List Float
with_runs [] l = l
with_runs (r ∷ rs) l = with_runs rs (sets l r.first r.values)

pub record RunsOver (rs : List Run) (l₀ l : List Float) : Type 0 where
  pub is : l ≡ with_runs rs l₀
