-- A column is made as in the Rust: zeros, then stores, `rhs[(at, c)] = v` or `rhs[(at, c)] += v`, one after the other.
use Rattle.std.specs.Prelude.{ℕ, List, [], ◌∷◌, get_or, set, Float}
use Rattle.std.specs.Float.{binary64, nan}
use Rattle.std.specs.Float.Ieee.{add}

pub data Store : Type 0 where
  put plus : ℕ → Float → Store

abbrev pub stored : List Float → Store → List Float
stored c (put at v) = set c at v
stored c (plus at v) = set c at (add binary64 (get_or c at nan) v)

unfoldable pub stored_all : List Store → List Float → List Float
stored_all [] c = c
stored_all (s ∷ ss) c = stored_all ss (stored c s)
