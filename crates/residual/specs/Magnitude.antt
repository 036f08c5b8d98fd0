-- `max_abs` of sens/mod.rs: `mx = mx.max(m[(r, c)].abs())` over the columns, from 0.0.
use Rattle.std.specs.Prelude.{Bool, false, not, cond, List, Float}
use Rattle.std.specs.Float.{nan, inf, fin}
use Rattle.std.specs.Float.Ieee.{is_nan, lt}
use Rattle.lists.specs.Steps.{through}
use Rattle.sparse.specs.Sparse.{zero64}

-- `f64::abs`: the sign is cleared
unfoldable pub absolute : Float → Float
absolute nan = nan
absolute (inf s) = inf false
absolute (fin s m e) = fin false m e

-- `f64::max`: where one is NaN the other, else the larger
unfoldable pub larger : Float → Float → Float
larger m x = cond (is_nan m) x (cond (lt m x) x m)

unfoldable pub max_abs : List Float → Float
max_abs xs = through (λ x m. larger m (absolute x)) xs zero64

-- a number with its sign clear
unfoldable pub unsigned : Float → Bool
unsigned nan = false
unsigned (inf s) = not s
unsigned (fin s m e) = not s
