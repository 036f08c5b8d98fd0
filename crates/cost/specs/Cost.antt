-- What a generator's power costs: `generator_cost` of model/ac.rs and `PiecewiseCost::evaluate` of model/mod.rs, in their order of operations.
use Rattle.std.specs.Prelude.{ℕ, true, cond, ◌||◌, List, get_or, Float}
use Rattle.std.specs.Float.{binary64, nan, inf}
use Rattle.std.specs.Float.Ieee.{neg, add, mul, lt, is_nan}
use Rattle.lists.specs.UpTo.{up_to}
use Rattle.records.specs.AcNetwork.{AcNetwork}
use Rattle.numbering.specs.Numbering.{column_number}
use Rattle.numbering.specs.declared.ColumnName.TheVariants.{Pg}
use Rattle.rows.specs.Rows.{zero64}

-- `f64::max`: the greater, and the other where one is NaN; "of two zeros of unlike sign the port keeps the earlier"
unfoldable pub max : Float → Float → Float
max a v = cond (is_nan a || lt a v) v a

-- a x + b, a x² + b x + c
unfoldable pub affine : Float → Float → Float → Float
affine a b x = add binary64 (mul binary64 a x) b

unfoldable pub parabola : Float → Float → Float → Float → Float
parabola a b c x = add binary64 (add binary64 (mul binary64 (mul binary64 a x) x) (mul binary64 b x)) c

-- `evaluate`: slope x + intercept of each segment, from `f64::NEG_INFINITY` on by `f64::max`
unfoldable pub highest : (ℕ → Float) → (ℕ → Float) → ℕ → Float → Float
highest slope intercept count x = up_to max (inf true) (λ t. affine (slope t) (intercept t) x) count

module _ (G : AcNetwork Float) where
  abbrev pub evaluate : ℕ → Float → Float
  evaluate g x = highest (G.slope g) (G.intercept g) (G.segments g) x

  unfoldable pub generator_cost : ℕ → Float → Float
  generator_cost g x = cond (G.piecewise g) (evaluate g x) (parabola (G.cq g) (G.cl g) (G.cc g) x)

  -- "the sum of `generator_cost` in order", "`iter().sum()` starts at negative zero"
  unfoldable pub total_cost : List Float → Float
  total_cost x = up_to (add binary64) (neg zero64) (λ g. generator_cost g (get_or x (column_number G (Pg g)) nan)) G.k
