-- The layout: counts alone, and what they give of the numbering.
use Rattle.std.specs.Prelude.{ℕ, ◌+◌, ◌*◌, ◌≤◌, ◌<◌, ◌≡◌, List, map, leb, get_or}
use Rattle.lists.specs.UpTo.{sum}
use Rattle.refusals.specs.Refusals.{◌or_else◌, refuse_unless, Checked}
use Rattle.refusals.specs.declared.Refusal.TheVariants.{CountTooLarge}
use Rattle.records.specs.Check.{count_cause}
use Rattle.records.specs.AcNetwork.{AcNetwork}
use Rattle.numbering.specs.Blocks.{Block, alike, size, total, number_of}
use Rattle.numbering.specs.Numbering.{limits, curves, column_table, row_table, column_key, row_key}
use Rattle.numbering.specs.declared.SocWrLayout.{SocWrLayout}
use Rattle.numbering.specs.declared.Place.{Place}
use Rattle.numbering.specs.declared.ColumnName.{ColumnName}
use Rattle.numbering.specs.declared.RowName.{RowName}

-- the layout of a network: its counts, T and the cost columns
abbrev pub layout_of : {A : Type 0} → AcNetwork A → SocWrLayout
layout_of G = record { n = G.n; m = G.m; k = G.k; s = G.s; t = limits G; cost_columns = curves G }

-- 1: the record check's causes, then "in a layout handed in, T above m or cost columns above k"
unfoldable pub layout_cause : SocWrLayout → Checked
layout_cause l =
    count_cause l.n l.m l.k l.s
    or_else refuse_unless (leb l.t l.m) (CountTooLarge 4)
    or_else refuse_unless (leb l.cost_columns l.k) (CountTooLarge 5)

-- what a layout without such a cause has
pub record InRange (l : SocWrLayout) : Type 0 where
  pub n-range : l.n ≤ 4096
  pub m-range : l.m ≤ 8192
  pub k-range : l.k ≤ 4096
  pub s-range : l.s ≤ 65536
  pub t-range : l.t ≤ l.m
  pub c-range : l.cost_columns ≤ l.k

-- the blocks by counts alone: one record for each point of the cost columns and cost rows, and one of six rows for each limited branch
unfoldable pub layout_columns : SocWrLayout → List Block
layout_columns l = column_table l.n l.m l.k (alike l.cost_columns 1)

unfoldable pub layout_rows : SocWrLayout → List Block
layout_rows l = row_table l.n l.m l.k (alike l.s 1) (alike l.t 6)

-- the columns and the rows
unfoldable pub nvar_of : SocWrLayout → ℕ
nvar_of l = total (layout_columns l)

unfoldable pub ncon_of : SocWrLayout → ℕ
ncon_of l = total (layout_rows l)

-- the blocks' lengths
unfoldable pub sizes_of : List Block → List ℕ
sizes_of bs = map size bs

-- where a block starts, and the block that a point is in with its place there
unfoldable pub start_in : List ℕ → ℕ → ℕ
start_in ws b = sum b (λ j. get_or ws j 0)

pub record InBlock (ws : List ℕ) (p : ℕ) (q : Place) : Type 0 where
  pub inside : q.at < get_or ws q.item 0
  pub number : start_in ws q.item + q.at ≡ p

-- "n_eq = 2n + 4m. n_ineq = 2n + 4k + 2m + S."
abbrev pub n_eq_of : SocWrLayout → ℕ
n_eq_of l = 2 * l.n + 4 * l.m

abbrev pub n_ineq_of : SocWrLayout → ℕ
n_ineq_of l = 2 * l.n + 4 * l.k + 2 * l.m + l.s

-- the number of a column or row by counts alone: a cost column by the count of those before it, a segment by its place among all, a
-- thermal row by the count of the limited branches before its own
abbrev pub layout_column : SocWrLayout → ColumnName → ℕ
layout_column l x = number_of (layout_columns l) (column_key x)

abbrev pub layout_row : SocWrLayout → RowName → ℕ
layout_row l x = number_of (layout_rows l) (row_key x)
