-- What the entries of the numbering answer.
use Rattle.std.specs.Prelude.{ℕ, ◌+◌, ◌*◌, min, List, ◌∷◌, ◌++◌, ltb, length, replicate, Result, Ok}
use Rattle.lists.specs.UpTo.{count}
use Rattle.refusals.specs.Refusals.{Checked, ◌or_else◌, refuse_unless, room_for, answer_if}
use Rattle.refusals.specs.declared.Refusal.{Refusal}
use Rattle.refusals.specs.declared.Refusal.TheVariants.{PastEnd}
use Rattle.records.specs.Network.{network_of}
use Rattle.records.specs.Check.{check_of}
use Rattle.numbering.specs.Blocks.{Block, records, block_at, number_of}
use Rattle.numbering.specs.Numbering.{column_key, row_key}
use Rattle.numbering.specs.Layout.{layout_of, layout_cause, layout_columns, layout_rows, n_eq_of, n_ineq_of}
use Rattle.numbering.specs.declared.Key.{Key}
use Rattle.numbering.specs.declared.ColumnName.{ColumnName}
use Rattle.numbering.specs.declared.RowName.{RowName}
use Rattle.numbering.specs.declared.SocWrLayout.{SocWrLayout}
use Rattle.numbering.specs.declared.CheckedLayout.{CheckedLayout}

-- ---- methods of the layout: 1, then 7 "index not below its axis"
unfoldable pub in_layout : SocWrLayout → List Block → Key → Result ℕ Refusal
in_layout l bs x = layout_cause l or_else refuse_unless (ltb x.item (records (block_at bs x.block))) (PastEnd x.item) or_else Ok (number_of bs x)

abbrev pub column_in : SocWrLayout → ColumnName → Result ℕ Refusal
column_in l x = in_layout l (layout_columns l) (column_key x)

abbrev pub row_in : SocWrLayout → RowName → Result ℕ Refusal
row_in l x = in_layout l (layout_rows l) (row_key x)

-- a size that the counts give
abbrev pub size_in : SocWrLayout → ℕ → Result ℕ Refusal
size_in l p = answer_if (layout_cause l) p

-- ---- `SocWrLayout::new`
abbrev pub new_layout : ℕ → ℕ → ℕ → ℕ → List ℕ → Result SocWrLayout Refusal
new_layout n m k s b = answer_if (check_of n m k s b) (layout_of (network_of n m k s b))

-- the layout, and how many limited branches come before branch e, or are there where e is past the last
abbrev pub checked_layout : (n m k s : ℕ) → List ℕ → ℕ → CheckedLayout
checked_layout n m k s b e = record { layout = layout_of (network_of n m k s b); before = count (min e m) (network_of n m k s b).limited }

-- ---- `cones`: the lengths "in this order to a lent u32 slice"
abbrev pub cones_of : SocWrLayout → List ℕ
cones_of l = n_eq_of l ∷ n_ineq_of l ∷ (replicate l.m 4 ++ replicate (2 * l.t) 3)

abbrev pub cone_count : SocWrLayout → ℕ
cone_count l = 2 + l.m + 2 * l.t

-- 1 or the record check, then 10
abbrev pub cones_check : Checked → SocWrLayout → List ℕ → Checked
cones_check c l out = c or_else room_for (cone_count l) (length out)
