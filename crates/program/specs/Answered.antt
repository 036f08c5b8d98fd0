-- What the entries answer and leave in the lent lists: document 01, 'Causes turned away'.
use Rattle.std.specs.Prelude.{ℕ, ◌≡◌, List, map, length, Float}
use Rattle.lists.specs.Entries.{Cell, cell_row, cell_val}
use Rattle.lists.specs.Compressed.{joined, starts_from}
use Rattle.cells.specs.declared.Compressed.{Compressed}
use Rattle.cells.specs.Lent.{SameLists}
use Rattle.refusals.specs.Refusals.{◌or_else◌, room_for, answer_if, left_in, Checked, Written}

-- one list of floats; 10: "an output slice too short"
unfoldable pub floats_check : Checked → List Float → List Float → Checked
floats_check check xs ys = check or_else room_for (length xs) (length ys)

pub record FloatsWritten (check : Checked) (xs ys₀ ys : List Float) (r : Written) : Type 0 where
  pub answer : r ≡ answer_if (floats_check check xs ys₀) (length xs)
  pub left : ys ≡ left_in (floats_check check xs ys₀) xs ys₀

-- compressed columns: "Output lists come as starts, rows, columns, values"; "length needed by the first short one"; "Number 10 states the
-- exact count of entries where entries are written"
unfoldable pub columns_check : Checked → List (List Cell) → List ℕ → List ℕ → List Float → Checked
columns_check check cs ss rs vs =
    check
    or_else room_for (length (starts_from 0 cs)) (length ss)
    or_else room_for (length (joined cs)) (length rs)
    or_else room_for (length (joined cs)) (length vs)

pub record ColumnsWritten (check : Checked) (cs : List (List Cell)) (ss₀ rs₀ : List ℕ) (vs₀ : List Float) (ss rs : List ℕ) (vs : List Float) (r : Written) : Type 0 where
  pub answer : r ≡ answer_if (columns_check check cs ss₀ rs₀ vs₀) (length (joined cs))
  pub starts : ss ≡ left_in (columns_check check cs ss₀ rs₀ vs₀) (starts_from 0 cs) ss₀
  pub rows : rs ≡ left_in (columns_check check cs ss₀ rs₀ vs₀) (map cell_row (joined cs)) rs₀
  pub values : vs ≡ left_in (columns_check check cs ss₀ rs₀ vs₀) (map cell_val (joined cs)) vs₀

-- the same over lists that are lent as one, which stay the same lists
pub record ListsWritten (check : Checked) (cs : List (List Cell)) (t t' : Compressed) (r : Written) : Type 0 where
  pub lent : SameLists t t'
  pub written : ColumnsWritten check cs t.starts.now t.rows.now t.values.now t'.starts.now t'.rows.now t'.values.now r
