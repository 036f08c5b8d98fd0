-- What a row or a cone gives of the KKT list: by its numbers, and by its name in the network.
use Rattle.std.specs.Prelude.{ℕ, ◌+◌, ◌<◌, ◌^◌, ◌≡◌, Bool, cond, List, [], ◌∷◌, ◌++◌, length, get_or, Float}
use Rattle.std.specs.Float.{binary64, nan}
use Rattle.std.specs.Float.Ieee.{neg, ne, mul}
use Rattle.lists.specs.UpTo.{each, when}
use Rattle.lists.specs.Entries.{Entry, entry}
use Rattle.records.specs.AcNetwork.{AcNetwork}
use Rattle.numbering.specs.Numbering.{nvar, ncon, row_number}
use Rattle.numbering.specs.Laid.{net_of, Laid}
use Rattle.numbering.specs.declared.SocWrLayout.{SocWrLayout}
use Rattle.numbering.specs.declared.RowName.{RowName}
use Rattle.rows.specs.Rows.{zero64}
use Rattle.rows.specs.Program.{nonzero, slack}
use Rattle.kkt.specs.Kkt.{arrow, plain_row, bound_row, cone_block}
use Rattle.lines.specs.Line.{line_at, line_slack, row_at, Cone, cone_line}
use Rattle.lines.specs.declared.Line.{Line}
use Rattle.lines.specs.declared.Four.{Four}

-- accepted records with their layout, and an x and a z of their lengths
pub record Given (l : SocWrLayout) (bytes : List ℕ) (x z : List Float) : Type 0 where
  pub laid : Laid l bytes
  pub x_length : length x ≡ nvar (net_of l bytes)
  pub z_length : length z ≡ ncon (net_of l bytes)

-- ---- by numbers: v is nvar
-- a row of the nonnegative cone
unfoldable pub bound_line : ℕ → List Float → List Float → Line → List Entry
bound_line v x z l =
    line_at (v + l.row) (mul binary64 (neg (get_or z l.row nan))) l ++ (entry (v + l.row) (v + l.row) (line_slack x l) ∷ [])

-- a row as it is, or where the test holds as one of the nonnegative cone
unfoldable pub line_in : ℕ → List Float → List Float → Bool → Line → List Entry
line_in v x z d l = cond d (bound_line v x z l) (line_at (v + l.row) (λ a. a) l)

-- a cone's floats, one for each row
abbrev pub part : Four Float → ℕ → Float
part q l = row_at q l

abbrev pub duals_of : List Float → Cone → Four Float
duals_of z c =
    record {
      a = get_or z c.a.row nan;
      b = get_or z c.b.row nan;
      c = get_or z c.c.row nan;
      d = get_or z c.d.row nan;
    }

abbrev pub slacks_of : List Float → Cone → Four Float
slacks_of x c = record { a = line_slack x c.a; b = line_slack x c.b; c = line_slack x c.c; d = line_slack x c.d }

-- its rows' numbers fit
pub record Held (v : ℕ) (c : Cone) : Type 0 where
  pub held : (l : ℕ) → v + (cone_line c l).row < 2 ^ 32

unfoldable pub by_x : ℕ → Cone → Four Float → ℕ → ℕ → List Entry
by_x v c z j l = when (ne (arrow (part z) j l) zero64) (line_at (v + (cone_line c j).row) (mul binary64 (neg (arrow (part z) j l))) (cone_line c l))

unfoldable pub by_z : ℕ → Cone → Four Float → ℕ → ℕ → List Entry
by_z v c s j l = nonzero (v + (cone_line c j).row) (v + (cone_line c l).row) (arrow (part s) j l)

unfoldable pub cone_row_of : ℕ → Cone → Four Float → Four Float → ℕ → ℕ → List Entry
cone_row_of v c z s d j = each d (by_x v c z j) ++ each d (by_z v c s j)

unfoldable pub cone_of : ℕ → Cone → Four Float → Four Float → ℕ → List Entry
cone_of v c z s d = each d (cone_row_of v c z s d)

abbrev pub plain_at : ℕ → Cone → ℕ → List Entry
plain_at v c l = line_at (v + (cone_line c l).row) (λ a. a) (cone_line c l)

unfoldable pub plain_cone : ℕ → Cone → ℕ → List Entry
plain_cone v c d = each d (plain_at v c)

unfoldable pub cone_lines : ℕ → List Float → List Float → Bool → Cone → ℕ → List Entry
cone_lines v x z t c d = cond t (cone_of v c (duals_of z c) (slacks_of x c) d) (plain_cone v c d)

-- ---- by names
abbrev pub dual : AcNetwork Float → List Float → RowName → Float
dual G z r = get_or z (row_number G r) nan

-- a row as it is, or where the test holds as one of the nonnegative cone
unfoldable pub row_entries : AcNetwork Float → List Float → List Float → Bool → RowName → List Entry
row_entries G x z d r = cond d (bound_row G (slack G x) (dual G z) r) (plain_row G r)

-- the rows r 0, .., r (n - 1) as they are, or where the test holds as a second-order cone
unfoldable pub cone_in : AcNetwork Float → List Float → List Float → Bool → ℕ → (ℕ → RowName) → List Entry
cone_in G x z d n r = cond d (cone_block G (slack G x) (dual G z) n r) (each n (λ l. plain_row G (r l)))
