-- Rows of the program that have at most two terms, as numbers: every row but those of the zero cone.
use Rattle.std.specs.Prelude.{ℕ, ◌<◌, ◌≡◌, Bool, true, false, cond, List, [], ◌∷◌, ◌++◌, map, ltb, get_or, Float}
use Rattle.std.specs.Float.{binary64, nan}
use Rattle.std.specs.Float.Ieee.{neg, add, sub, mul}
use Rattle.lists.specs.UpTo.{when}
use Rattle.lists.specs.Entries.{Entry, entry}
use Rattle.records.specs.AcNetwork.{AcNetwork}
use Rattle.numbering.specs.Numbering.{nvar, ncon, column_number, row_number}
use Rattle.numbering.specs.Layout.{layout_column}
use Rattle.numbering.specs.declared.SocWrLayout.{SocWrLayout}
use Rattle.numbering.specs.declared.ColumnName.TheVariants.{W}
use Rattle.numbering.specs.declared.RowName.{RowName}
use Rattle.rows.specs.Program.{thermal_from, thermal_to}
use Rattle.rows.specs.Rows.{terms, b, zero64, constant64, minus_half, minus_one}
use Rattle.lines.specs.declared.Spot.{Spot}
use Rattle.lines.specs.declared.Line.{Line}
use Rattle.lines.specs.declared.Four.{Four}
use Rattle.interface.specs.declared.End.{End}
use Rattle.interface.specs.declared.End.TheVariants.{From, To}

-- a term in row r with its coefficient put through f, where it is on
abbrev pub spot_at : ℕ → (Float → Float) → Spot → List Entry
spot_at r f t = when t.on (entry r t.col (f t.val) ∷ [])

unfoldable pub line_at : ℕ → (Float → Float) → Line → List Entry
line_at r f l = spot_at r f l.first ++ spot_at r f l.second

-- the terms' sum at x, on top of a
abbrev pub spot_sum : List Float → Float → Spot → Float
spot_sum x a t = cond t.on (add binary64 a (mul binary64 t.val (get_or x t.col nan))) a

unfoldable pub line_sum : List Float → Line → Float
line_sum x l = spot_sum x (spot_sum x (neg zero64) l.first) l.second

-- b less the row's sum
abbrev pub line_slack : List Float → Line → Float
line_slack x l = sub binary64 l.rhs (line_sum x l)

-- its row is below c, and its columns are below v
pub record Within (v c : ℕ) (l : Line) : Type 0 where
  pub row : l.row < c
  pub first : l.first.col < v
  pub second : l.second.col < v

-- the line is row x of the network
pub record Stands (G : AcNetwork Float) (x : RowName) (l : Line) : Type 0 where
  pub number : l.row ≡ row_number G x
  pub rhs : l.rhs ≡ b G x
  pub entries : (r : ℕ) (f : Float → Float) → map (λ t. entry r (column_number G t.col) (f t.coef)) (terms G x) ≡ line_at r f l
  pub within : Within (nvar G) (ncon G) l

-- a term that is on where the test holds
abbrev pub spot : Bool → ℕ → Float → Spot
spot on c v = record { on = on; col = c; val = v }

-- a row of two terms, and of one
abbrev pub line : ℕ → Float → Spot → Spot → Line
line r b s t = record { row = r; rhs = b; first = s; second = t }

abbrev pub single_line : ℕ → Float → Bool → ℕ → Float → Line
single_line r b on c v = line r b (spot false c v) (spot on c v)

-- two terms at the columns of the buses f and t, the smaller number first
unfoldable pub ends_line : SocWrLayout → ℕ → ℕ → ℕ → Float → Line
ends_line l f t r v =
    cond (ltb f t)
    (line r zero64 (spot true (layout_column l (W f)) (constant64 minus_half)) (spot true (layout_column l (W t)) v))
    (line r zero64 (spot true (layout_column l (W t)) v) (spot true (layout_column l (W f)) (constant64 minus_half)))

-- ---- cones
-- row l's of four, the last standing past them too
abbrev pub row_at : {T : Type 0} → Four T → ℕ → T
row_at q l = get_or (q.a ∷ q.b ∷ q.c ∷ []) l q.d

abbrev pub Cone : Type 0
Cone = Four Line

abbrev pub cone_line : Cone → ℕ → Line
cone_line c l = row_at c l

-- the lines are the d rows x of the network
pub record ConeStands (G : AcNetwork Float) (d : ℕ) (x : ℕ → RowName) (c : Cone) : Type 0 where
  pub lines : (l : ℕ) → l < d → Stands G (x l) (cone_line c l)
  pub within : (l : ℕ) → Within (nvar G) (ncon G) (cone_line c l)

-- the rows of the thermal cone at an end of a branch
abbrev pub thermal_rows : End → ℕ → ℕ → RowName
thermal_rows From e = thermal_from e
thermal_rows To e = thermal_to e

-- the three rows of a thermal cone
abbrev pub thermal : ℕ → ℕ → ℕ → Float → ℕ → ℕ → Cone
thermal first second third rate p q =
    record {
      a = single_line first rate false p zero64;
      b = single_line second zero64 true p (constant64 minus_one);
      c = single_line third zero64 true q (constant64 minus_one);
      d = single_line third zero64 true q (constant64 minus_one);
    }
