-- What one end of a branch puts into its bus's column. End 2e is branch e's from end, end 2e + 1 its to end.
use Rattle.std.specs.Prelude.{ℕ, ◌/◌, ◌%◌, Bool, true, false, List, [], ◌∷◌, ◌++◌, eqb, ltb, length, get_or, Float}
use Rattle.lists.specs.UpTo.{each, when}
use Rattle.lists.specs.Entries.{Cell}
use Rattle.records.specs.AcNetwork.{AcNetwork}
use Rattle.numbering.specs.declared.RowName.TheVariants.{Jabr}
use Rattle.rows.specs.Rows.{half, minus_half, constant64}
use Rattle.rows.specs.declared.OhmRow.{OhmRow}
use Rattle.rows.specs.declared.OhmRow.TheVariants.{Pf as pf, Qf as qf, Pt as pt, Qt as qt}
use Rattle.matrix.specs.Columns.{at, ohm_cell}

-- the side of an Ohm row: 0 at the from end, 1 at the to end
abbrev pub parity_of : OhmRow → ℕ
parity_of pf = 0
parity_of qf = 0
parity_of pt = 1
parity_of qt = 1

-- the ends of one side in a list, in order
unfoldable pub side_ends : ℕ → List ℕ → List ℕ
side_ends s xs = each (length xs) (λ j. when (eqb (get_or xs j 0 % 2) s) (get_or xs j 0 ∷ []))

-- the value in the last row of a branch's cone, at its from end and at its to end
abbrev pub last_value : Bool → Float
last_value true = constant64 minus_half
last_value false = constant64 half

module _ (G : AcNetwork Float) where
  unfoldable pub ohm_end : OhmRow → ℕ → List Cell
  ohm_end r x = when (eqb (x % 2) (parity_of r)) (when (ltb (x / 2) G.m) (ohm_cell G r (x / 2)))

  unfoldable pub cone_end : ℕ → List Cell
  cone_end x = when (ltb (x / 2) G.m) (at G (Jabr (x / 2) 0) (constant64 minus_half) ++ at G (Jabr (x / 2) 3) (last_value (eqb (x % 2) 0)))

  -- the same of the ends in a list
  abbrev pub ohms_of : List ℕ → OhmRow → List Cell
  ohms_of xs r = each (length xs) (λ j. ohm_end r (get_or xs j 0))

  abbrev pub cone_cells : List ℕ → List Cell
  cone_cells xs = each (length xs) (λ j. cone_end (get_or xs j 0))

  unfoldable pub blocks_of : List ℕ → List Cell
  blocks_of xs = ohms_of xs pf ++ ohms_of xs qf ++ ohms_of xs pt ++ ohms_of xs qt
