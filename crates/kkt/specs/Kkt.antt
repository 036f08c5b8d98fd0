-- The KKT entries in the order of `ConicKkt::new`.
use Rattle.std.specs.Prelude.{ℕ, ◌+◌, cond, List, [], ◌∷◌, ◌++◌, map, eqb, get_or, Float}
use Rattle.std.specs.Float.{binary64, nan}
use Rattle.std.specs.Float.Ieee.{neg, ne, mul}
use Rattle.lists.specs.UpTo.{each, when}
use Rattle.lists.specs.Entries.{Entry, entry, turned}
use Rattle.records.specs.AcNetwork.{AcNetwork}
use Rattle.numbering.specs.Numbering.{nvar, column_number, row_number}
use Rattle.rows.specs.Rows.{Term, terms, zero64}
use Rattle.rows.specs.Program.{equalities, inequalities, second_order, every_row, in_row, nonzero, quadratic, slack}
use Rattle.numbering.specs.declared.RowName.{RowName}

-- row j, column l of the arrow matrix of v
abbrev pub arrow : (ℕ → Float) → ℕ → ℕ → Float
arrow v j l = cond (eqb j 0) (v l) (cond (eqb l 0) (v j) (cond (eqb l j) (v 0) zero64))

module _ (G : AcNetwork Float) where
  -- row x of the program is row nvar + row_number x of the matrix
  abbrev pub kkt_row : RowName → ℕ
  kkt_row x = nvar G + row_number G x

  -- the terms as entries of row r, each times f
  abbrev pub scaled : ℕ → Float → List Term → List Entry
  scaled r f ts = map (λ t. entry r (column_number G t.col) (mul binary64 f t.coef)) ts

  -- a row of the zero cone: as it is
  abbrev pub plain_row : RowName → List Entry
  plain_row x = in_row G (kkt_row x) (terms G x)

  module _ (s z : RowName → Float) where
    -- a row of the nonnegative cone: -z times the terms, and s on the diagonal
    abbrev pub bound_row : RowName → List Entry
    bound_row x = scaled (kkt_row x) (neg (z x)) (terms G x) ++ (entry (kkt_row x) (kkt_row x) (s x) ∷ [])

    -- row j of a second-order cone of d rows: -arrow(z) times the cone's rows, and arrow(s)
    abbrev pub cone_row : ℕ → (ℕ → RowName) → ℕ → List Entry
    cone_row d x j =
        each d (λ l. when (ne (arrow (λ i. z (x i)) j l) zero64) (scaled (kkt_row (x j)) (neg (arrow (λ i. z (x i)) j l)) (terms G (x l))))
        ++ each d (λ l. nonzero (kkt_row (x j)) (kkt_row (x l)) (arrow (λ i. s (x i)) j l))

    abbrev pub cone_block : ℕ → (ℕ → RowName) → List Entry
    cone_block d x = each d (cone_row d x)

    unfoldable pub kkt_of : List Entry
    kkt_of =
        quadratic G ++ map turned (every_row G plain_row)
        ++ equalities G plain_row ++ inequalities G bound_row ++ second_order G cone_block

  -- the entries at the lists x and z
  unfoldable pub kkt : List Float → List Float → List Entry
  kkt x z = kkt_of (slack G x) (λ r. get_or z (row_number G r) nan)
