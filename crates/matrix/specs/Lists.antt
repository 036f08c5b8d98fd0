-- P, A, q and b as the lists that `ProgramBuilder::finish` makes of them.
use Rattle.std.specs.Prelude.{List, ◌++◌, Float}
use Rattle.lists.specs.UpTo.{each, listed, when}
use Rattle.lists.specs.Entries.{Cell, select}
use Rattle.records.specs.AcNetwork.{AcNetwork}
use Rattle.numbering.specs.Numbering.{nvar, ncon, row_at}
use Rattle.numbering.specs.declared.ColumnName.{ColumnName}
use Rattle.numbering.specs.declared.ColumnName.TheVariants.{Pg, Qg, W, Wr, Wi, Pf, Pt, Qf, Qt, CostOf}
use Rattle.rows.specs.Rows.{b}
use Rattle.rows.specs.Program.{quadratic}

-- f at every column, in the columns' order
abbrev pub every_column : {A B : Type 0} → AcNetwork A → (ColumnName → List B) → List B
every_column G f =
    each G.k (λ g. f (Pg g)) ++ each G.k (λ g. f (Qg g)) ++ each G.n (λ i. f (W i))
    ++ each G.m (λ e. f (Wr e)) ++ each G.m (λ e. f (Wi e))
    ++ each G.m (λ e. f (Pf e)) ++ each G.m (λ e. f (Pt e)) ++ each G.m (λ e. f (Qf e)) ++ each G.m (λ e. f (Qt e))
    ++ each G.k (λ g. when (G.piecewise g) (f (CostOf g)))

-- P by compressed columns
unfoldable pub quadratic_matrix : AcNetwork Float → List (List Cell)
quadratic_matrix G = listed (nvar G) (λ c. select c (quadratic G))

-- b: at each row's number the row's right side
unfoldable pub right_side : AcNetwork Float → List Float
right_side G = listed (ncon G) (λ r. b G (row_at G r))
