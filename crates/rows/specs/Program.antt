-- The program: min ½ x'Px + q'x with Ax + s = b.
use Rattle.std.specs.Prelude.{ℕ, List, [], ◌∷◌, ◌++◌, map, get_or, Float}
use Prim.Native.Nat as Nat
use Rattle.std.specs.Float.{binary64, nan}
use Rattle.std.specs.Float.Ieee.{neg, ne, add, sub, mul}
use Rattle.lists.specs.UpTo.{each, listed, when}
use Rattle.lists.specs.Entries.{Entry, entry, select}
use Rattle.lists.specs.Entries as Entries
use Rattle.ring.specs.Ops.{Ops, rounded}
use Rattle.records.specs.AcNetwork.{AcNetwork}
use Rattle.numbering.specs.Numbering.{nvar, column_number, column_at, row_number}
use Rattle.rows.specs.Rows.{Term, terms, b, zero64}
use Rattle.numbering.specs.declared.ColumnName.{ColumnName}
use Rattle.numbering.specs.declared.ColumnName.TheVariants.{Pg, Qg, W, Wr, Wi, Pf, Pt, Qf, Qt, CostOf}
use Rattle.numbering.specs.declared.RowName.{RowName}
use Rattle.numbering.specs.declared.RowName.TheVariants.{Pbal, Qbal, OhmPf, OhmQf, OhmPt, OhmQt, Wub, Wlb, Pgub, Pglb, Qgub, Qglb, Angub, Anglb, Segment, Jabr, Thermal}

-- the three rows of a limited branch's cone at the from end, and at the to end
abbrev pub thermal_from : ℕ → ℕ → RowName
thermal_from e l = Thermal e l

abbrev pub thermal_to : ℕ → ℕ → RowName
thermal_to e l = Thermal e (Nat.◌+◌ 3 l)

-- ---- f at every row, in the rows' order
module _ {A B : Type 0} (G : AcNetwork A) where
  -- the rows of the zero cone, and of the nonnegative cone
  abbrev pub equalities : (RowName → List B) → List B
  equalities f =
      each G.n (λ i. f (Pbal i)) ++ each G.n (λ i. f (Qbal i))
      ++ each G.m (λ e. f (OhmPf e)) ++ each G.m (λ e. f (OhmQf e)) ++ each G.m (λ e. f (OhmPt e)) ++ each G.m (λ e. f (OhmQt e))

  abbrev pub inequalities : (RowName → List B) → List B
  inequalities f =
      each G.n (λ i. f (Wub i)) ++ each G.n (λ i. f (Wlb i))
      ++ each G.k (λ g. f (Pgub g)) ++ each G.k (λ g. f (Pglb g)) ++ each G.k (λ g. f (Qgub g)) ++ each G.k (λ g. f (Qglb g))
      ++ each G.m (λ e. f (Angub e)) ++ each G.m (λ e. f (Anglb e))
      ++ each G.k (λ g. each (G.segments g) (λ t. f (Segment g t)))

  -- h at the length and the rows of each second-order cone
  abbrev pub second_order : (ℕ → (ℕ → RowName) → List B) → List B
  second_order h = each G.m (λ e. h 4 (Jabr e)) ++ each G.m (λ e. when (G.limited e) (h 3 (thermal_from e) ++ h 3 (thermal_to e)))

  abbrev pub every_row : (RowName → List B) → List B
  every_row f = equalities f ++ inequalities f ++ second_order (λ d x. each d (λ l. f (x l)))

-- ---- P and q over any operations. P: 2 cq on the diagonal, at each pg
abbrev pub curved_at : ℕ → ColumnName
curved_at g = Pg g

module _ {A : Type 0} (o : Ops A) (G : AcNetwork A) where
  infixl 60 ◌+◌
  infixl 70 ◌*◌
  open o use {zero, one, two, ◌+◌, ◌*◌}

  abbrev pub curvature : ℕ → A
  curvature g = two * G.cq g

  -- q: cl at each pg, 1 at each cost column; each is added to 0
  abbrev pub linear_at : ColumnName → A
  linear_at (Pg g) = zero + G.cl g
  linear_at (Qg g) = zero
  linear_at (W i) = zero
  linear_at (Wr e) = zero
  linear_at (Wi e) = zero
  linear_at (Pf e) = zero
  linear_at (Pt e) = zero
  linear_at (Qf e) = zero
  linear_at (Qt e) = zero
  linear_at (CostOf g) = zero + one

-- an entry unless its value equals zero
abbrev pub nonzero : ℕ → ℕ → Float → List Entry
nonzero r c v = when (ne v zero64) (entry r c v ∷ [])

module _ (G : AcNetwork Float) where
  -- ---- A: the rows' terms as entries, all rows in order; and by compressed columns
  abbrev pub in_row : ℕ → List Term → List Entry
  in_row r ts = map (λ t. entry r (column_number G t.col) t.coef) ts

  unfoldable pub program : List Entry
  program = every_row G (λ x. in_row (row_number G x) (terms G x))

  unfoldable pub matrix : List (List Entries.Cell)
  matrix = listed (nvar G) (λ c. select c program)

  -- ---- P and q, as the code computes them: zeros of P dropped
  unfoldable pub quadratic : List Entry
  quadratic = each G.k (λ g. nonzero (column_number G (curved_at g)) (column_number G (curved_at g)) (curvature rounded G g))

  unfoldable pub linear : List Float
  linear = listed (nvar G) (λ c. linear_at rounded G (column_at G c))

  -- ---- s = b - A x, where a row's sum starts at negative zero and goes by its terms
  unfoldable pub sum_of : List Float → Float → List Term → Float
  sum_of x a [] = a
  sum_of x a (t ∷ ts) = sum_of x (add binary64 a (mul binary64 t.coef (get_or x (column_number G t.col) nan))) ts

  unfoldable pub slack : List Float → RowName → Float
  slack x r = sub binary64 (b G r) (sum_of x (neg zero64) (terms G r))
