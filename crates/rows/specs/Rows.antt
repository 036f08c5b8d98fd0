-- A and b by rows, over any operations: each row is the list of its cells by ascending column. Reads like the Rust's calls of `prog.a` and `prog.rhs`.
use Rattle.std.specs.Prelude.{ℕ, cond, List, [], ◌∷◌, ◌++◌, eqb, ltb, get_or, Float}
use Rattle.std.specs.Float.{binary64}
use Rattle.std.specs.Float.Ieee.{of_bits, ne, div}
use Rattle.std.specs.Float.Ieee as Ieee
use Rattle.lists.specs.UpTo.{each, when}
use Rattle.ring.specs.Ops.{Ops, rounded, one64}
pub use Rattle.ring.specs.Ops.{zero64}
use Rattle.records.specs.AcNetwork.{AcNetwork}
use Rattle.rows.specs.Branch.{Branch, branch_at}
use Rattle.rows.specs.declared.OhmRow.{OhmRow}
use Rattle.rows.specs.declared.OhmRow.TheVariants.{Pf as pf, Qf as qf, Pt as pt, Qt as qt}
use Rattle.numbering.specs.declared.ColumnName.{ColumnName}
use Rattle.numbering.specs.declared.ColumnName.TheVariants.{Pg, Qg, W, Wr, Wi, Pf, Pt, Qf, Qt, CostOf}
use Rattle.numbering.specs.declared.RowName.{RowName}
use Rattle.numbering.specs.declared.RowName.TheVariants.{Pbal, Qbal, OhmPf, OhmQf, OhmPt, OhmQt, Wub, Wlb, Pgub, Pglb, Qgub, Qglb, Angub, Anglb, Segment, Jabr, Thermal}

-- ---- coefficients: a number as it stands, a number over the row's tm2 (`under`), or a constant of the code
pub data Constant : Type 0 where
  one minus_one half minus_half : Constant

pub data Coefficient (A : Type 0) : Type 0 where
  plain over : A → Coefficient A
  constant : Constant → Coefficient A

-- what a coefficient can be read as, and the one way to read it: which number stands over which is said here alone
pub record Reading (A B : Type 0) : Type 0 where
  pub number : A → B
  pub ◌/◌ : A → A → B
  pub fixed : Constant → B

abbrev pub read : {A B : Type 0} → Reading A B → A → Coefficient A → B
read r tm2 (plain a) = r.number a
read r tm2 (over a) = r.◌/◌ a tm2
read r tm2 (constant c) = r.fixed c

-- a column and the coefficient there
pub record Cell (A : Type 0) : Type 0 where
  pub column : ColumnName
  pub value : Coefficient A

abbrev pub cell : {A : Type 0} → ColumnName → Coefficient A → Cell A
cell c v = record { column = c; value = v }

-- ---- the places in the four Ohm rows of a branch
-- w is of the from bus in pf and qf, of the to bus in pt and qt; flow is the row's own pf, qf, pt or qt
pub data OhmPlace : Type 0 where
  w wr wi flow : OhmPlace

module _ {A : Type 0} (o : Ops A) (t : Branch A) where
  infixl 60 ◌+◌
  infixl 60 ◌-◌
  infixl 70 ◌*◌
  open o use {◌+◌, ◌-◌, ◌*◌, neg}
  open t use {g, b, gfr, bfr, gto, bto, tr, ti}

  abbrev pub ohm : OhmRow → OhmPlace → Coefficient A
  ohm pf w = over (neg (g + gfr))
  ohm pf wr = over (neg (neg g * tr + b * ti))
  ohm pf wi = over (neg (neg b * tr - g * ti))
  ohm pf flow = constant one
  ohm qf w = over (b + bfr)
  ohm qf wr = over (neg b * tr - g * ti)
  ohm qf wi = over (neg (neg g * tr + b * ti))
  ohm qf flow = constant one
  ohm pt w = plain (neg (g + gto))
  ohm pt wr = over (neg (neg g * tr - b * ti))
  ohm pt wi = over (neg b * tr + g * ti)
  ohm pt flow = constant one
  ohm qt w = plain (b + bto)
  ohm qt wr = over (neg b * tr + g * ti)
  ohm qt wi = over (neg g * tr - b * ti)
  ohm qt flow = constant one

-- an Ohm row's name, and its flow's column
abbrev pub ohm_row : OhmRow → ℕ → RowName
ohm_row pf e = OhmPf e
ohm_row qf e = OhmQf e
ohm_row pt e = OhmPt e
ohm_row qt e = OhmQt e

abbrev pub flow_column : OhmRow → ℕ → ColumnName
flow_column pf e = Pf e
flow_column qf e = Qf e
flow_column pt e = Pt e
flow_column qt e = Qt e

module _ {A : Type 0} (G : AcNetwork A) where
  -- the bus of an Ohm row's w, and the row's columns
  abbrev pub end_bus : OhmRow → ℕ → ℕ
  end_bus pf e = G.from e
  end_bus qf e = G.from e
  end_bus pt e = G.to e
  end_bus qt e = G.to e

  abbrev pub ohm_column : OhmRow → OhmPlace → ℕ → ColumnName
  ohm_column r w e = W (end_bus r e)
  ohm_column r wr e = Wr e
  ohm_column r wi e = Wi e
  ohm_column r flow e = flow_column r e

module _ {A : Type 0} (o : Ops A) (G : AcNetwork A) where
  infixl 70 ◌*◌
  open o use {neg, ◌*◌}

  -- a constant at each column c j, j below n, with s j = i
  abbrev pub hits : ℕ → (ℕ → ℕ) → ℕ → (ℕ → ColumnName) → Constant → List (Cell A)
  hits n s i c v = each n (λ j. when (eqb (s j) i) (cell (c j) (constant v) ∷ []))

  -- the four cells of an Ohm row of branch e
  abbrev pub ohm_cells : OhmRow → ℕ → List (Cell A)
  ohm_cells r e =
      cell (ohm_column G r w e) (ohm o (branch_at o G e) r w) ∷ cell (ohm_column G r wr e) (ohm o (branch_at o G e) r wr)
      ∷ cell (ohm_column G r wi e) (ohm o (branch_at o G e) r wi) ∷ cell (ohm_column G r flow e) (ohm o (branch_at o G e) r flow) ∷ []

  -- constants at the two bus columns of a branch, the smaller number first
  abbrev pub ends : ℕ → Constant → Constant → List (Cell A)
  ends e f t =
      cond (ltb (G.from e) (G.to e))
      (cell (W (G.from e)) (constant f) ∷ cell (W (G.to e)) (constant t) ∷ [])
      (cell (W (G.to e)) (constant t) ∷ cell (W (G.from e)) (constant f) ∷ [])

  abbrev pub single : ColumnName → Constant → List (Cell A)
  single c v = cell c (constant v) ∷ []

  -- ---- A
  abbrev pub cells : RowName → List (Cell A)
  cells (Pbal i) =
      hits G.k G.gen_bus i Pg one ++ (cell (W i) (plain (neg (G.gs i))) ∷ [])
      ++ hits G.m G.from i Pf minus_one ++ hits G.m G.to i Pt minus_one
  cells (Qbal i) =
      hits G.k G.gen_bus i Qg one ++ (cell (W i) (plain (G.bs i)) ∷ [])
      ++ hits G.m G.from i Qf minus_one ++ hits G.m G.to i Qt minus_one
  cells (OhmPf e) = ohm_cells pf e
  cells (OhmQf e) = ohm_cells qf e
  cells (OhmPt e) = ohm_cells pt e
  cells (OhmQt e) = ohm_cells qt e
  cells (Wub i) = when (G.bounded i) (single (W i) one)
  cells (Wlb i) = when (G.bounded i) (single (W i) minus_one)
  cells (Pgub g) = when (G.capable g) (single (Pg g) one)
  cells (Pglb g) = when (G.capable g) (single (Pg g) minus_one)
  cells (Qgub g) = when (G.capable g) (single (Qg g) one)
  cells (Qglb g) = when (G.capable g) (single (Qg g) minus_one)
  cells (Angub e) = when (G.angled e) (cell (Wr e) (plain (neg (G.tanmax e))) ∷ cell (Wi e) (constant one) ∷ [])
  cells (Anglb e) = when (G.angled e) (cell (Wr e) (plain (G.tanmin e)) ∷ cell (Wi e) (constant minus_one) ∷ [])
  cells (Segment g t) = cell (Pg g) (plain (G.slope g t)) ∷ cell (CostOf g) (constant minus_one) ∷ []
  cells (Jabr e q) =
      get_or (ends e minus_half minus_half ∷ single (Wr e) minus_one ∷ single (Wi e) minus_one ∷ ends e minus_half half ∷ []) q []
  cells (Thermal e q) =
      get_or ([] ∷ single (Pf e) minus_one ∷ single (Qf e) minus_one ∷ [] ∷ single (Pt e) minus_one ∷ single (Qt e) minus_one ∷ []) q []

  -- ---- b
  abbrev pub rhs : RowName → A
  rhs (Pbal i) = G.pd i
  rhs (Qbal i) = G.qd i
  rhs (OhmPf e) = o.zero
  rhs (OhmQf e) = o.zero
  rhs (OhmPt e) = o.zero
  rhs (OhmQt e) = o.zero
  rhs (Wub i) = cond (G.bounded i) (G.vm_max i * G.vm_max i) o.one
  rhs (Wlb i) = cond (G.bounded i) (neg (G.vm_min i) * G.vm_min i) o.one
  rhs (Pgub g) = cond (G.capable g) (G.pmax g) o.one
  rhs (Pglb g) = cond (G.capable g) (neg (G.pmin g)) o.one
  rhs (Qgub g) = cond (G.capable g) (G.qmax g) o.one
  rhs (Qglb g) = cond (G.capable g) (neg (G.qmin g)) o.one
  rhs (Angub e) = cond (G.angled e) o.zero o.one
  rhs (Anglb e) = cond (G.angled e) o.zero o.one
  rhs (Segment g t) = neg (G.intercept g t)
  rhs (Jabr e q) = o.zero
  rhs (Thermal e q) = get_or (G.rate_a e ∷ o.zero ∷ o.zero ∷ G.rate_a e ∷ o.zero ∷ o.zero ∷ []) q o.zero

  -- what a row's `over` is over: tm2 in the Ohm rows; the other rows have no `over`
  abbrev pub under : RowName → A
  under (Pbal i) = o.one
  under (Qbal i) = o.one
  under (OhmPf e) = (branch_at o G e).tm2
  under (OhmQf e) = (branch_at o G e).tm2
  under (OhmPt e) = (branch_at o G e).tm2
  under (OhmQt e) = (branch_at o G e).tm2
  under (Wub i) = o.one
  under (Wlb i) = o.one
  under (Pgub g) = o.one
  under (Pglb g) = o.one
  under (Qgub g) = o.one
  under (Qglb g) = o.one
  under (Angub e) = o.one
  under (Anglb e) = o.one
  under (Segment g t) = o.one
  under (Jabr e q) = o.one
  under (Thermal e q) = o.one

-- ---- as the code computes it: binary64, and a computed coefficient that equals zero is dropped
abbrev pub constant64 : Constant → Float
constant64 one = one64
constant64 minus_one = Ieee.neg one64
constant64 half = of_bits binary64 0x3fe0000000000000
constant64 minus_half = Ieee.neg (of_bits binary64 0x3fe0000000000000)

-- a coefficient as the code computes it
abbrev pub computed : Reading Float Float
computed = record { number = λ a. a; ◌/◌ = div binary64; fixed = constant64 }

abbrev pub value64 : Float → Coefficient Float → Float
value64 = read computed

unfoldable pub ohm_value : Branch Float → OhmRow → OhmPlace → Float
ohm_value t r p = value64 t.tm2 (ohm rounded t r p)

pub record Term : Type 0 where
  pub col : ColumnName
  pub coef : Float

abbrev pub term : ColumnName → Float → Term
term c v = record { col = c; coef = v }

-- a term unless its coefficient equals zero
unfoldable pub kept : ColumnName → Float → List Term
kept c v = when (ne v zero64) (term c v ∷ [])

abbrev pub written_cell : Float → ColumnName → Coefficient Float → List Term
written_cell tm2 c (plain a) = kept c (value64 tm2 (plain a))
written_cell tm2 c (over a) = kept c (value64 tm2 (over a))
written_cell tm2 c (constant v) = term c (value64 tm2 (constant v)) ∷ []

abbrev pub written : Float → List (Cell Float) → List Term
written tm2 [] = []
written tm2 (c ∷ cs) = written_cell tm2 c.column c.value ++ written tm2 cs

-- the terms of a row, by ascending column, and its b
unfoldable pub terms : AcNetwork Float → RowName → List Term
terms G x = written (under rounded G x) (cells rounded G x)

unfoldable pub b : AcNetwork Float → RowName → Float
b G x = rhs rounded G x
