-- All that is proved from the two documents. G is any network, x any values of its columns, so that a claim for every x says each place, sign
-- and formula of a row. What the manual says is proved over any commutative ring; what Clarabel's cones say is proved on whole numbers.
use Rattle.refusals.specs.Refusals.{passed}
use Rattle.std.specs.Prelude.{ℕ, ◌<◌, ◌≡◌, ◌↔◌, true, List, [], ◌∷◌, map, Float, ℤ, pos, ◌+ℤ◌, ◌*ℤ◌, ◌≤ℤ◌}
use Rattle.lists.specs.UpTo.{listed}
use Rattle.ring.specs.Ops.{Ops, whole}
use Rattle.ring.specs.Laws.{CommutativeRing, Cancels}
use Rattle.records.specs.AcNetwork.{BranchData, AcNetwork}
use Rattle.records.specs.Network.{network_of}
use Rattle.records.specs.Check.{check_of}
use Rattle.numbering.specs.Numbering.{ncon, row_at, cone_lengths}
use Rattle.numbering.specs.declared.ColumnName.{ColumnName}
use Rattle.numbering.specs.declared.ColumnName.TheVariants.{Pg, Qg, W, Wr, Wi, Pf, Pt, Qf, Qt, CostOf}
use Rattle.numbering.specs.declared.RowName.TheVariants.{Pbal, Qbal, Jabr}
use Rattle.rows.specs.Rows.{Coefficient, ohm_row}
use Rattle.rows.specs.declared.OhmRow.{OhmRow}
use Rattle.rows.specs.Scaled.{fraction_of, scaled, Quotient}
use Rattle.manual.specs.Matpower.{Complex, Line, YbrEntry, ◌⊗◌, conj, real, square, scale, left, right, ybr}
use Rattle.manual.specs.Slack.{slack}
use Rattle.manual.specs.Flows.{line_of, point_at, held_flow, manual, less, from_v, products}
use Rattle.manual.specs.Balance.{mismatch, sbus, by_branches, left_over}
use Rattle.manual.specs.Objective.{squared, linear_term, polynomials, variables}
use Rattle.manual.specs.Clarabel.{rows_of, squares, InProduct, cones}

-- ---- the MATPOWER manual, over the operations o of a commutative ring
module _ {A : Type 0} (o : Ops A) where
  infixl 60 ◌+◌
  infixl 60 ◌-◌
  infixl 70 ◌*◌
  open o use {zero, one, two, ◌+◌, ◌-◌, ◌*◌}

  -- "at g_fr = g_to = 0 and b_fr = b_to"
  pub record Symmetric (d : BranchData A) : Type 0 where
    pub gfr : d.gfr ≡ zero
    pub gto : d.gto ≡ zero
    pub bfr : d.bfr ≡ d.bto

  pub record FromManual (G : AcNetwork A) (x : ColumnName → A) : Type 0 where
    -- a coefficient, multiplied out, is 2 τ² times its numerator over its denominator
    pub multiplied : (tm2 : A) (c : Coefficient A) → scaled o tm2 c * (fraction_of o tm2 c).denominator ≡ two * tm2 * (fraction_of o tm2 c).numerator
    -- section 'Branches': the multiplied-out Ybr is the manual's
    pub branches : (l : Line A) → l.cosθ * l.cosθ + l.sinθ * l.sinθ ≡ one → (e : YbrEntry) → left o l e ≡ right o l e
    -- section 'Network Equations': S_f and S_t of the voltages, and of w_f = |v_f|², w_t = |v_t|² and c = v_f conj(v_t)
    pub powers : (l : Line A) (vf vt : Complex A) (r : OhmRow) → manual o l (products o l vf vt) r ≡ from_v o l vf vt r
    -- an Ohm row's s, times 2 τ²: the manual's flow less the flow's column
    pub ohm : (e : ℕ) (r : OhmRow) → Symmetric (G.branch e) → slack o G x (ohm_row r e) ≡ less o (line_of o (G.branch e)) (point_at G x e) r
    -- a shunt's power
    pub shunt : (ysh v : Complex A) → ◌⊗◌ o v (conj o (◌⊗◌ o ysh v)) ≡ ◌⊗◌ o (conj o ysh) (real o (square o v))
    -- S_bus from Ybus = C_f' Y_f + C_t' Y_t + [Y_sh] is what the branches and the shunt take, for any elements y of the branches' Ybr and voltages v
    pub split : (y : ℕ → YbrEntry → Complex A) (v : ℕ → Complex A) → ((e : ℕ) → e < G.m → (G.from e < G.n) × (G.to e < G.n))
        → (i : ℕ) → i < G.n → sbus o G y v i ≡ by_branches o G y v i
    -- a balance row's s, times 2, is the mismatch, twice
    pub active : (i : ℕ) → slack o G x (Pbal i) ≡ two * (mismatch o G x i).re
    pub reactive : (i : ℕ) → slack o G x (Qbal i) ≡ two * (mismatch o G x i).im
    -- the objective, twice: x'Px + 2 q'x = 2 (Σ cq pg² + cl pg, and Σ t)
    pub objective : squared o G x + two * linear_term o G x ≡ two * (polynomials o G x + variables o G x)

  -- ---- the whole at voltages: v at every bus and y of every branch, where y is Ybr and the columns hold the products of the voltages
  pub record AtVoltages (G : AcNetwork A) (x : ColumnName → A) (y : ℕ → YbrEntry → Complex A) (v : ℕ → Complex A) : Type 0 where
    pub buses-below : (e : ℕ) → e < G.m → (G.from e < G.n) × (G.to e < G.n)
    pub symmetric : (e : ℕ) → e < G.m → Symmetric (G.branch e)
    pub unit : (e : ℕ) → e < G.m → (G.branch e).cosine * (G.branch e).cosine + (G.branch e).sine * (G.branch e).sine ≡ one
    pub halves : Cancels o two
    pub ratio : (e : ℕ) → e < G.m → Cancels o (G.branch e).tap
    pub admittance : (e : ℕ) → e < G.m → (q : YbrEntry) → ◌⊗◌ o (y e q) (ybr o (line_of o (G.branch e)) q).under ≡ (ybr o (line_of o (G.branch e)) q).over
    pub squares : (i : ℕ) → i < G.n → x (W i) ≡ square o (v i)
    pub real-part : (e : ℕ) → e < G.m → x (Wr e) ≡ (◌⊗◌ o (v (G.from e)) (conj o (v (G.to e)))).re
    pub imaginary_part : (e : ℕ) → e < G.m → x (Wi e) ≡ (◌⊗◌ o (v (G.from e)) (conj o (v (G.to e)))).im

  -- where the flows meet the Ohm rows, each balance row's s is zero exactly where the manual's power balance holds; and each branch's cone of four
  -- holds with equality
  pub record Balanced (G : AcNetwork A) (x : ColumnName → A) (y : ℕ → YbrEntry → Complex A) (v : ℕ → Complex A) : Type 0 where
    pub active : ((e : ℕ) → e < G.m → (r : OhmRow) → slack o G x (ohm_row r e) ≡ zero)
        → (i : ℕ) → i < G.n → (slack o G x (Pbal i) ≡ zero) ↔ ((left_over o G x (sbus o G y v i) i).re ≡ zero)
    pub reactive : ((e : ℕ) → e < G.m → (r : OhmRow) → slack o G x (ohm_row r e) ≡ zero)
        → (i : ℕ) → i < G.n → (slack o G x (Qbal i) ≡ zero) ↔ ((left_over o G x (sbus o G y v i) i).im ≡ zero)
    pub cone : (e : ℕ) → e < G.m
        → squares o (slack o G x (Jabr e 1) ∷ slack o G x (Jabr e 2) ∷ slack o G x (Jabr e 3) ∷ []) ≡ slack o G x (Jabr e 0) * slack o G x (Jabr e 0)

-- both, for every commutative ring, network and values of the columns
abbrev pub ManualHolds : Type 1
ManualHolds = (A : Type 0) (o : Ops A) → CommutativeRing o → (G : AcNetwork A) (x : ColumnName → A) → FromManual o G x

abbrev pub BalanceHolds : Type 1
BalanceHolds =
    (A : Type 0) (o : Ops A) → CommutativeRing o → (G : AcNetwork A) (x : ColumnName → A) (y : ℕ → YbrEntry → Complex A) (v : ℕ → Complex A)
    → AtVoltages o G x y v → Balanced o G x y v

-- what the code computes for a coefficient is that numerator over that denominator, rounded
abbrev pub Rounded : Type 0
Rounded = (tm2 : Float) (c : Coefficient Float) → Quotient tm2 c

-- ---- Clarabel's form, on whole numbers: what it says that s lies in the product of the cones
pub record Meant (G : AcNetwork ℤ) (x : ColumnName → ℤ) : Type 0 where
  -- the zero cone: the mismatch is 0, and each flow is the manual's, both times 2 τ²
  pub pbal : (i : ℕ) → i < G.n → (mismatch whole G x i).re ≡ pos 0
  pub qbal : (i : ℕ) → i < G.n → (mismatch whole G x i).im ≡ pos 0
  pub ohm : (e : ℕ) → e < G.m → (r : OhmRow)
      → manual whole (line_of whole (G.branch e)) (point_at G x e) r ≡ scale whole (line_of whole (G.branch e)) *ℤ held_flow whole (point_at G x e) r
  -- the nonnegative cone: each bound with its sign, where it is active
  pub wub : (i : ℕ) → i < G.n → G.bounded i ≡ true → x (W i) ≤ℤ (G.vm_max i *ℤ G.vm_max i)
  pub wlb : (i : ℕ) → i < G.n → G.bounded i ≡ true → (G.vm_min i *ℤ G.vm_min i) ≤ℤ x (W i)
  pub pgub : (g : ℕ) → g < G.k → G.capable g ≡ true → x (Pg g) ≤ℤ G.pmax g
  pub pglb : (g : ℕ) → g < G.k → G.capable g ≡ true → G.pmin g ≤ℤ x (Pg g)
  pub qgub : (g : ℕ) → g < G.k → G.capable g ≡ true → x (Qg g) ≤ℤ G.qmax g
  pub qglb : (g : ℕ) → g < G.k → G.capable g ≡ true → G.qmin g ≤ℤ x (Qg g)
  pub angub : (e : ℕ) → e < G.m → G.angled e ≡ true → x (Wi e) ≤ℤ (G.tanmax e *ℤ x (Wr e))
  pub anglb : (e : ℕ) → e < G.m → G.angled e ≡ true → (G.tanmin e *ℤ x (Wr e)) ≤ℤ x (Wi e)
  pub cost : (g t : ℕ) → g < G.k → t < G.segments g → (G.slope g t *ℤ x (Pg g) +ℤ G.intercept g t) ≤ℤ x (CostOf g)
  -- the second-order cones: wr² + wi² ≤ w_f w_t with w_f + w_t not negative, and p² + q² ≤ rate² at each end of a limited branch
  pub jabr : (e : ℕ) → e < G.m
      → (pos 0 ≤ℤ (x (W (G.from e)) +ℤ x (W (G.to e)))) × ((x (Wr e) *ℤ x (Wr e) +ℤ x (Wi e) *ℤ x (Wi e)) ≤ℤ (x (W (G.from e)) *ℤ x (W (G.to e))))
  pub thermal-from : (e : ℕ) → e < G.m → G.limited e ≡ true
      → (pos 0 ≤ℤ G.rate_a e) × ((x (Pf e) *ℤ x (Pf e) +ℤ x (Qf e) *ℤ x (Qf e)) ≤ℤ (G.rate_a e *ℤ G.rate_a e))
  pub thermal-to : (e : ℕ) → e < G.m → G.limited e ≡ true
      → (pos 0 ≤ℤ G.rate_a e) × ((x (Pt e) *ℤ x (Pt e) +ℤ x (Qt e) *ℤ x (Qt e)) ≤ℤ (G.rate_a e *ℤ G.rate_a e))

-- "whole numbers put for the floats": G has the counts, buses, flags and segments of F, and any numbers
pub record PutFor (F : AcNetwork Float) (G : AcNetwork ℤ) : Type 0 where
  pub n : G.n ≡ F.n
  pub m : G.m ≡ F.m
  pub k : G.k ≡ F.k
  pub s : G.s ≡ F.s
  pub from : G.from ≡ F.from
  pub to : G.to ≡ F.to
  pub gen_bus : G.gen_bus ≡ F.gen_bus
  pub bounded : G.bounded ≡ F.bounded
  pub limited : G.limited ≡ F.limited
  pub angled : G.angled ≡ F.angled
  pub capable : G.capable ≡ F.capable
  pub piecewise : G.piecewise ≡ F.piecewise
  pub segments : G.segments ≡ F.segments

-- the s of all rows, by number
abbrev pub slacks : (G : AcNetwork ℤ) → (ColumnName → ℤ) → List ℤ
slacks G x = listed (ncon G) (λ p. slack whole G x (row_at G p))

-- of every accepted network: the cones have the lengths that are handed to Clarabel, and s lies in their product exactly where every row's
-- meaning holds
abbrev pub ConesHold : Type 0
ConesHold =
    (n m k s : ℕ) (bytes : List ℕ) → check_of n m k s bytes ≡ passed → (G : AcNetwork ℤ) → PutFor (network_of n m k s bytes) G
    → (map rows_of (cones G) ≡ cone_lengths G)
    × (((e : ℕ) → e < G.m → Symmetric whole (G.branch e)) → (x : ColumnName → ℤ) → InProduct (cones G) (slacks G x) ↔ Meant G x)
