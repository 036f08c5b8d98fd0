-- q is zeros with the costs written at pg and ones at the cost columns: by its name a column is in one of these two runs, or its element is zero.
-- Assumes nothing.
use Rattle.std.specs.Float.{binary64}
use Rattle.std.specs.Float.Ieee.{add}
use Rattle.std.proofs.Common.{ℕ, ◌+◌, ◌≤◌, ◌<◌, ◌≡◌, refl, sym, ap, ◌∙◌, ◌⊎◌, inl, inr, ⊎_elim, List, [], ◌∷◌, arith, length, Float}
use Rattle.lists.specs.UpTo.{listed, overlay, bit, sum}
use Rattle.lists.proofs.Each.{each_ext, each-sums}
use Rattle.lists.proofs.Sums.{sum_room}
use Rattle.records.specs.AcNetwork.{AcNetwork}
use Rattle.numbering.specs.Numbering.{nvar, column_number, column_at}
use Rattle.numbering.specs.Layout.{layout_column, nvar_of}
use Rattle.numbering.specs.Laid.{net_of, Laid}
use Rattle.numbering.specs.declared.SocWrLayout.{SocWrLayout}
use Rattle.numbering.specs.declared.ColumnName.{ColumnName}
use Rattle.numbering.specs.declared.ColumnName.TheVariants.{Pg, Qg, W, Wr, Wi, Pf, Pt, Qf, Qt, CostOf}
use Rattle.numbering.proofs.Numbers.{HasColumn, column-number, layout-column, layout-nvar}
use Rattle.numbering.proofs.Names.{column-stands}
use Rattle.numbering.proofs.EveryPoint.{has-column, column-placed, several}
use Rattle.numbering.proofs.Laid.{curves_are, laid-nvar, pg_follows}
use Rattle.ring.specs.Ops.{rounded}
use Rattle.rows.specs.Rows.{zero64}
use Rattle.rows.specs.Program.{linear_at, linear}
use Rattle.cells.specs.Filled.{Filled}
use Rattle.lists.proofs.Listed.{listed-length}
use Rattle.cells.proofs.Fills.{kept-length}
use Rattle.cells.specs.Runs.{Run, run, RunsOver}
use Rattle.quadratic.specs.Linear.{linear_cost}
use Rattle.cells.proofs.Runs.{Windows, none, more, among, Covered, runs_front, sets_outside, window_inside}

-- what q has at a cost column
abbrev pub unit : Float
unit = add binary64 zero64 rounded.one

module _ (l : SocWrLayout) (bytes : List ℕ) (laid : Laid l bytes) where
  abbrev G : AcNetwork Float
  G = net_of l bytes

  -- q by number, and at the number of a name
  abbrev cost : ℕ → Float
  cost c = linear_at rounded G (column_at G c)

  cost-at : (p : ℕ) (x : ColumnName) → HasColumn G x → p ≡ column_number G x → cost p ≡ linear_at rounded G x
  cost-at p x h e = ap cost e ∙ ap (linear_at rounded G) (column-placed G x h)

  -- the cost columns of all piecewise generators, one after the other
  cost-columns : listed l.cost_columns (λ j. unit) ≡ listed l.cost_columns (λ j. cost (layout_column l (CostOf 0) + j))
  cost-columns =
      ap (λ (n : ℕ). listed n (λ j. unit)) (curves_are l bytes laid)
      ∙ each-sums c (λ j. unit ∷ []) l.k
      ∙ each_ext _ _ l.k (λ g h. each_ext _ _ (c g) (λ q o. ap (λ (v : Float). v ∷ []) (sym (here g q h o))))
      ∙ sym (each-sums c (λ j. cost (layout_column l (CostOf 0) + j) ∷ []) l.k)
      ∙ ap (λ (n : ℕ). listed n (λ j. cost (layout_column l (CostOf 0) + j))) (sym (curves_are l bytes laid))
    where
      c : ℕ → ℕ
      c g = bit (G.piecewise g)

      here : (g q : ℕ) → g < l.k → q < c g → cost (layout_column l (CostOf 0) + (sum g c + q)) ≡ unit
      here g q h o =
          let on = several (G.piecewise g) 1 q (omega arith) in
          cost-at _ (CostOf g) (h, on.0) (omega (arith, on.1, layout-column l (CostOf 0), column-number G (CostOf g)))

  abbrev pg_run : Run
  pg_run = run (layout_column l (Pg 0)) (listed l.k (linear_cost l bytes))

  abbrev cost_run : Run
  cost_run = run (layout_column l (CostOf 0)) (listed l.cost_columns (λ j. unit))

  abbrev pub cost_runs : List Run
  cost_runs = pg_run ∷ cost_run ∷ []

  windows : Windows cost (nvar G) cost_runs
  unfolding linear_cost
  windows =
      let columns = laid-nvar l bytes laid in
      let last = layout-nvar l in
      more l.k (each_ext _ _ l.k (λ g h. ap (λ (v : Float). v ∷ []) (sym (cost-at _ (Pg g) h (pg_follows l bytes g))))) (omega (arith, layout-column l (Pg 0)))
      (more l.cost_columns cost-columns (omega (arith, layout-column l (CostOf 0)))
      none)

  covered : (x : ColumnName) → HasColumn G x → Covered (column_number G x) cost_runs ⊎ (linear_at rounded G x ≡ zero64)
  covered (Pg g) h =
      let long = listed-length (linear_cost l bytes) l.k in
      let at = pg_follows l bytes g in
      inl (record { which = pg_run; there = search among; from = omega (arith, at); to = omega (arith, at) })
  covered (Qg g) h = inr refl
  covered (W i) h = inr refl
  covered (Wr e) h = inr refl
  covered (Wi e) h = inr refl
  covered (Pf e) h = inr refl
  covered (Pt e) h = inr refl
  covered (Qf e) h = inr refl
  covered (Qt e) h = inr refl
  covered (CostOf g) h =
      let at = column-number G (CostOf g) in
      let first = layout-column l (CostOf 0) in
      let own = sum_room g l.k (λ i. bit (G.piecewise i)) h.0 in
      let on = ap bit h.1 in
      let curves = curves_are l bytes laid in
      let long = listed-length (λ j. unit) l.cost_columns in
      inl (record { which = cost_run; there = search among; from = omega arith; to = omega arith })

  -- as many as the layout says
  pub linear-length : length (linear G) ≡ nvar_of l
  unfolding linear
  linear-length = listed-length _ _ ∙ sym (laid-nvar l bytes laid)

  pub linear_runs : (o : List Float) {z o' : List Float} → nvar_of l ≤ length o → Filled (listed (nvar_of l) (λ j. zero64)) o 0 z → RunsOver cost_runs z o' → o' ≡ overlay (linear G) o
  unfolding linear
  linear_runs o room f runs =
      let columns = laid-nvar l bytes laid in
      let long = listed-length (λ j. zero64) (nvar_of l) in
      runs_front cost (nvar G) zero64 o windows (omega arith) (kept-length f)
      (λ c h. let s = column-stands G c h in
      let x = column_at G c in
      let here = rw s.number at (covered x (has-column G x s.valid)) in
      ⊎_elim inl (λ e. inr (rw f.is (window_inside (λ j. zero64) (nvar G) zero64 o 0 (nvar_of l) c (omega arith) (omega arith) (omega arith) ∙ sym e))) here)
      (λ c h. rw f.is (sets_outside (listed (nvar_of l) (λ j. zero64)) o 0 c zero64 (inr (omega arith))))
      runs
