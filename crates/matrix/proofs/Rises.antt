-- The rows ascend in each column. Assumes nothing.
use Rattle.std.proofs.Common.{ℕ, zero, suc, ◌+◌, ◌*◌, ◌≤◌, ◌<◌, ◌≡◌, refl, sym, ◌∙◌, Bool, true, false, List, [], ◌++◌, arith, eqb, Float, eqb-true}
use Rattle.std.specs.Float.Ieee.{ne}
use Rattle.lists.specs.UpTo.{up_to, each, when}
use Rattle.lists.specs.Entries.{Cell}
use Rattle.lists.proofs.Sums.{sum_mono, sum-next}
use Rattle.records.specs.AcNetwork.{AcNetwork}
use Rattle.records.proofs.Sound.{Sound}
use Rattle.numbering.specs.Numbering.{row_key, row_number, ncon}
use Rattle.numbering.specs.declared.ColumnName.{ColumnName}
use Rattle.numbering.specs.declared.ColumnName.TheVariants.{Pg, Qg, W, Wr, Wi, Pf, Pt, Qf, Qt, CostOf}
use Rattle.numbering.specs.declared.RowName.{RowName}
use Rattle.numbering.specs.declared.RowName.TheVariants.{Pbal, Qbal, OhmPf, OhmQf, OhmPt, OhmQt, Wub, Wlb, Pgub, Pglb, Qgub, Qglb, Angub, Anglb, Segment, Jabr, Thermal}
use Rattle.numbering.proofs.Numbers.{numbers, HasColumn, HasRow, row_below, row-rises}
use Rattle.rows.specs.Rows.{zero64, OhmPlace, wr, wi, end_bus, ohm_row}
use Rattle.rows.specs.declared.OhmRow.{OhmRow}
use Rattle.rows.specs.declared.OhmRow.TheVariants.{Pf as pf, Qf as qf, Pt as pt, Qt as qt}
use Rattle.matrix.specs.Columns.{one_cell, nonzero_cell, pg_cells, slope_cell, qg_cells, shunt_cells, ohm_cell, bound_cells, cone_from, cone_to}
use Rattle.matrix.specs.Columns.{ohm_at, cones_at, w_cells, ohm_column_cells, wr_cells, wi_cells, flow_cells, cost_cell, cost_cells, column_cells}
use Rattle.matrix.specs.Law.{Rising, stop, more}

up_from : {lo hi : ℕ} {cs : List Cell} (l : ℕ) → l ≤ lo → Rising lo hi cs → Rising l hi cs
up_from {hi = hi} l g (stop h) = let m : l ≤ hi = omega arith in stop m
up_from l g (more {r = r} h t) = let m : l ≤ r = omega arith in more m t

up-to : {lo hi : ℕ} {cs : List Cell} (u : ℕ) → hi ≤ u → Rising lo hi cs → Rising lo u cs
up-to {lo} u g (stop h) = let m : lo ≤ u = omega arith in stop m
up-to u g (more h t) = more h (up-to u g t)

up-fit : {lo hi : ℕ} {cs : List Cell} (l u : ℕ) → l ≤ lo → hi ≤ u → Rising lo hi cs → Rising l u cs
up-fit l u p q h = up_from l p (up-to u q h)

up-join : {lo mid from hi : ℕ} {xs ys : List Cell} → Rising lo mid xs → mid ≤ from → Rising from hi ys → Rising lo hi (xs ++ ys)
up-join {lo} {from = f} (stop h) g q = let m : lo ≤ f = omega arith in up_from lo m q
up-join (more h t) g q = more h (up-join t g q)

-- lists that follow each other, from a 0 to a n
up-each : (a : ℕ → ℕ) (n : ℕ) (f : ℕ → List Cell) → ((j : ℕ) → j < n → Rising (a j) (a (j + 1)) (f j)) → Rising (a 0) (a n) (each n f)
unfolding up_to
up-each a zero f h = let m : a 0 ≤ a 0 = omega arith in stop m
up-each a (suc n) f h = let e : n + 1 ≡ suc n = omega arith in up-join (up-each a n f (λ j l. h j (omega arith))) (omega arith) (rw e at (h n (omega arith)))

up-when : {lo hi : ℕ} {cs : List Cell} (b : Bool) → lo ≤ hi → (b ≡ true → Rising lo hi cs) → Rising lo hi (when b cs)
up-when true h p = p refl
up-when false h p = stop h

up_one : (r : ℕ) (v : Float) → Rising r (r + 1) (one_cell r v)
unfolding one_cell
up_one r v = let m : r ≤ r = omega arith in let e : r + 1 ≤ r + 1 = omega arith in more m (stop e)

up-nonzero : (r : ℕ) (v : Float) → Rising r (r + 1) (nonzero_cell r v)
unfolding nonzero_cell
up-nonzero r v = up-when (ne v zero64) (omega arith) (λ p. up_one r v)

up-nil : {l u : ℕ} {cs : List Cell} → Rising l u cs → Rising l u (cs ++ [])
up-nil (stop g) = stop g
up-nil (more g t) = more g (up-nil t)

-- one of two, or neither
up-either : {lo hi : ℕ} {xs ys : List Cell} (a b : Bool) → (a ≡ true → b ≡ true → ⊥) → lo ≤ hi → Rising lo hi xs → Rising lo hi ys → Rising lo hi (when a xs ++ when b ys)
up-either true true d h p q = absurd (d refl refl)
up-either true false d h p q = up-nil p
up-either false true d h p q = q
up-either false false d h p q = stop h

up-pair : (r s : ℕ) (v x : Float) → r + 1 ≤ s → Rising r (s + 1) (one_cell r v ++ one_cell s x)
up-pair r s v x h = up-join (up_one r v) h (up_one s x)

up-two : (r s : ℕ) (v x : Float) → r + 1 ≤ s → Rising r (s + 1) (nonzero_cell r v ++ nonzero_cell s x)
up-two r s v x h = up-join (up-nonzero r v) h (up-nonzero s x)

module _ (G : AcNetwork Float) (sound : Sound G) (bus_below : (g : ℕ) → g < G.k → G.gen_bus g < G.n) where
  -- a row of a later block comes after; and every row comes before the end
  after : (x y : RowName) → HasRow G x → HasRow G y → (row_key x).block < (row_key y).block → row_number G x + 1 ≤ row_number G y
  after x y h k l = omega (arith, row-rises G x y h k l)

  within : (x : RowName) → HasRow G x → row_number G x + 1 ≤ ncon G
  within x h = omega (arith, row_below G x h)

  -- the rows of a generator's segments, from its first on
  segment-rows : (g : ℕ) → g < G.k → (f : ℕ → List Cell) → ((t : ℕ) → Rising (row_number G (Segment g t)) (row_number G (Segment g t) + 1) (f t))
      → Rising (row_number G (Segment g 0)) (ncon G) (each (G.segments g) f)
  segment-rows g l f h =
      up-to (ncon G) (simp numbers (omega (arith, sum_mono (g + 1) G.k G.segments (omega arith), sum-next g G.segments)))
      (up-each (λ t. row_number G (Segment g t)) (G.segments g) f (λ t k. up-to _ (simp numbers (omega arith)) (h t)))

  -- a generator's upper and lower bound
  rise_pg : (g : ℕ) → g < G.k → Rising 0 (ncon G) (pg_cells G g)
  unfolding pg_cells slope_cell
  rise_pg g l =
      let below = after (Pgub g) (Pglb g) l l (omega arith) in
      up_from 0 (omega arith)
      (up-join
      (up-join (up_one _ _) (after (Pbal (G.gen_bus g)) (Pgub g) (bus_below g l) l (omega arith)) (up-when (G.capable g) (omega arith) (λ e. up-pair _ _ _ _ below)))
      (simp numbers (omega arith)) (segment-rows g l (slope_cell G g) (λ t. up-nonzero _ _)))

  rise_qg : (g : ℕ) → g < G.k → Rising 0 (ncon G) (qg_cells G g)
  unfolding qg_cells
  rise_qg g l =
      let below = after (Qgub g) (Qglb g) l l (omega arith) in
      up-fit 0 (ncon G) (omega arith) (within (Qglb g) l)
      (up-join (up_one _ _) (after (Qbal (G.gen_bus g)) (Qgub g) (bus_below g l) l (omega arith)) (up-when (G.capable g) (omega arith) (λ e. up-pair _ _ _ _ below)))

  rise_cost : (g : ℕ) → g < G.k → Rising 0 (ncon G) (cost_cells G g)
  unfolding cost_cells cost_cell
  rise_cost g l = up_from 0 (omega arith) (segment-rows g l (cost_cell G g) (λ t. up_one _ _))

  -- the four Ohm rows, the two angle rows and a row of the cone
  rise_four : (p : OhmPlace) (e : ℕ) → e < G.m → Rising 0 (row_number G (OhmQt e) + 1) (ohm_column_cells G p e)
  unfolding ohm_column_cells
  rise_four p e l =
      up_from 0 (omega arith)
      (up-join (up-join (up-two _ _ _ _ (after (OhmPf e) (OhmQf e) l l (omega arith)))
      (after (OhmQf e) (OhmPt e) l l (omega arith)) (up-nonzero _ _)) (after (OhmPt e) (OhmQt e) l l (omega arith)) (up-nonzero _ _))

  rise_branch : (p : OhmPlace) (e q : ℕ) → e < G.m → q < 4 → (angle : List Cell) (v : Float)
      → Rising (row_number G (Angub e)) (row_number G (Anglb e) + 1) angle
      → Rising 0 (ncon G) (ohm_column_cells G p e ++ when (G.angled e) angle ++ one_cell (row_number G (Jabr e q)) v)
  rise_branch p e q l h angle v a =
      let up = after (Angub e) (Anglb e) l l (omega arith) in
      up-to (ncon G) (within (Jabr e q) (l, h))
      (up-join (up-join (rise_four p e l) (after (OhmQt e) (Angub e) l l (omega arith)) (up-when (G.angled e) (omega arith) (λ t. a)))
      (after (Anglb e) (Jabr e q) l (l, h) (omega arith)) (up_one _ v))

  rise_wr : (e : ℕ) → e < G.m → Rising 0 (ncon G) (wr_cells G e)
  unfolding wr_cells
  rise_wr e l = rise_branch wr e 1 l (omega arith) _ _ (up-two _ _ _ _ (after (Angub e) (Anglb e) l l (omega arith)))

  rise_wi : (e : ℕ) → e < G.m → Rising 0 (ncon G) (wi_cells G e)
  unfolding wi_cells
  rise_wi e l = rise_branch wi e 2 l (omega arith) _ _ (up-pair _ _ _ _ (after (Angub e) (Anglb e) l l (omega arith)))

  -- a flow's balance row, its Ohm row and, of a limited branch, its thermal row
  flow-rows : (b o t : RowName) (l : Bool) (u v x : Float) → row_number G b + 1 ≤ row_number G o → HasRow G o → (l ≡ true → HasRow G t) → (row_key o).block < (row_key t).block
      → Rising 0 (ncon G) (one_cell (row_number G b) u ++ one_cell (row_number G o) v ++ when l (one_cell (row_number G t) x))
  flow-rows b o t l u v x p q h k =
      up_from 0 (omega arith)
      (up-join (up-pair _ _ u v p) (omega arith)
      (up-when {lo = row_number G o + 1} {hi = ncon G} l (within o q) (λ e. up-fit _ _ (after o t q (h e) k) (within t (h e)) (up_one _ x))))

  rise_flow : (r : OhmRow) (e : ℕ) → e < G.m → Rising 0 (ncon G) (flow_cells G r e)
  unfolding flow_cells
  rise_flow pf e l =
      flow-rows (Pbal (G.from e)) (OhmPf e) (Thermal e 1) _ _ _ _ (after (Pbal (G.from e)) (OhmPf e) (sound.from_bus e l) l (omega arith)) l (λ p. (l, p, omega arith)) (omega arith)
  rise_flow qf e l =
      flow-rows (Qbal (G.from e)) (OhmQf e) (Thermal e 2) _ _ _ _ (after (Qbal (G.from e)) (OhmQf e) (sound.from_bus e l) l (omega arith)) l (λ p. (l, p, omega arith)) (omega arith)
  rise_flow pt e l =
      flow-rows (Pbal (G.to e)) (OhmPt e) (Thermal e 4) _ _ _ _ (after (Pbal (G.to e)) (OhmPt e) (sound.to_bus e l) l (omega arith)) l (λ p. (l, p, omega arith)) (omega arith)
  rise_flow qt e l =
      flow-rows (Qbal (G.to e)) (OhmQt e) (Thermal e 5) _ _ _ _ (after (Qbal (G.to e)) (OhmQt e) (sound.to_bus e l) l (omega arith)) l (λ p. (l, p, omega arith)) (omega arith)

  -- the rows of a block of Ohm rows that a bus has a cell in
  scan : (r : OhmRow) (i : ℕ) → Rising (row_number G (ohm_row r 0)) (row_number G (ohm_row r 0) + G.m) (each G.m (ohm_at G r i))
  unfolding ohm_at ohm_cell
  scan r i =
      up_from _ (omega arith)
      (up-each (λ e. row_number G (ohm_row r 0) + e) G.m (ohm_at G r i)
      (λ e l. up-when (eqb (end_bus G r e) i) (omega arith) (λ q. up-fit _ _ (omega (arith, at_row r e)) (omega (arith, at_row r e)) (up-nonzero (row_number G (ohm_row r e)) _))))
    where
      at_row : (r : OhmRow) (e : ℕ) → row_number G (ohm_row r e) ≡ row_number G (ohm_row r 0) + e
      at_row pf e = simp numbers (omega arith)
      at_row qf e = simp numbers (omega arith)
      at_row pt e = simp numbers (omega arith)
      at_row qt e = simp numbers (omega arith)

  -- the rows of the cones; a branch's first and last, where one of its ends is the bus
  cones : (i : ℕ) → Rising (row_number G (Jabr 0 0)) (row_number G (Jabr 0 0) + 4 * G.m) (each G.m (cones_at G i))
  unfolding cones_at cone_from cone_to
  cones i =
      up_from _ (omega arith)
      (up-each (λ e. row_number G (Jabr 0 0) + 4 * e) G.m (cones_at G i)
      (λ e l.
      up-either (eqb (G.from e) i) (eqb (G.to e) i) (λ p q. sound.apart e l (eqb-true (G.from e) i p ∙ sym (eqb-true (G.to e) i q))) (omega arith)
      (pair e _ _) (pair e _ _)))
    where
      at_row : (e q : ℕ) → row_number G (Jabr e q) ≡ row_number G (Jabr 0 0) + 4 * e + q
      at_row e q = simp numbers (omega arith)

      pair : (e : ℕ) (u v : Float)
          → Rising (row_number G (Jabr 0 0) + 4 * e) (row_number G (Jabr 0 0) + 4 * (e + 1)) (one_cell (row_number G (Jabr e 0)) u ++ one_cell (row_number G (Jabr e 3)) v)
      pair e u v = up-fit _ _ (omega (arith, at_row e 0)) (omega (arith, at_row e 3)) (up-pair _ _ _ _ (omega (arith, at_row e 0, at_row e 3)))

  rise_w : (i : ℕ) → i < G.n → Rising 0 (ncon G) (w_cells G i)
  unfolding w_cells shunt_cells bound_cells
  rise_w i l =
      let below = after (Wub i) (Wlb i) l l (omega arith) in
      up-fit 0 (ncon G) (omega arith) (simp numbers (omega arith))
      (up-join
      (up-join
      (up-join
      (up-join
      (up-join
      (up-join (up-two _ _ _ _ (after (Pbal i) (Qbal i) l l (omega arith))) (simp numbers (omega arith)) (scan pf i))
      (simp numbers (omega arith)) (scan qf i))
      (simp numbers (omega arith)) (scan pt i))
      (simp numbers (omega arith)) (scan qt i))
      (simp numbers (omega arith))
      (up-when (G.bounded i) (omega arith) (λ p. up-pair _ _ _ _ below)))
      (simp numbers (omega arith)) (cones i))

  pub rises : (κ : ColumnName) → HasColumn G κ → Rising 0 (ncon G) (column_cells G κ)
  rises (Pg g) h = rise_pg g h
  rises (Qg g) h = rise_qg g h
  rises (W i) h = rise_w i h
  rises (Wr e) h = rise_wr e h
  rises (Wi e) h = rise_wi e h
  rises (Pf e) h = rise_flow pf e h
  rises (Pt e) h = rise_flow pt e h
  rises (Qf e) h = rise_flow qf e h
  rises (Qt e) h = rise_flow qt e h
  rises (CostOf g) h = rise_cost g h.0
