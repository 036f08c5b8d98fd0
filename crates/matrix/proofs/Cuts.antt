-- What a row's terms have in a column. Assumes nothing.
use Rattle.std.proofs.Common.{ℕ, zero, suc, ◌<◌, ◌≡◌, refl, sym, ◌∙◌, List, [], ◌∷◌, ◌++◌, append_assoc, append-nil, Bool, true, false, ◌&&◌, cond, eqb, ltb, Float, eqb-true}
use Rattle.std.specs.Float.Ieee.{ne, neg}
use Rattle.lists.specs.UpTo.{up_to, each, when}
use Rattle.lists.specs.Entries.{Cell}
use Rattle.lists.proofs.Each.{when_false, when-nil, when-swap, when-append, each_nil, each_ext, each_at, each-at-when, each-hit, each_group, each_three, each-four, when_pairs, when-order}
use Rattle.ring.specs.Ops.{rounded}
use Rattle.records.specs.AcNetwork.{AcNetwork}
use Rattle.rows.specs.Branch.{branch_at}
use Rattle.records.proofs.Sound.{Sound}
use Rattle.numbering.specs.Numbering.{column_key, row_number}
use Rattle.numbering.specs.declared.ColumnName.{ColumnName}
use Rattle.numbering.specs.declared.ColumnName.TheVariants.{Pg, Qg, W, Wr, Wi, Pf, Pt, Qf, Qt, CostOf}
use Rattle.numbering.specs.declared.RowName.TheVariants.{Pbal, Qbal, OhmPf, OhmQf, OhmPt, OhmQt, Wub, Wlb, Pgub, Pglb, Qgub, Qglb, Angub, Anglb, Segment, Jabr, Thermal}
use Rattle.numbering.proofs.Numbers.{HasColumn}
use Rattle.rows.specs.Rows.{Constant, one, minus_one, half, minus_half, constant64, zero64, Term, kept, wr, wi, ohm_value}
use Rattle.rows.specs.declared.OhmRow.TheVariants.{Pf as pf, Qf as qf, Pt as pt, Qt as qt}
use Rattle.rows.specs.Program.{every_row}
use Rattle.rows.proofs.Shape.{hit_terms, end_terms}
use Rattle.matrix.specs.Columns.{one_cell, nonzero_cell, at, keep, slope_cell, pg_cells, qg_cells, shunt_cells, ohm_cell, bound_cells, cone_from}
use Rattle.matrix.specs.Columns.{cone_to, ohm_at, cones_at, w_cells, ohm_column_cells, wr_cells, wi_cells, flow_cells, cost_cell, cost_cells}
use Rattle.matrix.specs.Columns.{column_cells}
use Rattle.matrix.proofs.Shaped.{sole, ohm_terms, shaped}

-- whether two columns have the same block and record
abbrev pub same : ColumnName → ColumnName → Bool
same a b = eqb (column_key a).block (column_key b).block && eqb (column_key a).item (column_key b).item

-- the terms of row r that stand in column κ
unfoldable pub cut : ColumnName → ℕ → List Term → List Cell
cut κ r [] = []
cut κ r (t ∷ ts) = when (same t.col κ) (one_cell r t.coef) ++ cut κ r ts

both : (a b : Bool) → a && b ≡ true → (a ≡ true) × (b ≡ true)
both true b h = (refl, h)
both false true h = (h, refl)
both false false h = (h, h)

ends_same : (κ : ColumnName) (f t : ℕ) → same (W f) κ ≡ true → same (W t) κ ≡ true → f ≡ t
ends_same κ f t p q =
    eqb-true f (column_key κ).item (both (eqb (column_key (W f)).block (column_key κ).block) (eqb f (column_key κ).item) p).1
    ∙ sym (eqb-true t (column_key κ).item (both (eqb (column_key (W t)).block (column_key κ).block) (eqb t (column_key κ).item) q).1)

module _ (κ : ColumnName) (r : ℕ) where
  cut-append : (xs ys : List Term) → cut κ r (xs ++ ys) ≡ cut κ r xs ++ cut κ r ys
  unfolding cut
  cut-append [] ys = refl
  cut-append (x ∷ xs) ys = rw (cut-append xs ys, append_assoc)

  cut-each : (n : ℕ) (f : ℕ → List Term) → cut κ r (each n f) ≡ each n (λ j. cut κ r (f j))
  unfolding cut up_to
  cut-each zero f = refl
  cut-each (suc n) f = rw (cut-append (each n f) (f n), cut-each n f)

  cut-when : (b : Bool) (xs : List Term) → cut κ r (when b xs) ≡ when b (cut κ r xs)
  unfolding cut
  cut-when true xs = refl
  cut-when false xs = refl

  cut-nil : cut κ r [] ≡ []
  unfolding cut
  cut-nil = refl

  cut-sole : (c : ColumnName) (v : Float) → cut κ r (sole c v) ≡ when (same c κ) (one_cell r v)
  unfolding cut sole
  cut-sole c v = append-nil _

  cut-kept : (c : ColumnName) (v : Float) → cut κ r (kept c v) ≡ when (same c κ) (nonzero_cell r v)
  unfolding kept nonzero_cell sole
  cut-kept c v = rw (cut-when (ne v zero64) (sole c v), cut-sole c v) (when-swap (ne v zero64) (same c κ) (one_cell r v))

  cut-hits : (n : ℕ) (s : ℕ → ℕ) (i : ℕ) (c : ℕ → ColumnName) (v : Constant)
      → cut κ r (hit_terms n s i c v) ≡ each n (λ j. when (same (c j) κ) (when (eqb (s j) i) (one_cell r (constant64 v))))
  unfolding hit_terms sole
  cut-hits n s i c v =
      cut-each n _
      ∙ each_ext _ _ n
      (λ j l.
      rw (cut-when (eqb (s j) i) (sole (c j) (constant64 v)), cut-sole (c j) (constant64 v))
      (when-swap (eqb (s j) i) (same (c j) κ) (one_cell r (constant64 v))))

  cut-cond : (b : Bool) (xs ys : List Term) → cut κ r (cond b xs ys) ≡ cond b (cut κ r xs) (cut κ r ys)
  cut-cond true xs ys = refl
  cut-cond false xs ys = refl

  -- of two terms that are not both in the column, the first first
  either : (b x y : Bool) (p q : List Cell) → (x ≡ true → y ≡ true → ⊥) → cond b (when x p ++ when y q) (when y q ++ when x p) ≡ when x p ++ when y q
  either true x y p q h = refl
  either false x y p q h = when-order x y p q h

  -- the two ends of a branch
  cut-ends : (f t : ℕ) (u v : Float) → (f ≡ t → ⊥)
      → cut κ r (cond (ltb f t) (sole (W f) u ++ sole (W t) v) (sole (W t) v ++ sole (W f) u)) ≡ when (same (W f) κ) (one_cell r u) ++ when (same (W t) κ) (one_cell r v)
  cut-ends f t u v d =
      cut-cond (ltb f t) (sole (W f) u ++ sole (W t) v) (sole (W t) v ++ sole (W f) u)
      ∙ rw (cut-append (sole (W f) u) (sole (W t) v), cut-append (sole (W t) v) (sole (W f) u), cut-sole (W f) u, cut-sole (W t) v)
      (either (ltb f t) (same (W f) κ) (same (W t) κ) (one_cell r u) (one_cell r v) (λ p q. d (ends_same κ f t p q)))

ruleset cuts = (cut-append, cut-hits, cut-kept, cut-sole, cut-when, cut-nil, when_false, when-nil, each_nil, each_three, each-four, append-nil)

module _ (G : AcNetwork Float) where
  -- every row in its order, and what it has in the column
  unfoldable pub column : ColumnName → List Cell
  column κ = every_row G (λ x. cut κ (row_number G x) (shaped G x))

module _ (G : AcNetwork Float) (sound : Sound G) (bus_below : (g : ℕ) → g < G.k → G.gen_bus g < G.n) where
  -- the first and the last row of a branch's cone
  cone : (κ : ColumnName) (e : ℕ) → e < G.m → cut κ (row_number G (Jabr e 0)) (shaped G (Jabr e 0)) ++ cut κ (row_number G (Jabr e 3)) (shaped G (Jabr e 3))
      ≡ when (same (W (G.from e)) κ) (cone_from G e) ++ when (same (W (G.to e)) κ) (cone_to G e)
  unfolding shaped end_terms cone_from cone_to sole
  cone κ e l =
      rw (
        cut-ends κ (row_number G (Jabr e 0)) (G.from e) (G.to e) (constant64 minus_half) (constant64 minus_half) (sound.apart e l),
        cut-ends κ (row_number G (Jabr e 3)) (G.from e) (G.to e) (constant64 minus_half) (constant64 half) (sound.apart e l),
      )
      (when_pairs (same (W (G.from e)) κ) (same (W (G.to e)) κ) _ _ _ _ (λ p q. sound.apart e l (ends_same κ (G.from e) (G.to e) p q)))

  cones : (κ : ColumnName) → each G.m (λ e. cut κ (row_number G (Jabr e 0)) (shaped G (Jabr e 0)) ++ cut κ (row_number G (Jabr e 3)) (shaped G (Jabr e 3)))
      ≡ each G.m (λ e. when (same (W (G.from e)) κ) (cone_from G e) ++ when (same (W (G.to e)) κ) (cone_to G e))
  cones κ = each_ext _ _ G.m (cone κ)

  -- a cone without its two ends
  no_end : (κ : ColumnName) → ((i : ℕ) → same (W i) κ ≡ false) → (r f t : ℕ) (u v : Float) → (f ≡ t → ⊥)
      → cut κ r (cond (ltb f t) (sole (W f) u ++ sole (W t) v) (sole (W t) v ++ sole (W f) u)) ≡ []
  no_end κ h r f t u v d = cut-ends κ r f t u v d ∙ rw (h f, h t)

  middle : (κ : ColumnName) → ((i : ℕ) → same (W i) κ ≡ false) → (mid : ℕ → List Cell)
      → each G.m (λ e. cut κ (row_number G (Jabr e 0)) (shaped G (Jabr e 0)) ++ mid e ++ cut κ (row_number G (Jabr e 3)) (shaped G (Jabr e 3))) ≡ each G.m mid
  unfolding shaped end_terms sole
  middle κ h mid =
      each_ext _ mid G.m
      (λ e l.
      rw (
        no_end κ h (row_number G (Jabr e 0)) (G.from e) (G.to e) (constant64 minus_half) (constant64 minus_half) (sound.apart e l),
        no_end κ h (row_number G (Jabr e 3)) (G.from e) (G.to e) (constant64 minus_half) (constant64 half) (sound.apart e l),
      )
      (append-nil (mid e)))

  col_pg : (g : ℕ) → g < G.k → column G (Pg g) ≡ pg_cells G g
  unfolding column shaped ohm_terms pg_cells slope_cell
  col_pg g l =
      simp cuts
      (rw (
        each-hit G.gen_bus (λ j. at G (Pbal j) (constant64 one)) g G.k G.n l (bus_below g l),
        each-at-when G.capable (λ g. at G (Pgub g) (constant64 one)) g G.k l,
        each-at-when G.capable (λ g. at G (Pglb g) (constant64 minus_one)) g G.k l,
        each_group G.segments (λ g t. keep G (Segment g t) (G.slope g t)) g G.k l,
        cones (Pg g),
        each_nil G.m,
      )
      (simp (when-append, append_assoc, append-nil)))

  col_qg : (g : ℕ) → g < G.k → column G (Qg g) ≡ qg_cells G g
  unfolding column shaped ohm_terms qg_cells
  col_qg g l =
      simp cuts
      (rw (
        each-hit G.gen_bus (λ j. at G (Qbal j) (constant64 one)) g G.k G.n l (bus_below g l),
        each-at-when G.capable (λ g. at G (Qgub g) (constant64 one)) g G.k l,
        each-at-when G.capable (λ g. at G (Qglb g) (constant64 minus_one)) g G.k l,
        cones (Qg g),
        each_nil G.m,
      )
      (simp (when-append, append_assoc, append-nil)))

  col_w : (i : ℕ) → i < G.n → column G (W i) ≡ w_cells G i
  unfolding column shaped ohm_terms w_cells shunt_cells bound_cells ohm_cell ohm_at cones_at
  col_w i l =
      simp cuts
      (rw (
        each_at (λ j. keep G (Pbal j) (neg (G.gs j))) i G.n l,
        each_at (λ j. keep G (Qbal j) (G.bs j)) i G.n l,
        each-at-when G.bounded (λ j. at G (Wub j) (constant64 one)) i G.n l,
        each-at-when G.bounded (λ j. at G (Wlb j) (constant64 minus_one)) i G.n l,
        cones (W i),
      )
      (simp (when-append, append_assoc)))

  col-wr : (e : ℕ) → e < G.m → column G (Wr e) ≡ wr_cells G e
  unfolding column shaped ohm_terms wr_cells ohm_column_cells
  col-wr e l =
      simp cuts
      (rw (
        each_at (λ e. keep G (OhmPf e) (ohm_value (branch_at rounded G e) pf wr)) e G.m l,
        each_at (λ e. keep G (OhmQf e) (ohm_value (branch_at rounded G e) qf wr)) e G.m l,
        each_at (λ e. keep G (OhmPt e) (ohm_value (branch_at rounded G e) pt wr)) e G.m l,
        each_at (λ e. keep G (OhmQt e) (ohm_value (branch_at rounded G e) qt wr)) e G.m l,
        each-at-when G.angled (λ e. keep G (Angub e) (neg (G.tanmax e))) e G.m l,
        each-at-when G.angled (λ e. keep G (Anglb e) (G.tanmin e)) e G.m l,
        middle (Wr e) (λ i. refl) (λ j. when (eqb j e) (at G (Jabr j 1) (constant64 minus_one))),
        each_at (λ e. at G (Jabr e 1) (constant64 minus_one)) e G.m l,
      )
      (simp (when-append, append_assoc)))

  col-wi : (e : ℕ) → e < G.m → column G (Wi e) ≡ wi_cells G e
  unfolding column shaped ohm_terms wi_cells ohm_column_cells
  col-wi e l =
      simp cuts
      (rw (
        each_at (λ e. keep G (OhmPf e) (ohm_value (branch_at rounded G e) pf wi)) e G.m l,
        each_at (λ e. keep G (OhmQf e) (ohm_value (branch_at rounded G e) qf wi)) e G.m l,
        each_at (λ e. keep G (OhmPt e) (ohm_value (branch_at rounded G e) pt wi)) e G.m l,
        each_at (λ e. keep G (OhmQt e) (ohm_value (branch_at rounded G e) qt wi)) e G.m l,
        each-at-when G.angled (λ e. at G (Angub e) (constant64 one)) e G.m l,
        each-at-when G.angled (λ e. at G (Anglb e) (constant64 minus_one)) e G.m l,
        middle (Wi e) (λ i. refl) (λ j. when (eqb j e) (at G (Jabr j 2) (constant64 minus_one))),
        each_at (λ e. at G (Jabr e 2) (constant64 minus_one)) e G.m l,
      )
      (simp (when-append, append_assoc)))

  col-pf : (e : ℕ) → e < G.m → column G (Pf e) ≡ flow_cells G pf e
  unfolding column shaped ohm_terms flow_cells
  col-pf e l =
      simp cuts
      (rw (
        each-hit G.from (λ j. at G (Pbal j) (constant64 minus_one)) e G.m G.n l (sound.from_bus e l),
        each_at (λ e. at G (OhmPf e) (constant64 one)) e G.m l,
        each-at-when G.limited (λ e. at G (Thermal e 1) (constant64 minus_one)) e G.m l,
        cones (Pf e),
        each_nil G.m,
      ))

  col-pt : (e : ℕ) → e < G.m → column G (Pt e) ≡ flow_cells G pt e
  unfolding column shaped ohm_terms flow_cells
  col-pt e l =
      simp cuts
      (rw (
        each-hit G.to (λ j. at G (Pbal j) (constant64 minus_one)) e G.m G.n l (sound.to_bus e l),
        each_at (λ e. at G (OhmPt e) (constant64 one)) e G.m l,
        each-at-when G.limited (λ e. at G (Thermal e 4) (constant64 minus_one)) e G.m l,
        cones (Pt e),
        each_nil G.m,
      ))

  col-qf : (e : ℕ) → e < G.m → column G (Qf e) ≡ flow_cells G qf e
  unfolding column shaped ohm_terms flow_cells
  col-qf e l =
      simp cuts
      (rw (
        each-hit G.from (λ j. at G (Qbal j) (constant64 minus_one)) e G.m G.n l (sound.from_bus e l),
        each_at (λ e. at G (OhmQf e) (constant64 one)) e G.m l,
        each-at-when G.limited (λ e. at G (Thermal e 2) (constant64 minus_one)) e G.m l,
        cones (Qf e),
        each_nil G.m,
      ))

  col-qt : (e : ℕ) → e < G.m → column G (Qt e) ≡ flow_cells G qt e
  unfolding column shaped ohm_terms flow_cells
  col-qt e l =
      simp cuts
      (rw (
        each-hit G.to (λ j. at G (Qbal j) (constant64 minus_one)) e G.m G.n l (sound.to_bus e l),
        each_at (λ e. at G (OhmQt e) (constant64 one)) e G.m l,
        each-at-when G.limited (λ e. at G (Thermal e 5) (constant64 minus_one)) e G.m l,
        cones (Qt e),
        each_nil G.m,
      ))

  col-cost : (g : ℕ) → g < G.k → column G (CostOf g) ≡ cost_cells G g
  unfolding column shaped ohm_terms cost_cells cost_cell
  col-cost g l =
      simp cuts (rw (each_group G.segments (λ g t. at G (Segment g t) (constant64 minus_one)) g G.k l, cones (CostOf g), each_nil G.m) (simp append-nil))

  -- what the code writes is the column
  pub column-cells : (κ : ColumnName) → HasColumn G κ → column G κ ≡ column_cells G κ
  column-cells (Pg g) h = col_pg g h
  column-cells (Qg g) h = col_qg g h
  column-cells (W i) h = col_w i h
  column-cells (Wr e) h = col-wr e h
  column-cells (Wi e) h = col-wi e h
  column-cells (Pf e) h = col-pf e h
  column-cells (Pt e) h = col-pt e h
  column-cells (Qf e) h = col-qf e h
  column-cells (Qt e) h = col-qt e h
  column-cells (CostOf g) h = col-cost g h.0
