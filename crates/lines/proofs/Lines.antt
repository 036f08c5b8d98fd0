-- The lines of each kind stand for the rows of the network. Assumes nothing.
use Rattle.std.proofs.Common.{ℕ, zero, suc, ◌+◌, ◌<◌, ◌≤◌, ◌≡◌, refl, ap, ◌∙◌, Bool, true, false, ◌&&◌, cond, List, [], ◌∷◌, ◌++◌, map, arith, ltb, Float, lt-ltb, le-ltb}
use Rattle.std.specs.Float.Ieee.{neg, ne}
use Rattle.lists.specs.UpTo.{when, sum, bit, count}
use Rattle.lists.specs.Entries.{entry}
use Rattle.lists.proofs.Sums.{sum_room}
use Rattle.records.specs.AcNetwork.{AcNetwork}
use Rattle.records.specs.Fields.{voltage_bound_of, capability_of, angled_of, tan_angmin_of, tan_angmax_of}
use Rattle.numbering.specs.Numbering.{nvar, ncon, column_number, row_number}
use Rattle.numbering.specs.Layout.{layout_column, layout_row}
use Rattle.numbering.specs.Laid.{net_of, Laid}
use Rattle.numbering.specs.declared.SocWrLayout.{SocWrLayout}
use Rattle.numbering.specs.declared.ColumnName.{ColumnName}
use Rattle.numbering.specs.declared.ColumnName.TheVariants.{Pg, Qg, W, Wr, Wi, Pf, Pt, Qf, Qt, CostOf}
use Rattle.numbering.specs.declared.RowName.{RowName}
use Rattle.numbering.specs.declared.RowName.TheVariants.{Wub, Wlb, Pgub, Pglb, Qgub, Qglb, Angub, Anglb, Segment, Jabr, Thermal}
use Rattle.numbering.proofs.Numbers.{HasColumn, HasRow, column-below, row_below}
use Rattle.numbering.proofs.Laid.{limits_are, curves_are, laid-column, laid-row, laid-cost, laid-segment, laid-thermal}
use Rattle.rows.specs.Rows.{term, terms, b, zero64, constant64, Constant, one, minus_one, half, minus_half, kept}
use Rattle.rows.specs.Program.{thermal_from, thermal_to}
use Rattle.rows.proofs.Shape.{written-when, end_terms, jabr-first, jabr-last}
use Rattle.records.proofs.Sound.{sound}
use Rattle.records.proofs.Segments.{segments-fit}
use Rattle.lines.specs.Line.{Cone, line_at, Within, Stands, spot, line, single_line, ends_line, cone_line, ConeStands, thermal}
use Rattle.lines.specs.declared.Line.{Line}

module _ (l : SocWrLayout) (bytes : List ℕ) (h : Laid l bytes) where
  abbrev G : AcNetwork Float
  G = net_of l bytes

  -- a row of one term, which it has where the test holds, at a row and a column that are equal to their numbers
  one-term : (x : RowName) (c : ColumnName) (k : Constant) (on : Bool) (v : Float) {row col : ℕ} → row ≡ row_number G x → col ≡ column_number G c
      → ((r : ℕ) (f : Float → Float) → map (λ t. entry r (column_number G t.col) (f t.coef)) (terms G x) ≡ map (λ t. entry r (column_number G t.col) (f t.coef)) (when on (term c (constant64 k) ∷ [])))
      → v ≡ b G x → HasRow G x → HasColumn G c
      → Stands G x (single_line row v on col (constant64 k))
  unfolding line_at
  one-term x c k on v hr hc e p dr dc =
      rw (hr, hc)
      (record {
        number = refl;
        rhs = p;
        entries = λ r f. e r f ∙ go on r f;
        within = record { row = row_below G x dr; first = column-below G c dc; second = column-below G c dc };
      })
    where
      go : (d : Bool) (r : ℕ) (f : Float → Float) → map (λ t. entry r (column_number G t.col) (f t.coef)) (when d (term c (constant64 k) ∷ []))
          ≡ when d (entry r (column_number G c) (f (constant64 k)) ∷ [])
      go true r f = refl
      go false r f = refl

  pub wub-stands : (i : ℕ) → i < l.n → Stands G (Wub i)
      (single_line (layout_row l (Wub i)) (b G (Wub i)) (voltage_bound_of bytes i) (layout_column l (W i)) (constant64 one))
  unfolding terms b
  wub-stands i d = one-term (Wub i) (W i) one (voltage_bound_of bytes i) _ (laid-row l bytes h (Wub i) refl) (laid-column l bytes h (W i) refl) (λ r f. rw written-when) refl d d

  pub wlb-stands : (i : ℕ) → i < l.n → Stands G (Wlb i)
      (single_line (layout_row l (Wlb i)) (b G (Wlb i)) (voltage_bound_of bytes i) (layout_column l (W i)) (constant64 minus_one))
  unfolding terms b
  wlb-stands i d = one-term (Wlb i) (W i) minus_one (voltage_bound_of bytes i) _ (laid-row l bytes h (Wlb i) refl) (laid-column l bytes h (W i) refl) (λ r f. rw written-when) refl d d

  pub pgub-stands : (g : ℕ) → g < l.k → Stands G (Pgub g)
      (single_line (layout_row l (Pgub g)) (b G (Pgub g)) (capability_of bytes (l.n + l.m + g)) (layout_column l (Pg g)) (constant64 one))
  unfolding terms b
  pgub-stands g d = one-term (Pgub g) (Pg g) one (capability_of bytes (l.n + l.m + g)) _ (laid-row l bytes h (Pgub g) refl) (laid-column l bytes h (Pg g) refl) (λ r f. rw written-when) refl d d

  pub pglb-stands : (g : ℕ) → g < l.k → Stands G (Pglb g)
      (single_line (layout_row l (Pglb g)) (b G (Pglb g)) (capability_of bytes (l.n + l.m + g)) (layout_column l (Pg g)) (constant64 minus_one))
  unfolding terms b
  pglb-stands g d = one-term (Pglb g) (Pg g) minus_one (capability_of bytes (l.n + l.m + g)) _ (laid-row l bytes h (Pglb g) refl) (laid-column l bytes h (Pg g) refl) (λ r f. rw written-when) refl d d

  pub qgub-stands : (g : ℕ) → g < l.k → Stands G (Qgub g)
      (single_line (layout_row l (Qgub g)) (b G (Qgub g)) (capability_of bytes (l.n + l.m + g)) (layout_column l (Qg g)) (constant64 one))
  unfolding terms b
  qgub-stands g d = one-term (Qgub g) (Qg g) one (capability_of bytes (l.n + l.m + g)) _ (laid-row l bytes h (Qgub g) refl) (laid-column l bytes h (Qg g) refl) (λ r f. rw written-when) refl d d

  pub qglb-stands : (g : ℕ) → g < l.k → Stands G (Qglb g)
      (single_line (layout_row l (Qglb g)) (b G (Qglb g)) (capability_of bytes (l.n + l.m + g)) (layout_column l (Qg g)) (constant64 minus_one))
  unfolding terms b
  qglb-stands g d = one-term (Qglb g) (Qg g) minus_one (capability_of bytes (l.n + l.m + g)) _ (laid-row l bytes h (Qglb g) refl) (laid-column l bytes h (Qg g) refl) (λ r f. rw written-when) refl d d

  -- a term that is dropped where its coefficient equals zero, and one of a constant
  kept_and : (c d : ColumnName) (v : Float) (k : Constant) (on : Bool) (r : ℕ) (f : Float → Float)
      → map (λ t. entry r (column_number G t.col) (f t.coef)) (when on (kept c v ++ (term d (constant64 k) ∷ [])))
      ≡ line_at r f (line 0 zero64 (spot (on && ne v zero64) (column_number G c) v) (spot on (column_number G d) (constant64 k)))
  unfolding kept line_at
  kept_and c d v k on r f = go on (ne v zero64)
    where
      go : (p q : Bool) → map (λ t. entry r (column_number G t.col) (f t.coef)) (when p (when q (term c v ∷ []) ++ (term d (constant64 k) ∷ [])))
          ≡ when (p && q) (entry r (column_number G c) (f v) ∷ []) ++ when p (entry r (column_number G d) (f (constant64 k)) ∷ [])
      go true true = refl
      go true false = refl
      go false q = refl

  -- the same with any coefficient where the row is empty
  kept_where : (c d : ColumnName) (v w : Float) (k : Constant) (on : Bool) → (on ≡ true → w ≡ v) → (r : ℕ) (f : Float → Float)
      → map (λ t. entry r (column_number G t.col) (f t.coef)) (when on (kept c v ++ (term d (constant64 k) ∷ [])))
      ≡ line_at r f (line 0 zero64 (spot (on && ne w zero64) (column_number G c) w) (spot on (column_number G d) (constant64 k)))
  unfolding line_at
  kept_where c d v w k true e r f = rw (e refl) (kept_and c d v k true r f)
  kept_where c d v w k false e r f = refl

  -- a row of such two terms, which it has where the test holds
  two-terms : (x : RowName) (c d : ColumnName) (u v : Float) (k : Constant) (on : Bool) (w : Float) {row col next : ℕ} → (on ≡ true → v ≡ u)
      → row ≡ row_number G x → col ≡ column_number G c → next ≡ column_number G d
      → ((r : ℕ) (f : Float → Float) → map (λ t. entry r (column_number G t.col) (f t.coef)) (terms G x)
      ≡ map (λ t. entry r (column_number G t.col) (f t.coef)) (when on (kept c u ++ (term d (constant64 k) ∷ []))))
      → w ≡ b G x → HasRow G x → HasColumn G c → HasColumn G d
      → Stands G x (line row w (spot (on && ne v zero64) col v) (spot on next (constant64 k)))
  unfolding line_at
  two-terms x c d u v k on w q hr hc hd e p dr dc dd =
      rw (hr, hc, hd)
      (record {
        number = refl;
        rhs = p;
        entries = λ r f. e r f ∙ kept_where c d u v k on q r f;
        within = record { row = row_below G x dr; first = column-below G c dc; second = column-below G d dd };
      })

  pub angub-stands : (e : ℕ) (v : Float) → e < l.m → (angled_of bytes (l.n + e) ≡ true → v ≡ neg (tan_angmax_of bytes (l.n + e))) → Stands G (Angub e)
      (line (layout_row l (Angub e)) (b G (Angub e))
      (spot (angled_of bytes (l.n + e) && ne v zero64) (layout_column l (Wr e)) v) (spot (angled_of bytes (l.n + e)) (layout_column l (Wi e)) (constant64 one)))
  unfolding terms b
  angub-stands e v d q =
      two-terms (Angub e) (Wr e) (Wi e) _ v one (angled_of bytes (l.n + e)) _ q (laid-row l bytes h (Angub e) refl) (laid-column l bytes h (Wr e) refl) (laid-column l bytes h (Wi e) refl)
      (λ r f. rw written-when) refl d d d

  pub anglb-stands : (e : ℕ) (v : Float) → e < l.m → (angled_of bytes (l.n + e) ≡ true → v ≡ tan_angmin_of bytes (l.n + e)) → Stands G (Anglb e)
      (line (layout_row l (Anglb e)) (b G (Anglb e))
      (spot (angled_of bytes (l.n + e) && ne v zero64) (layout_column l (Wr e)) v) (spot (angled_of bytes (l.n + e)) (layout_column l (Wi e)) (constant64 minus_one)))
  unfolding terms b
  anglb-stands e v d q =
      two-terms (Anglb e) (Wr e) (Wi e) _ v minus_one (angled_of bytes (l.n + e)) _ q (laid-row l bytes h (Anglb e) refl) (laid-column l bytes h (Wr e) refl) (laid-column l bytes h (Wi e) refl)
      (λ r f. rw written-when) refl d d d

  -- the segments, cost columns and limited branches before a record are not more than the layout has
  pub segments_in : (g t segments : ℕ) → g < l.k → t < G.segments g → segments ≡ sum g G.segments → segments + t < l.s
  segments_in g t segments d q hs = omega (arith, segments-fit h.accepted g d)

  pub curves_in : (g curves : ℕ) → g < l.k → curves ≡ count g G.piecewise → curves ≤ l.cost_columns
  curves_in g curves d hc = omega (arith, sum_room g l.k (λ j. bit (G.piecewise j)) d, curves_are l bytes h)

  pub limits_in : (e limits : ℕ) → e < l.m → limits ≡ count e G.limited → limits ≤ l.t
  limits_in e limits d hl = omega (arith, sum_room e l.m (λ j. bit (G.limited j)) d, limits_are l bytes h)

  pub segment-stands : (g t row col : ℕ) → g < l.k → t < G.segments g
      → row ≡ layout_row l (Segment (sum g G.segments + t) 0) → col ≡ layout_column l (CostOf (count g G.piecewise))
      → Stands G (Segment g t)
      (line row (b G (Segment g t)) (spot (ne (G.slope g t) zero64) (layout_column l (Pg g)) (G.slope g t)) (spot true col (constant64 minus_one)))
  unfolding terms b
  segment-stands g t row col d q hr hc =
      two-terms (Segment g t) (Pg g) (CostOf g) (G.slope g t) _ minus_one true _ (λ e. refl) (hr ∙ laid-segment l bytes h g t) (laid-column l bytes h (Pg g) refl) (hc ∙ laid-cost l bytes h g)
      (λ r f. refl) refl (d, q) d (d, (sound l.n l.m l.k l.s bytes h.accepted).pieces g t d q)

  -- ---- cones

  abbrev ordered : Bool → ℕ → ℕ → ℕ → Float → Line
  ordered p f u r v = cond p (line r zero64 (spot true f (constant64 minus_half)) (spot true u v)) (line r zero64 (spot true u v) (spot true f (constant64 minus_half)))

  ends_stand : (x : RowName) (e : ℕ) (k : Constant) {row : ℕ} → e < l.m → row ≡ row_number G x → terms G x ≡ end_terms G e minus_half k → zero64 ≡ b G x → HasRow G x
      → Stands G x (ends_line l (G.from e) (G.to e) row (constant64 k))
  unfolding end_terms ends_line line_at
  ends_stand x e k d hr ht hb dr =
      rw (hr, laid-column l bytes h (W (G.from e)) refl, laid-column l bytes h (W (G.to e)) refl)
      (record {
        number = go-number (ltb (G.from e) (G.to e));
        rhs = go-rhs (ltb (G.from e) (G.to e)) ∙ hb;
        entries = λ r f. ap (map (λ t. entry r (column_number G t.col) (f t.coef))) ht ∙ go-entries r f (ltb (G.from e) (G.to e));
        within = go-within (ltb (G.from e) (G.to e));
      })
    where
      L : Bool → Line
      L p = ordered p (column_number G (W (G.from e))) (column_number G (W (G.to e))) (row_number G x) (constant64 k)

      go-number : (p : Bool) → (L p).row ≡ row_number G x
      go-number true = refl
      go-number false = refl

      go-rhs : (p : Bool) → (L p).rhs ≡ zero64
      go-rhs true = refl
      go-rhs false = refl

      go-entries : (r : ℕ) (f : Float → Float) (p : Bool)
          → map (λ t. entry r (column_number G t.col) (f t.coef))
          (cond p (term (W (G.from e)) (constant64 minus_half) ∷ term (W (G.to e)) (constant64 k) ∷ []) (term (W (G.to e)) (constant64 k) ∷ term (W (G.from e)) (constant64 minus_half) ∷ []))
          ≡ line_at r f (L p)
      go-entries r f true = refl
      go-entries r f false = refl

      from_in : column_number G (W (G.from e)) < nvar G
      from_in = column-below G (W (G.from e)) (h.accepted.from-below e d)

      to_in : column_number G (W (G.to e)) < nvar G
      to_in = column-below G (W (G.to e)) (h.accepted.to_below e d)

      go-within : (p : Bool) → Within (nvar G) (ncon G) (L p)
      go-within true = record { row = row_below G x dr; first = from_in; second = to_in }
      go-within false = record { row = row_below G x dr; first = to_in; second = from_in }

  four : (P : ℕ → Type 0) → P 0 → P 1 → P 2 → P 3 → (q : ℕ) → q < 4 → P q
  four P x y z w zero p = x
  four P x y z w (suc zero) p = y
  four P x y z w (suc (suc zero)) p = z
  four P x y z w (suc (suc (suc zero))) p = w
  four P x y z w (suc (suc (suc (suc q)))) p = absurd (omega arith)

  pub jabr-stands : (e : ℕ) → e < l.m → (c : Cone)
      → c.a ≡ ends_line l (G.from e) (G.to e) (layout_row l (Jabr e 0)) (constant64 minus_half)
      → c.b ≡ single_line (layout_row l (Jabr e 1)) zero64 true (layout_column l (Wr e)) (constant64 minus_one)
      → c.c ≡ single_line (layout_row l (Jabr e 2)) zero64 true (layout_column l (Wi e)) (constant64 minus_one)
      → c.d ≡ ends_line l (G.from e) (G.to e) (layout_row l (Jabr e 3)) (constant64 half)
      → ConeStands G 4 (Jabr e) c
  unfolding terms b
  jabr-stands e d c ea eb ec ed =
      let at : (q : ℕ) → layout_row l (Jabr e q) ≡ row_number G (Jabr e q) = λ q. laid-row l bytes h (Jabr e q) refl in
      let A : Stands G (Jabr e 0) c.a = rw ea (ends_stand (Jabr e 0) e minus_half d (at 0) (jabr-first G e) refl (d, omega arith)) in
      let B : Stands G (Jabr e 1) c.b = rw eb (one-term (Jabr e 1) (Wr e) minus_one true zero64 (at 1) (laid-column l bytes h (Wr e) refl) (λ r f. refl) refl (d, omega arith) d) in
      let C : Stands G (Jabr e 2) c.c = rw ec (one-term (Jabr e 2) (Wi e) minus_one true zero64 (at 2) (laid-column l bytes h (Wi e) refl) (λ r f. refl) refl (d, omega arith) d) in
      let D : Stands G (Jabr e 3) c.d = rw ed (ends_stand (Jabr e 3) e half d (at 3) (jabr-last G e) refl (d, omega arith)) in
      record { lines = four (λ q. Stands G (Jabr e q) (cone_line c q)) A B C D; within = every A.within B.within C.within D.within }
    where
      every : Within (nvar G) (ncon G) c.a → Within (nvar G) (ncon G) c.b → Within (nvar G) (ncon G) c.c → Within (nvar G) (ncon G) c.d → (q : ℕ) → Within (nvar G) (ncon G) (cone_line c q)
      every x y z w zero = x
      every x y z w (suc zero) = y
      every x y z w (suc (suc zero)) = z
      every x y z w (suc (suc (suc q))) = w

  -- no term
  none-there : (x : RowName) (c : ColumnName) (w v : Float) {row col : ℕ} → row ≡ row_number G x → col ≡ column_number G c → terms G x ≡ [] → v ≡ b G x → HasRow G x → HasColumn G c
      → Stands G x (single_line row v false col w)
  unfolding line_at
  none-there x c w v hr hc e p dr dc =
      rw (hr, hc)
      (record { number = refl; rhs = p; entries = λ r f. rw e; within = record { row = row_below G x dr; first = column-below G c dc; second = column-below G c dc } })

  -- the rows x of a thermal cone at these numbers, with the flows p and q at the columns i and j
  thermal-cone : (x : ℕ → RowName) (p q : ColumnName) (rate : Float) (row : ℕ → ℕ) (i j : ℕ)
      → ((u : ℕ) → row u ≡ row_number G (x u)) → i ≡ column_number G p → j ≡ column_number G q → ((u : ℕ) → u < 3 → HasRow G (x u)) → HasColumn G p → HasColumn G q
      → terms G (x 0) ≡ [] → terms G (x 1) ≡ term p (constant64 minus_one) ∷ [] → terms G (x 2) ≡ term q (constant64 minus_one) ∷ []
      → rate ≡ b G (x 0) → zero64 ≡ b G (x 1) → zero64 ≡ b G (x 2)
      → ConeStands G 3 x (thermal (row 0) (row 1) (row 2) rate i j)
  thermal-cone x p q rate row i j at hi hj dx dp dq t0 t1 t2 b0 b1 b2 =
      let A : Stands G (x 0) T.a = none-there (x 0) p zero64 rate (at 0) hi t0 b0 (dx 0 (omega arith)) dp in
      let B : Stands G (x 1) T.b = one-term (x 1) p minus_one true zero64 (at 1) hi (λ r f. rw t1) b1 (dx 1 (omega arith)) dp in
      let C : Stands G (x 2) T.c = one-term (x 2) q minus_one true zero64 (at 2) hj (λ r f. rw t2) b2 (dx 2 (omega arith)) dq in
      record { lines = three A B C; within = every A.within B.within C.within }
    where
      T : Cone
      T = thermal (row 0) (row 1) (row 2) rate i j

      three : Stands G (x 0) T.a → Stands G (x 1) T.b → Stands G (x 2) T.c → (j : ℕ) → j < 3 → Stands G (x j) (cone_line T j)
      three A B C zero d = A
      three A B C (suc zero) d = B
      three A B C (suc (suc zero)) d = C
      three A B C (suc (suc (suc j))) d = absurd (omega arith)

      every : Within (nvar G) (ncon G) T.a → Within (nvar G) (ncon G) T.b → Within (nvar G) (ncon G) T.c → (j : ℕ) → Within (nvar G) (ncon G) (cone_line T j)
      every A B C zero = A
      every A B C (suc zero) = B
      every A B C (suc (suc zero)) = C
      every A B C (suc (suc (suc j))) = C

  -- the layout's row of a limited branch, by the count of those before it, is the network's
  thermal-at : (e limits q : ℕ) → limits ≡ count e G.limited → layout_row l (Thermal limits q) ≡ row_number G (Thermal e q)
  thermal-at e limits q hl = rw hl (laid-thermal l bytes h e q)

  pub from-stands : (e limits : ℕ) → e < l.m → G.limited e ≡ true → limits ≡ count e G.limited
      → ConeStands G 3 (thermal_from e)
      (thermal (layout_row l (Thermal limits 0)) (layout_row l (Thermal limits 1)) (layout_row l (Thermal limits 2)) (b G (Thermal e 0)) (layout_column l (Pf e)) (layout_column l (Qf e)))
  unfolding terms b
  from-stands e limits d on hl =
      thermal-cone (thermal_from e) (Pf e) (Qf e) _ (λ u. layout_row l (Thermal limits u)) _ _ (λ u. thermal-at e limits u hl) (laid-column l bytes h (Pf e) refl) (laid-column l bytes h (Qf e) refl)
      (λ u k. (d, on, omega arith)) d d refl refl refl refl refl refl

  pub to-stands : (e limits : ℕ) → e < l.m → G.limited e ≡ true → limits ≡ count e G.limited
      → ConeStands G 3 (thermal_to e)
      (thermal (layout_row l (Thermal limits 3)) (layout_row l (Thermal limits 4)) (layout_row l (Thermal limits 5)) (b G (Thermal e 3)) (layout_column l (Pt e)) (layout_column l (Qt e)))
  unfolding terms b
  to-stands e limits d on hl =
      thermal-cone (thermal_to e) (Pt e) (Qt e) _ (λ u. layout_row l (Thermal limits (3 + u))) _ _ (λ u. thermal-at e limits (3 + u) hl)
      (laid-column l bytes h (Pt e) refl) (laid-column l bytes h (Qt e) refl)
      (λ u k. (d, on, omega arith)) d d refl refl refl refl refl refl

-- what a line's and a cone's tests pick
pub ends-up : (l : SocWrLayout) (f t r : ℕ) (v : Float) → f < t
    → ends_line l f t r v ≡ line r zero64 (spot true (layout_column l (W f)) (constant64 minus_half)) (spot true (layout_column l (W t)) v)
unfolding ends_line
ends-up l f t r v h = rw (lt-ltb f t h)

pub ends_down : (l : SocWrLayout) (f t r : ℕ) (v : Float) → t ≤ f
    → ends_line l f t r v ≡ line r zero64 (spot true (layout_column l (W t)) v) (spot true (layout_column l (W f)) (constant64 minus_half))
unfolding ends_line
ends_down l f t r v h = rw (le-ltb f t h)
