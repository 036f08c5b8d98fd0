-- What it says that the s of a row, or of a cone's rows, lies in its cone, on whole numbers: s is twice a difference, or the four or three rows are
-- twice the vector whose norm is bounded. Assumes nothing.
use Rattle.std.proofs.Common.{ℕ, suc, ◌+◌, ◌≡◌, refl, subst, sym, ◌∙◌, ap, ◌↔◌, Bool, true, false, List, [], ◌∷◌, arith, ℤ, pos, negsuc, neg_ℤ, ◌+ℤ◌, ◌-ℤ◌, ◌*ℤ◌, nat_abs, ◌≤ℤ◌}
use Rattle.std.proofs.lemmas.Bool.{false≢true}
use mathlib.Core.Logic.Iff
use lib.IntN.{pos-ne-negsuc}
use Rattle.ring.specs.Ops.{whole}
use Rattle.ring.proofs.Laws.{whole-ring, equal-less, less_equal}
use Rattle.ring.proofs.Ring.{E, var, zeroᴱ, twoᴱ, plus, minus, times, opposite, formal, ring}
use Rattle.ring.proofs.Order.{twice, by-twice, by_fourfold}
use Rattle.rows.specs.Rows.{plain, constant, one, minus_one, Cell, cell, ohm_row}
use Rattle.rows.specs.declared.OhmRow.{OhmRow}
use Rattle.records.specs.AcNetwork.{AcNetwork}
use Rattle.numbering.specs.Numbering.{column_key}
use Rattle.numbering.specs.declared.ColumnName.{ColumnName}
use Rattle.numbering.specs.declared.ColumnName.TheVariants.{Pg, Qg, W, Wr, Wi, Pf, Pt, Qf, Qt, CostOf}
use Rattle.numbering.specs.declared.RowName.TheVariants.{Pbal, Qbal, Wub, Wlb, Pgub, Pglb, Qgub, Qglb, Angub, Anglb, Segment, Jabr, Thermal}
use Rattle.manual.specs.Matpower.{scale}
use Rattle.manual.specs.Slack.{slack_of, slack}
use Rattle.manual.specs.Flows.{line_of, point_at, held_flow, manual}
use Rattle.manual.specs.Balance.{mismatch}
use Rattle.manual.specs.Clarabel.{squares, InNorm}
use Rattle.manual.specs.Documents.{Symmetric}
use Rattle.manual.proofs.Ohm.{ohm-law}
use Rattle.manual.proofs.Balance.{pbal-law, qbal-law}
use Rattle.manual.proofs.Jabr.{jabr-sum, jabr-real, jabr_imaginary, jabr_difference}

-- ---- the zero cone
halved : (k : ℤ) → k +ℤ k ≡ pos 0 → k ≡ pos 0
halved (pos n) h = let e : n + n ≡ 0 = ap nat_abs h in ap pos (none n e)
  where
    none : (n : ℕ) → n + n ≡ 0 → n ≡ 0
    none n e = omega arith
halved (negsuc n) h = absurd (pos-ne-negsuc 0 (suc (n + n)) (sym h))

of_twice : (s k : ℤ) → s ≡ pos 2 *ℤ k → (s ≡ pos 0) ↔ (k ≡ pos 0)
of_twice s k e = ((λ z. halved k (sym (twice k) ∙ sym e ∙ z)), (λ h. e ∙ ap (λ i. pos 2 *ℤ i) h))

of_less : (s a b : ℤ) → s ≡ a -ℤ b → (s ≡ pos 0) ↔ (a ≡ b)
of_less s a b e = ((λ z. equal-less whole whole-ring a b (sym e ∙ z)), (λ h. e ∙ less_equal whole whole-ring a b h))

-- ---- a row that a flag switches: it says nothing where the flag is not set
switched : {P Q : Type 0} (b : Bool) → (b ≡ true → P ↔ Q) → (b ≡ false → P) → P ↔ (b ≡ true → Q)
switched true f g = ((λ p h. (f refl).0 p), (λ q. (f refl).1 (q refl)))
switched false f g = ((λ p h. absurd (false≢true h)), (λ q. g refl))

-- b is 1 and there are no cells, so that twice s is 2
one_free : pos 0 ≤ℤ (pos 2 *ℤ pos 1 *ℤ pos 1 -ℤ pos 0)
one_free = record { le = tt }

-- ---- the rows of the nonnegative cone
-- twice b less a
abbrev gap : E → E → E
gap a b = times twoᴱ (minus b a)

-- the s of a row with b and cells, whose columns pg 0, pg 1, .. are the variables
abbrev row_f : E → List (Cell E) → E
row_f b cs = slack_of formal formal.one (λ c. var (column_key c).item) b cs

-- a bound from above and from below
at_most : (p most : ℤ) → pos 2 *ℤ pos 1 *ℤ most -ℤ (pos 2 *ℤ pos 1 *ℤ p +ℤ pos 0) ≡ pos 2 *ℤ (most -ℤ p)
at_most p most = ring whole whole-ring (row_f (var 1) (cell (Pg 0) (constant one) ∷ [])) (gap (var 0) (var 1)) (p ∷ most ∷ []) tt

at_least : (p least : ℤ) → pos 2 *ℤ pos 1 *ℤ neg_ℤ least -ℤ (neg_ℤ (pos 2 *ℤ pos 1) *ℤ p +ℤ pos 0) ≡ pos 2 *ℤ (p -ℤ least)
at_least p least = ring whole whole-ring (row_f (opposite (var 1)) (cell (Pg 0) (constant minus_one) ∷ [])) (gap (var 1) (var 0)) (p ∷ least ∷ []) tt

module _ (G : AcNetwork ℤ) (x : ColumnName → ℤ) where
  pub pbal-zero : (i : ℕ) → (slack whole G x (Pbal i) ≡ pos 0) ↔ ((mismatch whole G x i).re ≡ pos 0)
  pbal-zero i = of_twice (slack whole G x (Pbal i)) (mismatch whole G x i).re (pbal-law whole whole-ring G x i)

  pub qbal-zero : (i : ℕ) → (slack whole G x (Qbal i) ≡ pos 0) ↔ ((mismatch whole G x i).im ≡ pos 0)
  qbal-zero i = of_twice (slack whole G x (Qbal i)) (mismatch whole G x i).im (qbal-law whole whole-ring G x i)

  -- 2 τ² times the manual's flow is 2 τ² times the column's
  pub ohm-zero : (e : ℕ) (r : OhmRow) → Symmetric whole (G.branch e)
      → (slack whole G x (ohm_row r e) ≡ pos 0)
      ↔ (manual whole (line_of whole (G.branch e)) (point_at G x e) r ≡ scale whole (line_of whole (G.branch e)) *ℤ held_flow whole (point_at G x e) r)
  ohm-zero e r s = of_less (slack whole G x (ohm_row r e)) _ _ (ohm-law whole whole-ring G x e r s)

  pub wub-law : (i : ℕ) → (pos 0 ≤ℤ slack whole G x (Wub i)) ↔ (G.bounded i ≡ true → x (W i) ≤ℤ (G.vm_max i *ℤ G.vm_max i))
  wub-law i =
      switched (G.bounded i)
      (λ h. rw h (by-twice _ (x (W i)) (G.vm_max i *ℤ G.vm_max i)
      (ring whole whole-ring (row_f (times (var 1) (var 1)) (cell (Pg 0) (constant one) ∷ [])) (gap (var 0) (times (var 1) (var 1))) (x (W i) ∷ G.vm_max i ∷ []) tt)))
      (λ h. rw h one_free)

  pub wlb-law : (i : ℕ) → (pos 0 ≤ℤ slack whole G x (Wlb i)) ↔ (G.bounded i ≡ true → (G.vm_min i *ℤ G.vm_min i) ≤ℤ x (W i))
  wlb-law i =
      switched (G.bounded i)
      (λ h. rw h (by-twice _ (G.vm_min i *ℤ G.vm_min i) (x (W i))
      (ring whole whole-ring (row_f (times (opposite (var 1)) (var 1)) (cell (Pg 0) (constant minus_one) ∷ [])) (gap (times (var 1) (var 1)) (var 0)) (x (W i) ∷ G.vm_min i ∷ []) tt)))
      (λ h. rw h one_free)

  pub pgub-law : (g : ℕ) → (pos 0 ≤ℤ slack whole G x (Pgub g)) ↔ (G.capable g ≡ true → x (Pg g) ≤ℤ G.pmax g)
  pgub-law g = switched (G.capable g) (λ h. rw h (by-twice _ (x (Pg g)) (G.pmax g) (at_most (x (Pg g)) (G.pmax g)))) (λ h. rw h one_free)

  pub pglb-law : (g : ℕ) → (pos 0 ≤ℤ slack whole G x (Pglb g)) ↔ (G.capable g ≡ true → G.pmin g ≤ℤ x (Pg g))
  pglb-law g = switched (G.capable g) (λ h. rw h (by-twice _ (G.pmin g) (x (Pg g)) (at_least (x (Pg g)) (G.pmin g)))) (λ h. rw h one_free)

  pub qgub-law : (g : ℕ) → (pos 0 ≤ℤ slack whole G x (Qgub g)) ↔ (G.capable g ≡ true → x (Qg g) ≤ℤ G.qmax g)
  qgub-law g = switched (G.capable g) (λ h. rw h (by-twice _ (x (Qg g)) (G.qmax g) (at_most (x (Qg g)) (G.qmax g)))) (λ h. rw h one_free)

  pub qglb-law : (g : ℕ) → (pos 0 ≤ℤ slack whole G x (Qglb g)) ↔ (G.capable g ≡ true → G.qmin g ≤ℤ x (Qg g))
  qglb-law g = switched (G.capable g) (λ h. rw h (by-twice _ (G.qmin g) (x (Qg g)) (at_least (x (Qg g)) (G.qmin g)))) (λ h. rw h one_free)

  pub angub-law : (e : ℕ) → (pos 0 ≤ℤ slack whole G x (Angub e)) ↔ (G.angled e ≡ true → x (Wi e) ≤ℤ (G.tanmax e *ℤ x (Wr e)))
  angub-law e =
      switched (G.angled e)
      (λ h. rw h (by-twice _ (x (Wi e)) (G.tanmax e *ℤ x (Wr e))
      (ring whole whole-ring (row_f zeroᴱ (cell (Pg 0) (plain (opposite (var 2))) ∷ cell (Pg 1) (constant one) ∷ [])) (gap (var 1) (times (var 2) (var 0)))
      (x (Wr e) ∷ x (Wi e) ∷ G.tanmax e ∷ []) tt)))
      (λ h. rw h one_free)

  pub anglb-law : (e : ℕ) → (pos 0 ≤ℤ slack whole G x (Anglb e)) ↔ (G.angled e ≡ true → (G.tanmin e *ℤ x (Wr e)) ≤ℤ x (Wi e))
  anglb-law e =
      switched (G.angled e)
      (λ h. rw h (by-twice _ (G.tanmin e *ℤ x (Wr e)) (x (Wi e))
      (ring whole whole-ring (row_f zeroᴱ (cell (Pg 0) (plain (var 2)) ∷ cell (Pg 1) (constant minus_one) ∷ [])) (gap (times (var 2) (var 0)) (var 1)) (x (Wr e) ∷ x (Wi e) ∷ G.tanmin e ∷ []) tt)))
      (λ h. rw h one_free)

  pub cost-law : (g t : ℕ) → (pos 0 ≤ℤ slack whole G x (Segment g t)) ↔ ((G.slope g t *ℤ x (Pg g) +ℤ G.intercept g t) ≤ℤ x (CostOf g))
  cost-law g t =
      by-twice _ (G.slope g t *ℤ x (Pg g) +ℤ G.intercept g t) (x (CostOf g))
      (ring whole whole-ring (row_f (opposite (var 3)) (cell (Pg 0) (plain (var 2)) ∷ cell (Pg 1) (constant minus_one) ∷ [])) (gap (plus (times (var 2) (var 0)) (var 3)) (var 1))
      (x (Pg g) ∷ x (CostOf g) ∷ G.slope g t ∷ G.intercept g t ∷ []) tt)

-- ---- the second-order cones: the head and the norm, each with what it says
equal_heads : {t a : ℤ} → t ≡ a → pos 0 ≤ℤ t ↔ pos 0 ≤ℤ a
equal_heads e = ((λ h. subst (λ i. pos 0 ≤ℤ i) e h), (λ h. subst (λ i. pos 0 ≤ℤ i) (sym e) h))

four_f : E → E → E
four_f b c = times twoᴱ (times twoᴱ (minus c b))

abbrev norm_f : E → List E → E
norm_f t ys = minus (times t t) (squares formal ys)

-- 2 s = (w_f + w_t, 2 wr, 2 wi, w_f - w_t)
jabr-cone : (t a b c f g u v : ℤ) → t ≡ f +ℤ g → a ≡ pos 2 *ℤ u → b ≡ pos 2 *ℤ v → c ≡ f -ℤ g
    → InNorm (t ∷ a ∷ b ∷ c ∷ []) ↔ (pos 0 ≤ℤ (f +ℤ g)) × ((u *ℤ u +ℤ v *ℤ v) ≤ℤ (f *ℤ g))
unfolding four_f
jabr-cone t a b c f g u v et ea eb ec =
    Iff.and (equal_heads et)
    (by_fourfold (squares whole (a ∷ b ∷ c ∷ [])) (t *ℤ t) (u *ℤ u +ℤ v *ℤ v) (f *ℤ g)
    (rw (et, ea, eb, ec)
    (ring whole whole-ring (norm_f (plus (var 0) (var 1)) (times twoᴱ (var 2) ∷ times twoᴱ (var 3) ∷ minus (var 0) (var 1) ∷ []))
    (four_f (plus (times (var 2) (var 2)) (times (var 3) (var 3))) (times (var 0) (var 1))) (f ∷ g ∷ u ∷ v ∷ []) tt)))

-- the s of a row without cells, and with one
abbrev bare : ℤ → ℤ
bare r = pos 2 *ℤ pos 1 *ℤ r -ℤ pos 0

abbrev less_one : ℤ → ℤ
less_one p = pos 2 *ℤ pos 1 *ℤ pos 0 -ℤ (neg_ℤ (pos 2 *ℤ pos 1) *ℤ p +ℤ pos 0)

-- 2 s = (2 rate, 2 p, 2 q)
thermal-cone : (r p q : ℤ) → InNorm (bare r ∷ less_one p ∷ less_one q ∷ []) ↔ (pos 0 ≤ℤ r) × ((p *ℤ p +ℤ q *ℤ q) ≤ℤ (r *ℤ r))
unfolding four_f
thermal-cone r p q =
    Iff.and
    (by-twice (bare r) (pos 0) r (ring whole whole-ring (row_f (var 0) []) (gap zeroᴱ (var 0)) (r ∷ []) tt))
    (by_fourfold _ _ (p *ℤ p +ℤ q *ℤ q) (r *ℤ r)
    (ring whole whole-ring (norm_f (row_f (var 0) []) (row_f zeroᴱ (cell (Pg 1) (constant minus_one) ∷ []) ∷ row_f zeroᴱ (cell (Pg 2) (constant minus_one) ∷ []) ∷ []))
    (four_f (plus (times (var 1) (var 1)) (times (var 2) (var 2))) (times (var 0) (var 0))) (r ∷ p ∷ q ∷ []) tt))

module _ (G : AcNetwork ℤ) (x : ColumnName → ℤ) (e : ℕ) where
  pub jabr-law : InNorm (slack whole G x (Jabr e 0) ∷ slack whole G x (Jabr e 1) ∷ slack whole G x (Jabr e 2) ∷ slack whole G x (Jabr e 3) ∷ [])
      ↔ (pos 0 ≤ℤ (x (W (G.from e)) +ℤ x (W (G.to e)))) × ((x (Wr e) *ℤ x (Wr e) +ℤ x (Wi e) *ℤ x (Wi e)) ≤ℤ (x (W (G.from e)) *ℤ x (W (G.to e))))
  jabr-law =
      jabr-cone _ _ _ _ (x (W (G.from e))) (x (W (G.to e))) (x (Wr e)) (x (Wi e))
      (jabr-sum whole whole-ring G x e) (jabr-real whole whole-ring G x e) (jabr_imaginary whole whole-ring G x e) (jabr_difference whole whole-ring G x e)

  pub from-law : InNorm (slack whole G x (Thermal e 0) ∷ slack whole G x (Thermal e 1) ∷ slack whole G x (Thermal e 2) ∷ [])
      ↔ (pos 0 ≤ℤ G.rate_a e) × ((x (Pf e) *ℤ x (Pf e) +ℤ x (Qf e) *ℤ x (Qf e)) ≤ℤ (G.rate_a e *ℤ G.rate_a e))
  from-law = thermal-cone (G.rate_a e) (x (Pf e)) (x (Qf e))

  pub to-law : InNorm (slack whole G x (Thermal e 3) ∷ slack whole G x (Thermal e 4) ∷ slack whole G x (Thermal e 5) ∷ [])
      ↔ (pos 0 ≤ℤ G.rate_a e) × ((x (Pt e) *ℤ x (Pt e) +ℤ x (Qt e) *ℤ x (Qt e)) ≤ℤ (G.rate_a e *ℤ G.rate_a e))
  to-law = thermal-cone (G.rate_a e) (x (Pt e)) (x (Qt e))
