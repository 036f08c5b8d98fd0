-- The whole at voltages: an Ohm row's zero s gives the column the manual's power, since 2 τ² can be divided out; so the mismatch is S_bus and the
-- rest of the power balance. A cone of four holds with equality: (w_f + w_t)² - (w_f - w_t)² is 4 |v_f|² |v_t|². Assumes nothing.
use Rattle.std.proofs.Common.{ℕ, ◌<◌, ◌≡◌, sym, ◌∙◌, ap, ap₂, subst, ◌↔◌, List, [], ◌∷◌}
use Rattle.ring.specs.Ops.{Ops}
use Rattle.ring.specs.Laws.{CommutativeRing, Cancels}
use Rattle.ring.proofs.Laws.{equal-less, mul-zero}
use Rattle.ring.proofs.Ring.{E, var, twoᴱ, plus, minus, times, formal, ring}
use Rattle.records.specs.AcNetwork.{AcNetwork}
use Rattle.rows.specs.Rows.{ohm_row, flow_column}
use Rattle.rows.specs.declared.OhmRow.{OhmRow}
use Rattle.rows.specs.declared.OhmRow.TheVariants.{Pf as pf, Qf as qf, Pt as pt, Qt as qt}
use Rattle.numbering.specs.declared.ColumnName.{ColumnName}
use Rattle.numbering.specs.declared.RowName.TheVariants.{Pbal, Qbal, Jabr}
use Rattle.manual.specs.Matpower.{Complex, Line, YbrEntry, ff, ft, tf, tt', real, conj, square, scale, multiple, ybr, sf, st}
use Rattle.manual.specs.Slack.{slack}
use Rattle.manual.specs.Flows.{line_of, from_v}
use Rattle.manual.specs.Balance.{weighed_by, connected, joins, shunt, sbus, sf_at, st_at, left_over, injected, mismatch}
use Rattle.manual.specs.Clarabel.{squares}
use Rattle.manual.specs.Documents.{AtVoltages, Balanced}
use Rattle.manual.proofs.Formal.{complex_f, line_f}
use Rattle.manual.proofs.Branches.{branch-law, shunt-law}
use Rattle.manual.proofs.Ohm.{at-voltages}
use Rattle.manual.proofs.Complexes.{◌⊞◌, ◌⊠◌, a_f, b_f, parts, weighed-times, real-times, csum_ext, cancel, cancels_both, complex-cancel}
use Rattle.manual.proofs.Balance.{pbal-law, qbal-law}
use Rattle.manual.proofs.Split.{split}
use Rattle.manual.proofs.Jabr.{jabr-sum, jabr-real, jabr_imaginary, jabr_difference}

-- ---- a power: z conj(a v_f + b v_t), and with a and b weighed
module _ {A : Type 0} (o : Ops A) where
  abbrev power : Complex A → Complex A → Complex A → Complex A → Complex A → Complex A
  power z a b vf vt = ◌⊠◌ o z (conj o (◌⊞◌ o (◌⊠◌ o a vf) (◌⊠◌ o b vt)))

  abbrev inside : A → Complex A → Complex A → Complex A → Complex A → Complex A → Complex A
  inside k z a b vf vt = power z (weighed_by o k a) (weighed_by o k b) vf vt

  abbrev outside : A → Complex A → Complex A → Complex A → Complex A → Complex A → Complex A
  outside k z a b vf vt = weighed_by o k (power z a b vf vt)

abbrev inside_f : Complex E
inside_f = inside formal (var 0) (complex_f 1 2) (complex_f 3 4) (complex_f 5 6) (complex_f 7 8) (complex_f 9 10)

abbrev outside_f : Complex E
outside_f = outside formal (var 0) (complex_f 1 2) (complex_f 3 4) (complex_f 5 6) (complex_f 7 8) (complex_f 9 10)

module _ {A : Type 0} (o : Ops A) (R : CommutativeRing o) where
  infixl 60 ◌+◌
  infixl 60 ◌-◌
  infixl 70 ◌*◌
  open o use {◌+◌, ◌-◌, ◌*◌, two}

  -- ---- what stands under in Ybr can be divided out
  module _ (l : Line A) (unit : l.cosθ * l.cosθ + l.sinθ * l.sinθ ≡ o.one) (halves : Cancels o two) (ratio : Cancels o l.τ) where
    abbrev numbers : List A
    numbers = l.g ∷ l.b ∷ l.bc ∷ l.τ ∷ l.cosθ ∷ l.sinθ ∷ []

    scale_cancels : Cancels o (scale o l)
    scale_cancels = cancels_both o R two (l.τ * l.τ) halves (cancels_both o R l.τ l.τ ratio ratio)

    turned-square : Cancels o (l.τ * l.τ * (l.cosθ * l.cosθ + l.sinθ * l.sinθ))
    turned-square = subst (λ t. Cancels o (l.τ * l.τ * t)) (sym unit) (subst (Cancels o) (sym (R.mul-one (l.τ * l.τ))) (cancels_both o R l.τ l.τ ratio ratio))

    abbrev turn_f : E
    turn_f = times (times (var 3) (var 3)) (plus (times (var 4) (var 4)) (times (var 5) (var 5)))

    under_cancels : (q : YbrEntry) → Cancels o (square o (ybr o l q).under)
    under_cancels ff =
        subst (Cancels o) (ring o R (times (scale formal line_f) (scale formal line_f)) (square formal (ybr formal line_f ff).under) numbers tt)
        (cancels_both o R (scale o l) (scale o l) scale_cancels scale_cancels)
    under_cancels ft = subst (Cancels o) (ring o R turn_f (square formal (ybr formal line_f ft).under) numbers tt) turned-square
    under_cancels tf = subst (Cancels o) (ring o R turn_f (square formal (ybr formal line_f tf).under) numbers tt) turned-square
    under_cancels tt' =
        subst (Cancels o) (ring o R (times twoᴱ twoᴱ) (square formal (ybr formal line_f tt').under) numbers tt) (cancels_both o R two two halves halves)

    -- so the multiples are 2 τ² times the elements
    multiple-is : (y : YbrEntry → Complex A) (q : YbrEntry) → ◌⊠◌ o (y q) (ybr o l q).under ≡ (ybr o l q).over → multiple o l q ≡ weighed_by o (scale o l) (y q)
    multiple-is y q h =
        complex-cancel o R (multiple o l q) (weighed_by o (scale o l) (y q)) (ybr o l q).under (under_cancels q)
        (sym (branch-law o R l unit q) ∙ real-times o R (scale o l) (ybr o l q).over ∙ ap (λ (t : Complex A). weighed_by o (scale o l) t) (sym h)
        ∙ sym (weighed-times o R (scale o l) (y q) (ybr o l q).under))

  taken_out : (k : A) (z a b vf vt : Complex A) → inside o k z a b vf vt ≡ outside o k z a b vf vt
  taken_out k z a b vf vt =
      let ρ : List A = k ∷ z.re ∷ z.im ∷ a.re ∷ a.im ∷ b.re ∷ b.im ∷ vf.re ∷ vf.im ∷ vt.re ∷ vt.im ∷ [] in
      parts o R (ring o R inside_f.re outside_f.re ρ tt) (ring o R inside_f.im outside_f.im ρ tt)

  module _ (G : AcNetwork A) (x : ColumnName → A) (y : ℕ → YbrEntry → Complex A) (v : ℕ → Complex A) (H : AtVoltages o G x y v) where
    -- ---- a branch whose four Ohm rows have a zero s
    module _ (e : ℕ) (below : e < G.m) where
      abbrev l : Line A
      l = line_of o (G.branch e)

      abbrev vf : Complex A
      vf = v (G.from e)

      abbrev vt : Complex A
      vt = v (G.to e)

      elements : (q : YbrEntry) → multiple o l q ≡ weighed_by o (scale o l) (y e q)
      elements q = multiple-is l (H.unit e below) H.halves (H.ratio e below) (y e) q (H.admittance e below q)

      -- 2 τ² times a power of the elements
      scaled-power : (z : Complex A) (p q : YbrEntry) → power o z (multiple o l p) (multiple o l q) vf vt ≡ weighed_by o (scale o l) (power o z (y e p) (y e q) vf vt)
      scaled-power z p q =
          ap₂ (λ (a b : Complex A). power o z a b vf vt) (elements p) (elements q) ∙ taken_out (scale o l) z (y e p) (y e q) vf vt

      -- where the row's s is zero, the column holds the power
      held : (r : OhmRow) (s : A) → slack o G x (ohm_row r e) ≡ o.zero → from_v o l vf vt r ≡ scale o l * s → x (flow_column r e) ≡ s
      held r s h p =
          let ends = H.buses-below e below in
          let square-from = H.squares (G.from e) ends.0 in
          let square-to = H.squares (G.to e) ends.1 in
          cancel o R (scale o l) (x (flow_column r e)) s (scale_cancels l (H.unit e below) H.halves (H.ratio e below))
          (sym (equal-less o R (from_v o l vf vt r) (scale o l * x (flow_column r e))
          (sym (at-voltages o R G x e vf vt r (H.symmetric e below) square-from square-to (H.real-part e below) (H.imaginary_part e below)) ∙ h))
          ∙ p)

      from-flow : ((r : OhmRow) → slack o G x (ohm_row r e) ≡ o.zero) → sf_at o G x e ≡ sf o (y e) vf vt
      from-flow h =
          parts o R (held pf (sf o (y e) vf vt).re (h pf) (ap (λ (t : Complex A). t.re) (scaled-power vf ff ft)))
          (held qf (sf o (y e) vf vt).im (h qf) (ap (λ (t : Complex A). t.im) (scaled-power vf ff ft)))

      to-flow : ((r : OhmRow) → slack o G x (ohm_row r e) ≡ o.zero) → st_at o G x e ≡ st o (y e) vf vt
      to-flow h =
          parts o R (held pt (st o (y e) vf vt).re (h pt) (ap (λ (t : Complex A). t.re) (scaled-power vt tf tt')))
          (held qt (st o (y e) vf vt).im (h qt) (ap (λ (t : Complex A). t.im) (scaled-power vt tf tt')))

    -- ---- at a bus, the flows and |v|² give S_bus
    joins_ext : (s : ℕ → ℕ) (i : ℕ) (f g : ℕ → Complex A) → ((e : ℕ) → e < G.m → f e ≡ g e) → joins o s i G.m f ≡ joins o s i G.m g
    joins_ext s i f g h =
        csum_ext o R G.m (λ e. weighed_by o (connected o s i e) (f e)) (λ e. weighed_by o (connected o s i e) (g e)) (λ e m. ap (λ (t : Complex A). weighed_by o (connected o s i e) t) (h e m))

    module _ (ohm : (e : ℕ) → e < G.m → (r : OhmRow) → slack o G x (ohm_row r e) ≡ o.zero) (i : ℕ) (h : i < G.n) where
      injected-is : injected o G x i ≡ sbus o G y v i
      injected-is =
          ap₂ (◌⊞◌ o)
          (ap₂ (◌⊞◌ o) (joins_ext G.from i (sf_at o G x) (λ e. sf o (y e) (v (G.from e)) (v (G.to e))) (λ e m. from-flow e m (ohm e m)))
          (joins_ext G.to i (st_at o G x) (λ e. st o (y e) (v (G.from e)) (v (G.to e))) (λ e m. to-flow e m (ohm e m))))
          (ap (λ (t : A). ◌⊠◌ o (conj o (shunt o G i)) (real o t)) (H.squares i h) ∙ sym (shunt-law o R (shunt o G i) (v i)))
          ∙ sym (split o R G y v H.buses-below i h)

      mismatch-is : mismatch o G x i ≡ left_over o G x (sbus o G y v i) i
      mismatch-is = ap (λ (t : Complex A). left_over o G x t i) injected-is

    -- twice a number is zero exactly where the number is
    of_twice : (s a b : A) → s ≡ two * a → a ≡ b → (s ≡ o.zero) ↔ (b ≡ o.zero)
    of_twice s a b p q =
        ((λ z. sym q ∙ H.halves a (sym p ∙ z)), (λ z. p ∙ ap (λ t. two * t) (q ∙ z) ∙ mul-zero o R two))

    -- ---- the cone of four
    jabr-equal : (e : ℕ) → e < G.m
        → squares o (slack o G x (Jabr e 1) ∷ slack o G x (Jabr e 2) ∷ slack o G x (Jabr e 3) ∷ []) ≡ slack o G x (Jabr e 0) * slack o G x (Jabr e 0)
    jabr-equal e below =
        let vf : Complex A = v (G.from e) in
        let vt : Complex A = v (G.to e) in
        rw (
          jabr-sum o R G x e,
          jabr-real o R G x e,
          jabr_imaginary o R G x e,
          jabr_difference o R G x e,
          H.squares (G.from e) (H.buses-below e below).0,
          H.squares (G.to e) (H.buses-below e below).1,
          H.real-part e below,
          H.imaginary_part e below,
        )
        (ring o R
        (squares formal (times twoᴱ (◌⊠◌ formal a_f (conj formal b_f)).re ∷ times twoᴱ (◌⊠◌ formal a_f (conj formal b_f)).im ∷ minus (square formal a_f) (square formal b_f) ∷ []))
        (times (plus (square formal a_f) (square formal b_f)) (plus (square formal a_f) (square formal b_f)))
        (vf.re ∷ vf.im ∷ vt.re ∷ vt.im ∷ []) tt)

    pub balanced : Balanced o G x y v
    balanced =
        record {
          active = λ ohm i h. of_twice (slack o G x (Pbal i)) (mismatch o G x i).re _ (pbal-law o R G x i) (ap (λ (t : Complex A). t.re) (mismatch-is ohm i h));
          reactive = λ ohm i h. of_twice (slack o G x (Qbal i)) (mismatch o G x i).im _ (qbal-law o R G x i) (ap (λ (t : Complex A). t.im) (mismatch-is ohm i h));
          cone = jabr-equal;
        }
